use Rattle.mg_check.proofs.Numbering.{nodes_more, next_more}
use Rattle.mg_check.proofs.nodes.nodes_of.Goals as goal

pub loop-draft-preserved : goal.loop-draft-preserved
loop-draft-preserved c = record {
  made = nodes_more c.args.streams.now c.args.sides.now c.args.first c.loop-draft.yielded c.in-Some.draft c.push.new.self.items c.loop-draft.nodes.items c.in_ok-node_of.field-0 c.loop-draft.next
      c.in_ok-push.ensures.items c.in_ok-node_of.ensures c.loop-draft.invariant.made c.loop-draft.invariant.next;
  next = next_more c.args.first c.loop-draft.yielded c.in-Some.draft c.as_slice.result.now c.loop-draft.next c.in_ok-count.count c.in-Some-checked_add.end
      c.in-Some-checked_add.ensures.1 c.in_ok-count.ensures c.as_slice.ensures.value c.loop-draft.invariant.next;
}

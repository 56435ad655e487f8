use Rattle.std.proofs.Common.{◌≡◌, length, ap, ◌∙◌, arith}
use Rattle.mg_live.proofs.InTurn.{zeros, handed_more, read_there, pushed_long, none_more, none_yet}
use Rattle.mg_live.proofs.live_nodes.takers_of.Goals as goal

pub loop-free-preserved : goal.loop-free-preserved
loop-free-preserved c = record {
  count = pushed_long c.loop-free.takers.items c.push.new.self.items c.in_ok-new.field-0 c.loop-free.free-index c.in_ok-push.ensures.items c.loop-free.invariant.count;
  handed = handed_more c.loop-free.takers.items c.push.new.self.items c.in_ok-new.field-0 c.loop-free.free-index c.in_ok-push.ensures.items c.in_ok-new.ensures.handed c.loop-free.invariant.handed;
  each = none_more c.args.frees.now c.loop-free.takers.items c.push.new.self.items c.loop-free.free-index c.free-item.result c.in_ok-new.field-0 c.in_ok-push.ensures.items c.loop-free.invariant.count
      (read_there c.args.frees.now c.loop-free.free-index c.free-item.result c.loop-free-test.true c.free-item.is) c.in_ok-new.ensures.taken c.loop-free.invariant.each;
}

pub returns-clause-taken : goal.returns-clause-taken
returns-clause-taken c =
    let count = c.loop-free.invariant.count in
    let past = c.loop-free-test.false in
    let most = c.loop-free.auto.free-index-end in
    none_yet c.args.frees.now c.loop-free.takers.items (omega (arith, count, past, most)) c.loop-free.invariant.each

pub returns-clause-handed : goal.returns-clause-handed
returns-clause-handed c =
    let past = c.loop-free-test.false in
    let most = c.loop-free.auto.free-index-end in
    c.loop-free.invariant.handed ∙ ap zeros (let e : c.loop-free.free-index ≡ length c.args.frees.now = omega (arith, past, most) in e)

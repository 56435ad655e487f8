use Rattle.std.proofs.Common.{◌∙◌, sym, ap, arith}
use Rattle.mg_throttle.proofs.Sources.{sources-yes, sources-no}
use Rattle.mg_crew.proofs.chart.sources_among.Goals as goal
use Rattle.mg_crew.proofs.chart.sources_among.Goals.{then-is_empty+in_ok-push, else-is_empty}

pub loop-number-preserved : goal.loop-number-preserved
loop-number-preserved c = elim c.if-is_empty.branch [
  | then-is_empty+in_ok-push w ↦ sources-yes c.args.nodes.now c.loop-number.number c.index-nodes-number.result c.loop-number.found.items _ (omega arith) c.index-nodes-number.is (sym w.if-is_empty.ensures) c.loop-number.invariant
      (ap (λ v. v.items) w.found-is ∙ w.in_ok-push.ensures.items)
  | else-is_empty w ↦ ap (λ v. v.items) w.found-is
      ∙ sources-no c.args.nodes.now c.loop-number.number c.index-nodes-number.result c.loop-number.found.items (omega arith) c.index-nodes-number.is (sym w.if-is_empty.ensures) c.loop-number.invariant
]

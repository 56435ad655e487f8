use Rattle.std.proofs.Common.{ap, subst, get_or, length, arith}
use Rattle.mg_throttle.specs.Code.Reach.{Gathers}
use Rattle.mg_throttle.proofs.Feeding.{IsDone-next, IsReachedBy-all}
use Rattle.mg_throttle.proofs.reach.rows_of.Goals as goal

pub loop-node-preserved : goal.loop-node-preserved
loop-node-preserved c =
    let same = c.as_slice-node-items.ensures in
    let len = ap length same in
    IsDone-next c.args.plan.now c.requires.valid c.loop-node.rows.items c.loop-node.node-index _ _ c.loop-node.invariant (omega arith)
    (ap (λ xs. get_or xs c.loop-node.node-index 0) same) (subst (λ rows. Gathers c.args.plan.now rows (get_or c.as_slice-node-items.result.now c.loop-node.node-index 0) c.in_ok-row.row) c.as_slice.ensures.value c.in_ok-row.ensures)

pub returns-clause-reached : goal.returns-clause-reached
returns-clause-reached c =
    let len = ap length c.as_slice-node-items.ensures in
    IsReachedBy-all c.args.plan.now c.requires.valid c.loop-node.rows.items c.loop-node.node-index c.loop-node.invariant (omega arith)

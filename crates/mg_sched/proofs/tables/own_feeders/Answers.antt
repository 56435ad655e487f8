use Rattle.std.proofs.Common.{◌≡◌, length, slice_get, Some, refl, sym, ap, ◌∙◌}
use Rattle.std.proofs.lemmas.Option.{slice_get_read}
use Rattle.mg_sched.proofs.PlanFeeders.{own_feeder, own_none}
use Rattle.mg_sched.proofs.tables.own_feeders.Goals as goal
use Rattle.mg_sched.proofs.tables.own_feeders.Goals.{then-is_empty+in_ok-push, else-is_empty+in_ok-push-2}

pub loop-node-preserved : goal.loop-node-preserved
loop-node-preserved c =
    let plan = c.args.plan.now in
    let i = c.loop-node.node-index in
    let own = c.loop-node.own.items in
    let node = c.node-item.result in
    let there : slice_get plan.nodes i ≡ Some node =
    ap (λ l. slice_get l i) (sym c.as_slice-node-items.ensures)
    ∙ slice_get_read c.as_slice-node-items.result.now (length c.as_slice-node-items.result.now) i node refl c.loop-node-test.true c.node-item.is in
    elim c.if-is_empty.branch [
      | then-is_empty+in_ok-push w ↦ own_feeder plan i c.loop-node.next c.if-is_empty.next own c.if-is_empty.own.items node c.loop-node.invariant there (sym w.if-is_empty.ensures) w.next-is
          (ap (λ v. v.items) w.own-is ∙ w.in_ok-push.ensures.items)
      | else-is_empty+in_ok-push-2 w ↦ own_none plan i c.loop-node.next c.if-is_empty.next own c.if-is_empty.own.items node c.loop-node.invariant there (sym w.if-is_empty.ensures) w.next-is
          (ap (λ v. v.items) w.own-is ∙ w.in_ok-push-2.ensures.items)
    ]

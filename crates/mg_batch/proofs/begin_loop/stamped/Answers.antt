use Rattle.std.proofs.Common.{ap, ◌∙◌, arith}
use Rattle.mg_value.specs.Payload.{plain}
use Rattle.mg_batch.proofs.InnerTimes.{stamped-more}
use Rattle.mg_batch.proofs.begin_loop.stamped.Goals as goal

pub loop-item-preserved : goal.loop-item-preserved
loop-item-preserved c = (
  omega (arith, c.loop-item.invariant.0),
  c.in_ok-push.ensures.items
      ∙ stamped-more plain c.args.first c.loop-item.item-index c.loop-item.number _ c.args.items.now c.item-item.result _ c.loop-item.packets.items c.loop-item-test.true c.item-item.is
      (ap plain c.in_ok-payload.ensures.ok ∙ c.in_ok-copied.ensures) c.inner_time-at.ensures c.loop-item.invariant.0 c.loop-item.invariant.1,
)

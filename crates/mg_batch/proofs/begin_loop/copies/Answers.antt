use Rattle.std.proofs.Common.{ap, ◌∙◌}
use Rattle.mg_value.specs.Payload.{plain}
use Rattle.mg_batch.proofs.InnerTimes.{copies-more}
use Rattle.mg_batch.proofs.begin_loop.copies.Goals as goal

pub loop-i-preserved : goal.loop-i-preserved
loop-i-preserved c =
    c.in_ok-push.ensures.items
    ∙ copies-more c.args.first c.loop-i.i _ c.args.packet.now _ c.loop-i.packets.items (ap plain c.in_ok-payload.ensures ∙ ap (λ p. p.value) c.packet.view_is) c.inner_time-at.ensures c.loop-i.invariant

use Rattle.std.proofs.Common.{◌∙◌, ap}
use Rattle.mg_time.specs.Time.{next}
use Rattle.mg_trace.proofs.Texts.{bound_by_last}
use Rattle.mg_trace.proofs.job_text.bound_left.Goals as goal

pub returns-in-Some : goal.returns-in-Some
returns-in-Some c =
    c.next_allowed.ensures ∙ ap (λ p. next p.at) c.packet.view_is ∙ bound_by_last c.args.packets.now c.in-Some.packet.now c.in-Some.ensures.value

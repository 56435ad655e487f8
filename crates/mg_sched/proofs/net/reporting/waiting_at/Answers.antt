use Rattle.std.proofs.Common.{ℕ, ◌-◌, ◌^◌, min, ap, ◌∙◌}
use Rattle.mg_node.specs.Views.{IntakeView}
use Rattle.mg_node.specs.Ports.{waiting_in}
use Rattle.mg_node.proofs.Lemmas.{held_all}
use Rattle.mg_sched.proofs.HeldIn.{part_more}
use Rattle.mg_sched.proofs.net.reporting.waiting_at.Goals as goal

abbrev waiting : IntakeView → ℕ
waiting i = waiting_in i.waits

pub loop-intake-preserved : goal.loop-intake-preserved
loop-intake-preserved c =
    part_more waiting c.args.intakes.now c.loop-intake.intake-index c.intake-item.result c.loop-intake.held _ _ (2 ^ 64 - 1) c.loop-intake-test.true
    (c.held.ensures ∙ ap (λ (i : IntakeView). min (waiting i) (2 ^ 64 - 1)) c.intake-item.is) c.loop-intake.invariant c.saturating_add-held.ensures

pub returns : goal.returns
returns c = held_all waiting c.args.intakes.now c.loop-intake.intake-index _ (2 ^ 64 - 1) c.loop-intake-test.false c.loop-intake.invariant

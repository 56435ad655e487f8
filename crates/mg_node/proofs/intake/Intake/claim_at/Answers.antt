use Rattle.std.proofs.Common.{◌+◌, ◌≤◌, refl, arith, subst, sym}
use Rattle.mg_time.specs.Time.{done}
use Rattle.mg_node.specs.Views.{IntakeView}
use Rattle.mg_node.specs.Claims.{Takes}
use Rattle.mg_node.specs.Intakes.{SomeJobHasIntake}
use Rattle.mg_node.proofs.Claiming.{claim_lawful, claim_fits, claim_shows}
use Rattle.mg_node.proofs.IntakesGrow.{taking_grows}
use Rattle.mg_node.proofs.intake.Intake.claim_at.Goals as goal

pub overflow_add-self : goal.overflow_add-self
overflow_add-self c =
    let few : c.self.inside.claimed + 1 ≤ done = claim_fits (record { claimed = c.self.inside.claimed; waits = c.self.inside.waits }) c.claim_known.new.waits c.claim_known.new.into c.claim_known.ensures.holds
    (subst (λ (v : IntakeView). SomeJobHasIntake v) (sym c.self.view_is) c.requires.lawful) in
    omega (arith, few)

pub returns : goal.returns
returns c =
    let claimed = c.self.inside.claimed in
    let now = c.claim_known.new.waits in
    let set = c.claim_known.new.into in
    let e = c.claim_known.ensures in
    let view : IntakeView = record { claimed = claimed; waits = c.self.inside.waits } in
    let some : SomeJobHasIntake view = subst (λ (v : IntakeView). SomeJobHasIntake v) (sym c.self.view_is) c.requires.lawful in
    let takes : Takes view (record { claimed = claimed + 1; waits = now }) set = record {
      shown = e.shown;
      counted = refl;
      grows = taking_grows view now some e.grow;
      left = e.left;
      ports = e.ports;
      counts = e.counts;
      bounds = e.bounds;
      stays_lawful = λ job consumer lawful. claim_lawful job consumer view now set e.holds lawful;
      in_solution = λ job consumer streams solves lawful. claim_shows job consumer streams view now set e.holds solves lawful;
    } in
    subst (λ (v : IntakeView). Takes v (record { claimed = claimed + 1; waits = now }) set) c.self.view_is takes

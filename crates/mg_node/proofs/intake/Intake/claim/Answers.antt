use Rattle.std.proofs.Common.{◌+◌, ◌≤◌, arith, subst, sym}
use Rattle.mg_time.specs.Time.{done}
use Rattle.mg_node.specs.Views.{IntakeView}
use Rattle.mg_node.specs.Lawful.{LawfulIntake}
use Rattle.mg_node.specs.Intakes.{SomeJobHasIntake, HasSet}
use Rattle.mg_node.proofs.Claiming.{claim_lawful, claim_fits, claim_shows}
use Rattle.mg_node.specs.IntakeStanding.{IntakeGrows}
use Rattle.mg_node.proofs.IntakesGrow.{taking_grows}
use Rattle.mg_node.proofs.intake.Intake.claim.Goals as goal

pub overflow_add-self : goal.overflow_add-self
overflow_add-self c =
    let few : c.self.inside.claimed + 1 ≤ done = claim_fits (record { claimed = c.self.inside.claimed; waits = c.self.inside.waits }) c.claim_of.new.waits c.claim_of.new.into c.if-not-claim_of.ensures.holds
    (subst (λ (v : IntakeView). SomeJobHasIntake v) (sym c.self.view_is) c.requires.lawful) in
    omega (arith, few)

pub returns-clause-grows : goal.returns-clause-grows
returns-clause-grows c =
    subst (λ (v : IntakeView). IntakeGrows v (record { claimed = c.self.inside.claimed + 1; waits = c.claim_of.new.waits })) c.self.view_is
    (taking_grows (record { claimed = c.self.inside.claimed; waits = c.self.inside.waits }) c.claim_of.new.waits (subst (λ (v : IntakeView). SomeJobHasIntake v) (sym c.self.view_is) c.requires.lawful) c.if-not-claim_of.ensures.grow)

pub returns-clause-stays_lawful : goal.returns-clause-stays_lawful
returns-clause-stays_lawful c = λ laws job consumer lawful.
    claim_lawful job consumer (record { claimed = c.self.inside.claimed; waits = c.self.inside.waits }) c.claim_of.new.waits c.claim_of.new.into c.if-not-claim_of.ensures.holds
    (subst (λ (v : IntakeView). LawfulIntake job consumer v) (sym c.self.view_is) lawful)

pub returns-clause-in_solution : goal.returns-clause-in_solution
returns-clause-in_solution c = λ laws job consumer streams solves lawful.
    subst (λ (v : IntakeView). HasSet job streams consumer v.claimed c.claim_of.new.into) c.self.view_is
    (claim_shows job consumer streams (record { claimed = c.self.inside.claimed; waits = c.self.inside.waits }) c.claim_of.new.waits c.claim_of.new.into c.if-not-claim_of.ensures.holds solves
    (subst (λ (v : IntakeView). LawfulIntake job consumer v) (sym c.self.view_is) lawful))

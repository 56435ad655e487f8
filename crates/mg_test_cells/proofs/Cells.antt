-- Each call on a cell leaves it a cell.
use Rattle.std.proofs.Common.{◌≡◌, ℕ, sym, refl, subst, ap}
use Rattle.mg_calc.specs.Rules.{Laws}
use Rattle.mg_calc.specs.declared.plan.Plan.{Plan}
use Rattle.mg_calc.specs.declared.inputs.Inputs.{Inputs}
use Rattle.mg_node.specs.declared.role.Role.{Role}
use Rattle.mg_node.specs.Views.{IntakeView, PerformedView, OutcomeView, EngineView}
use Rattle.mg_node.specs.Lawful.{of_node, Agree, AgreeBy, LawfulEngine}
use Rattle.mg_node.specs.Advances.{advanced}
use Rattle.mg_node.specs.Commits.{Commits}
use Rattle.mg_node.specs.Shelves.{IsOut, outcome_of}
use Rattle.mg_test_cells.specs.Cell.{job_of, IsCell}
use Rattle.mg_test_cells.proofs.Keeping.{keeps_by, advanced_gone}

pub agree_still : (engine engine_now : EngineView) (intake intake_now : IntakeView) → engine_now.role ≡ engine.role → engine_now.claimed ≡ engine.claimed → intake_now.claimed ≡ intake.claimed → Agree engine intake → Agree engine_now intake_now
agree_still engine engine_now intake intake_now role claimed counted agree =
    subst (λ (r : Role). AgreeBy r engine_now.claimed intake_now.claimed) (sym role)
    (subst (λ (n : ℕ). AgreeBy engine.role n intake_now.claimed) (sym claimed) (subst (λ (n : ℕ). AgreeBy engine.role engine.claimed n) (sym counted) agree))

-- A commit.
pub committed_cell : {laws : Laws} (plan : Plan) (inputs : Inputs) (sink : IntakeView) (n : ℕ) (engine engine_now : EngineView) (intake : IntakeView) (outcome : OutcomeView) → IsCell laws plan inputs engine intake sink → LawfulEngine (job_of laws plan inputs) (of_node 0) engine_now
    → Commits outcome n engine engine_now → IsCell laws plan inputs engine_now intake sink
committed_cell {laws} plan inputs sink n engine engine_now intake outcome c lawful commits = record {
  is_job = c.is_job;
  lawful_engine = lawful;
  lawful_intake = c.lawful_intake;
  agree = agree_still engine engine_now intake intake (ap (λ (v : EngineView). v.role) commits.others) (ap (λ (v : EngineView). v.claimed) commits.others) refl c.agree;
  lawful_sink = c.lawful_sink;
  keeps = keeps_by engine engine_now commits.given_up c.keeps;
}

-- An advance.
pub advanced_cell : {laws : Laws} (plan : Plan) (inputs : Inputs) (engine engine_now : EngineView) (intake sink : IntakeView) → IsCell laws plan inputs engine intake sink → engine_now ≡ advanced engine intake.waits → LawfulEngine (job_of laws plan inputs) (of_node 0) engine_now
    → IsCell laws plan inputs engine_now intake sink
advanced_cell {laws} plan inputs engine engine_now intake sink c is lawful = record {
  is_job = c.is_job;
  lawful_engine = lawful;
  lawful_intake = c.lawful_intake;
  agree = agree_still engine engine_now intake intake (ap (λ (v : EngineView). v.role) is) (ap (λ (v : EngineView). v.claimed) is) refl c.agree;
  lawful_sink = c.lawful_sink;
  keeps = keeps_by engine engine_now (advanced_gone engine engine_now intake.waits is) c.keeps;
}

pub done_out : (engine : EngineView) (p : PerformedView) (o : OutcomeView) → IsOut engine p.work → o ≡ outcome_of p → IsOut engine o.work
done_out engine p o out is = subst (λ (x : OutcomeView). IsOut engine x.work) (sym is) out

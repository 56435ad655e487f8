-- A claim leaves a node's engine and its intake lawful for every job, and agreed, and hands out lawful works.
use Rattle.mg_calc.specs.Rules.{Laws}
use Rattle.std.proofs.Common.{◌≡◌, ℕ, ◌+◌, ap, sym, subst, arith, inl, inr}
use Rattle.mg_node.specs.declared.role.Role.{Role}
use Rattle.mg_node.specs.declared.role.Role.TheVariants.{Sets}
use Rattle.mg_node.specs.declared.claimed.Claimed.{Claimed}
use Rattle.mg_node.specs.declared.claimed.Claimed.TheVariants.{Work, Answered, NotReady, InFlightFull, Draining, Ended, OutOfMemory}
use Rattle.mg_node.specs.Views.{IntakeView, WorkView, EngineView}
use Rattle.mg_node.specs.Job.{LoggedJob}
use Rattle.mg_node.specs.Lawful.{LawfulIntake, LawfulEngine, of_node, AgreeBy}
use Rattle.mg_node.specs.Claims.{AreSame, TakesUnrun, TakesCall, TakesSet, TakesClose, TakesAnswer, Claims, IsLawfulWork, LawfulClaim}
use Rattle.mg_node.proofs.ClaimsKeep.{unrun_lawful, call_lawful, set_lawful}
use Rattle.mg_node.proofs.Closing.{close_lawful}
use Rattle.mg_node.proofs.AnswerKeeps.{answered_lawful}

agree_same : (engine engine_now : EngineView) (intake intake_now : IntakeView) → engine_now ≡ engine → intake_now ≡ intake → AgreeBy engine.role engine.claimed intake.claimed → AgreeBy engine_now.role engine_now.claimed intake_now.claimed
agree_same engine engine_now intake intake_now e i agree =
    subst (λ (v : EngineView). AgreeBy v.role v.claimed intake_now.claimed) (sym e) (subst (λ (v : IntakeView). AgreeBy engine.role engine.claimed v.claimed) (sym i) agree)

kept : {laws : Laws} {C : Type 0} (job : LoggedJob laws) (number : ℕ) (result : Claimed C) (engine engine_now : EngineView) (intake intake_now : IntakeView) → LawfulEngine job (of_node number) engine → LawfulIntake job number intake → AgreeBy engine.role engine.claimed intake.claimed
    → AreSame engine intake engine_now intake_now → IsLawfulWork job result → LawfulClaim job number result engine_now intake_now
kept {laws} job number result engine engine_now intake intake_now h i agree s work = record {
  lawful_engine = subst (λ (v : EngineView). LawfulEngine job (of_node number) v) (sym s.same_engine) h;
  lawful_intake = subst (λ (v : IntakeView). LawfulIntake job number v) (sym s.same_intake) i;
  agree = agree_same engine engine_now intake intake_now s.same_engine s.same_intake agree;
  work = work;
}

agree_unrun : (engine engine_now : EngineView) (intake intake_now : IntakeView) (work : WorkView) → TakesUnrun engine engine_now work → intake_now ≡ intake → AgreeBy engine.role engine.claimed intake.claimed → AgreeBy engine_now.role engine_now.claimed intake_now.claimed
agree_unrun engine engine_now intake intake_now work t same agree =
    subst (λ (v : EngineView). AgreeBy v.role v.claimed intake_now.claimed) (sym t.now) (subst (λ (v : IntakeView). AgreeBy engine.role engine.claimed v.claimed) (sym same) agree)

agree_call : (engine engine_now : EngineView) (intake intake_now : IntakeView) (work : WorkView) → TakesCall engine engine_now work → intake_now ≡ intake → AgreeBy engine.role engine.claimed intake.claimed → AgreeBy engine_now.role engine_now.claimed intake_now.claimed
agree_call engine engine_now intake intake_now work t same agree =
    subst (λ (v : EngineView). AgreeBy v.role v.claimed intake_now.claimed) (sym t.hands.now)
    (subst (λ (v : IntakeView). AgreeBy engine.role (engine.claimed + 1) v.claimed) (sym same)
    (subst (λ (r : Role). AgreeBy r (engine.claimed + 1) intake.claimed) (sym t.role) (subst (λ (r : Role). AgreeBy r engine.claimed intake.claimed) t.role agree)))

agree_close : (engine engine_now : EngineView) (intake intake_now : IntakeView) (work : WorkView) → TakesClose engine engine_now intake.waits work → intake_now ≡ intake → AgreeBy engine.role engine.claimed intake.claimed → AgreeBy engine_now.role engine_now.claimed intake_now.claimed
agree_close engine engine_now intake intake_now work t same agree =
    subst (λ (v : EngineView). AgreeBy v.role v.claimed intake_now.claimed) (sym t.hands.now)
    (subst (λ (v : IntakeView). AgreeBy engine.role (engine.claimed + 0) v.claimed) (sym same)
    (subst (λ (n : ℕ). AgreeBy engine.role n intake.claimed) (omega (arith)) agree))

agree_set : (engine engine_now : EngineView) (intake intake_now : IntakeView) (work : WorkView) → TakesSet engine engine_now intake intake_now work → AgreeBy engine.role engine.claimed intake.claimed → AgreeBy engine_now.role engine_now.claimed intake_now.claimed
agree_set engine engine_now intake intake_now work t agree =
    let same : engine.claimed ≡ intake.claimed = subst (λ (r : Role). AgreeBy r engine.claimed intake.claimed) t.role agree in
    let counted = t.takes.counted in
    let next : engine.claimed + 1 ≡ intake_now.claimed = omega (arith, same, counted) in
    subst (λ (v : EngineView). AgreeBy v.role v.claimed intake_now.claimed) (sym t.hands.now)
    (subst (λ (r : Role). AgreeBy r (engine.claimed + 1) intake_now.claimed) (sym t.role) next)

agree_answer : (engine engine_now : EngineView) (intake intake_now : IntakeView) → TakesAnswer engine engine_now intake intake_now → AgreeBy engine.role engine.claimed intake.claimed → AgreeBy engine_now.role engine_now.claimed intake_now.claimed
agree_answer engine engine_now intake intake_now t agree =
    let same : engine.claimed ≡ intake.claimed = subst (λ (r : Role). AgreeBy r engine.claimed intake.claimed) t.role agree in
    let counted : intake_now.claimed ≡ intake.claimed + 1 = ap (λ (v : IntakeView). v.claimed) t.intake_is in
    let next : engine.claimed + 1 ≡ intake_now.claimed = omega (arith, same, counted) in
    subst (λ (v : EngineView). AgreeBy v.role v.claimed intake_now.claimed) (sym t.now)
    (subst (λ (r : Role). AgreeBy r (engine.claimed + 1) intake_now.claimed) (sym t.role) next)

set_agrees : (engine : EngineView) (intake : IntakeView) → engine.role ≡ Sets → AgreeBy engine.role engine.claimed intake.claimed → engine.claimed ≡ intake.claimed
set_agrees engine intake role agree = subst (λ (r : Role). AgreeBy r engine.claimed intake.claimed) role agree

work_lawful : {laws : Laws} {C : Type 0} (job : LoggedJob laws) (number : ℕ) (work : WorkView) (engine engine_now : EngineView) (intake intake_now : IntakeView) → LawfulEngine job (of_node number) engine → LawfulIntake job number intake → AgreeBy engine.role engine.claimed intake.claimed
    → Claims {C = C} (Work work) engine engine_now intake intake_now → LawfulClaim {C = C} job number (Work work) engine_now intake_now
work_lawful {laws} job number work engine engine_now intake intake_now h i agree (inl (goes, t, same)) = record {
  lawful_engine = (unrun_lawful job number engine engine_now work h t).0;
  lawful_intake = subst (λ (v : IntakeView). LawfulIntake job number v) (sym same) i;
  agree = agree_unrun engine engine_now intake intake_now work t same agree;
  work = (unrun_lawful job number engine engine_now work h t).1;
}
work_lawful {laws} job number work engine engine_now intake intake_now h i agree (inr (may, inl (t, same))) = record {
  lawful_engine = (call_lawful job number engine engine_now work h may t).0;
  lawful_intake = subst (λ (v : IntakeView). LawfulIntake job number v) (sym same) i;
  agree = agree_call engine engine_now intake intake_now work t same agree;
  work = (call_lawful job number engine engine_now work h may t).1;
}
work_lawful {laws} job number work engine engine_now intake intake_now h i agree (inr (may, inr (inl (t, same)))) = record {
  lawful_engine = (close_lawful job number engine engine_now intake work h i agree may t).0;
  lawful_intake = subst (λ (v : IntakeView). LawfulIntake job number v) (sym same) i;
  agree = agree_close engine engine_now intake intake_now work t same agree;
  work = (close_lawful job number engine engine_now intake work h i agree may t).1;
}
work_lawful {laws} job number work engine engine_now intake intake_now h i agree (inr (may, inr (inr t))) = record {
  lawful_engine = (set_lawful job number engine engine_now intake intake_now work h i (set_agrees engine intake t.role agree) may t).0;
  lawful_intake = t.takes.stays_lawful job number i;
  agree = agree_set engine engine_now intake intake_now work t agree;
  work = (set_lawful job number engine engine_now intake intake_now work h i (set_agrees engine intake t.role agree) may t).1;
}

pub claim_lawful : {laws : Laws} {C : Type 0} (job : LoggedJob laws) (number : ℕ) (result : Claimed C) (engine engine_now : EngineView) (intake intake_now : IntakeView) → LawfulEngine job (of_node number) engine → LawfulIntake job number intake → AgreeBy engine.role engine.claimed intake.claimed
    → Claims result engine engine_now intake intake_now → LawfulClaim job number result engine_now intake_now
claim_lawful {laws} job number (Work work) engine engine_now intake intake_now h i agree c = work_lawful job number work engine engine_now intake intake_now h i agree c
claim_lawful {laws} job number Answered engine engine_now intake intake_now h i agree c = record {
  lawful_engine = (answered_lawful job number engine engine_now intake intake_now h i agree c.0 c.1).0;
  lawful_intake = (answered_lawful job number engine engine_now intake intake_now h i agree c.0 c.1).1;
  agree = agree_answer engine engine_now intake intake_now c.1 agree;
  work = tt;
}
claim_lawful {laws} job number NotReady engine engine_now intake intake_now h i agree c = kept job number NotReady engine engine_now intake intake_now h i agree c.2 tt
claim_lawful {laws} job number InFlightFull engine engine_now intake intake_now h i agree c = kept job number InFlightFull engine engine_now intake intake_now h i agree c.3 tt
claim_lawful {laws} job number Draining engine engine_now intake intake_now h i agree c = kept job number Draining engine engine_now intake intake_now h i agree c.3 tt
claim_lawful {laws} job number Ended engine engine_now intake intake_now h i agree c = kept job number Ended engine engine_now intake intake_now h i agree c.1 tt
claim_lawful {laws} job number OutOfMemory engine engine_now intake intake_now h i agree c = kept job number OutOfMemory engine engine_now intake intake_now h i agree c.2 tt

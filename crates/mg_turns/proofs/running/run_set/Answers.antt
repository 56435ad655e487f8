use Rattle.std.proofs.Common.{ℕ, ◌+◌, MatchBool, ap, ◌∙◌, sym, subst, inl, inr}
use Rattle.mg_node.specs.Views.{IntakeView, EngineView}
use Rattle.mg_node.specs.Lawful.{AreCell}
use Rattle.mg_turns.specs.Told.{committed_in}
use Rattle.mg_turns.specs.Rounds.{Stops}
use Rattle.mg_turns.specs.Code.Running.{CellSteps, SomeRound}
use Rattle.mg_turns.proofs.Committed.{not_ready_ends}
use Rattle.mg_turns.proofs.Rounds.{ran_by, done_round, back_stops}
use Rattle.mg_turns.proofs.AtOnce.{claimed_out, claimed_engine, claimed_work, claimed_steps, claimed_counts, unready_steps, committed_steps, committed_round, committed_counts, left_steps, left_stops, left_ends}
use Rattle.mg_turns.proofs.running.run_set.Goals as goal

pub run_claimed-requires : goal.run_claimed-requires
run_claimed-requires g c =
    let same = c.in-Other.ensures.does in
    subst (λ (v : EngineView). AreCell g.C.NodeCalculator.laws v c.work_at_once.new.intake) (sym same.same_engine)
    (subst (λ (v : IntakeView). AreCell g.C.NodeCalculator.laws c.args.engine.now v) (sym same.same_intake) c.requires)

pub returns-in-Other-clause-steps : goal.returns-in-Other-clause-steps
returns-in-Other-clause-steps g c =
    let same = c.in-Other.ensures.does in
    subst (λ (v : EngineView). CellSteps g.C.NodeCalculator.laws v c.run_claimed.new.engine c.args.intake.now c.run_claimed.new.intake) same.same_engine
    (subst (λ (v : IntakeView). CellSteps g.C.NodeCalculator.laws c.work_at_once.new.self c.run_claimed.new.engine v c.run_claimed.new.intake) same.same_intake c.run_claimed.ensures.steps)

pub returns-in-Other-clause-ran : goal.returns-in-Other-clause-ran
returns-in-Other-clause-ran g c =
    let same = c.in-Other.ensures.does in
    subst (λ (v : EngineView). MatchBool c.run_claimed.result (SomeRound g.C.NodeCalculator.laws v c.run_claimed.new.engine c.args.intake.now c.run_claimed.new.intake) (Stops g.C.NodeCalculator.laws v c.run_claimed.new.engine c.args.intake.now c.run_claimed.new.intake)) same.same_engine
    (subst (λ (v : IntakeView). MatchBool c.run_claimed.result (SomeRound g.C.NodeCalculator.laws c.work_at_once.new.self c.run_claimed.new.engine v c.run_claimed.new.intake) (Stops g.C.NodeCalculator.laws c.work_at_once.new.self c.run_claimed.new.engine v c.run_claimed.new.intake)) same.same_intake c.run_claimed.ensures.ran)

pub returns-in-Other-clause-counts : goal.returns-in-Other-clause-counts
returns-in-Other-clause-counts g c =
    let same = ap committed_in c.in-Other.ensures.does.same_engine in
    ran_by c.run_claimed.result (λ h. h ∙ ap (λ (n : ℕ). n + 1) same) (λ h. (h.0 ∙ same, h.1)) c.run_claimed.ensures.counts

pub returns-in-NotReady-clause-steps : goal.returns-in-NotReady-clause-steps
returns-in-NotReady-clause-steps g c = unready_steps g.row.C.Denot c.args.engine.now c.work_at_once.new.self c.args.intake.now c.work_at_once.new.intake c.requires c.in-NotReady.ensures.does

pub returns-in-NotReady-clause-ran : goal.returns-in-NotReady-clause-ran
returns-in-NotReady-clause-ran g c = inl (inl c.in-NotReady.ensures.does)

pub returns-in-NotReady-clause-counts : goal.returns-in-NotReady-clause-counts
returns-in-NotReady-clause-counts g c = not_ready_ends g.row.C.Denot c.args.engine.now c.work_at_once.new.self c.args.intake.now c.work_at_once.new.intake c.in-NotReady.ensures.does

pub run_work-requires-clause-out : goal.run_work-requires-clause-out
run_work-requires-clause-out g c = claimed_out g.row.C.Denot c.in-Claimed.work c.args.engine.now c.work_at_once.new.self c.args.intake.now c.work_at_once.new.intake c.requires c.in-Claimed.ensures.does

pub run_work-requires-clause-some : goal.run_work-requires-clause-some
run_work-requires-clause-some g c = claimed_work g.row.C.Denot c.in-Claimed.work c.args.engine.now c.work_at_once.new.self c.args.intake.now c.work_at_once.new.intake c.requires c.in-Claimed.ensures.does

pub run_work-requires-clause-lawful : goal.run_work-requires-clause-lawful
run_work-requires-clause-lawful g c = claimed_engine g.row.C.Denot c.in-Claimed.work c.args.engine.now c.work_at_once.new.self c.args.intake.now c.work_at_once.new.intake c.requires c.in-Claimed.ensures.does

pub returns-in-Claimed-clause-steps : goal.returns-in-Claimed-clause-steps
returns-in-Claimed-clause-steps g c =
    claimed_steps g.row.C.Denot c.in-Claimed.work c.args.engine.now c.work_at_once.new.self c.args.intake.now c.work_at_once.new.intake c.requires c.in-Claimed.ensures.does c.run_work.new.engine c.run_work.ensures.returned

pub returns-in-Claimed-clause-ran : goal.returns-in-Claimed-clause-ran
returns-in-Claimed-clause-ran g c =
    let e = c.args.engine.now in
    let f = c.work_at_once.new.self in
    let claims = c.in-Claimed.ensures.does in
    ran_by c.run_work.result
    (done_round g.row.C.Denot c.in-Claimed.work e f c.run_work.new.engine c.args.intake.now c.work_at_once.new.intake claims)
    (back_stops g.row.C.Denot c.in-Claimed.work e f c.run_work.new.engine c.args.intake.now c.work_at_once.new.intake claims)
    c.run_work.ensures.came

pub returns-in-Claimed-clause-counts : goal.returns-in-Claimed-clause-counts
returns-in-Claimed-clause-counts g c =
    let same = claimed_counts g.row.C.Denot c.in-Claimed.work c.args.engine.now c.work_at_once.new.self c.args.intake.now c.work_at_once.new.intake c.requires c.in-Claimed.ensures.does in
    ran_by c.run_work.result (λ h. h ∙ ap (λ (n : ℕ). n + 1) same) (λ h. (h.0 ∙ same, inr h.1)) c.run_work.ensures.counts

pub returns-in-Performed-clause-steps : goal.returns-in-Performed-clause-steps
returns-in-Performed-clause-steps g c = left_steps g.row.C.Denot c.in-Performed.field-0 c.args.engine.now c.work_at_once.new.self c.args.intake.now c.work_at_once.new.intake c.requires c.in-Performed.ensures.does

pub returns-in-Performed-clause-ran : goal.returns-in-Performed-clause-ran
returns-in-Performed-clause-ran g c = left_stops g.row.C.Denot c.in-Performed.field-0 c.args.engine.now c.work_at_once.new.self c.args.intake.now c.work_at_once.new.intake c.requires c.in-Performed.ensures.does

pub returns-in-Performed-clause-counts : goal.returns-in-Performed-clause-counts
returns-in-Performed-clause-counts g c = left_ends g.row.C.Denot c.in-Performed.field-0 c.args.engine.now c.work_at_once.new.self c.args.intake.now c.work_at_once.new.intake c.requires c.in-Performed.ensures.does

pub returns-in-Committed-clause-steps : goal.returns-in-Committed-clause-steps
returns-in-Committed-clause-steps g c = committed_steps g.row.C.Denot c.in-Committed.field-0 c.args.engine.now c.work_at_once.new.self c.args.intake.now c.work_at_once.new.intake c.requires c.in-Committed.ensures.does

pub returns-in-Committed-clause-ran : goal.returns-in-Committed-clause-ran
returns-in-Committed-clause-ran g c = committed_round g.row.C.Denot c.in-Committed.field-0 c.args.engine.now c.work_at_once.new.self c.args.intake.now c.work_at_once.new.intake c.requires c.in-Committed.ensures.does

pub returns-in-Committed-clause-counts : goal.returns-in-Committed-clause-counts
returns-in-Committed-clause-counts g c = committed_counts g.row.C.Denot c.in-Committed.field-0 c.args.engine.now c.work_at_once.new.self c.args.intake.now c.work_at_once.new.intake c.requires c.in-Committed.ensures.does

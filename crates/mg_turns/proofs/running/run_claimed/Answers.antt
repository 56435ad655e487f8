use Rattle.std.proofs.Common.{ℕ, ◌+◌, ap, ◌∙◌, refl, inr}
use Rattle.mg_turns.proofs.Committed.{work_counts, answer_counts, not_ready_ends, full_ends, draining_ends, ended_ends, no_memory_ends}
use Rattle.mg_node.specs.declared.claimed.Claimed.TheVariants.{Answered}
use Rattle.mg_turns.proofs.Rounds.{work_steps, claim_steps, ran_by, done_round, back_stops}
use Rattle.mg_turns.proofs.running.run_claimed.Goals as goal

pub returns-in-Work-clause-steps : goal.returns-in-Work-clause-steps
returns-in-Work-clause-steps g c =
    let l = c.in-Work.ensures in
    work_steps c.in-Work.work c.args.engine.now c.claim.new.self c.run_work.new.engine c.args.intake.now c.claim.new.intake c.requires l.claims l.out l.grows l.intake_grows l.lawful c.run_work.ensures.returned

pub returns-in-Work-clause-ran : goal.returns-in-Work-clause-ran
returns-in-Work-clause-ran g c =
    let l = c.in-Work.ensures in
    ran_by c.run_work.result
    (done_round g.row.C.Denot c.in-Work.work c.args.engine.now c.claim.new.self c.run_work.new.engine c.args.intake.now c.claim.new.intake l.claims)
    (back_stops g.row.C.Denot c.in-Work.work c.args.engine.now c.claim.new.self c.run_work.new.engine c.args.intake.now c.claim.new.intake l.claims)
    c.run_work.ensures.came

pub returns-in-Answered-clause-steps : goal.returns-in-Answered-clause-steps
returns-in-Answered-clause-steps g c =
    let l = c.in-Answered.ensures in
    claim_steps Answered c.args.engine.now c.claim.new.self c.args.intake.now c.claim.new.intake refl c.requires l.claims l.out l.grows l.intake_grows l.lawful

pub returns-in-Answered-clause-ran : goal.returns-in-Answered-clause-ran
returns-in-Answered-clause-ran g c = (1, inr (refl, c.in-Answered.ensures.claims))

pub returns-in-Work-clause-counts : goal.returns-in-Work-clause-counts
returns-in-Work-clause-counts g c =
    let l = c.in-Work.ensures in
    let same = work_counts g.row.C.Denot c.requires.job c.requires.number c.in-Work.work c.args.engine.now c.claim.new.self c.args.intake.now c.claim.new.intake c.requires.lawful_engine l.claims in
    ran_by c.run_work.result (λ h. h ∙ ap (λ (n : ℕ). n + 1) same) (λ h. (h.0 ∙ same, inr h.1)) c.run_work.ensures.counts

pub returns-in-Answered-clause-counts : goal.returns-in-Answered-clause-counts
returns-in-Answered-clause-counts g c = answer_counts g.row.C.Denot c.args.engine.now c.claim.new.self c.args.intake.now c.claim.new.intake c.in-Answered.ensures.claims

pub returns-in-NotReady-clause-counts : goal.returns-in-NotReady-clause-counts
returns-in-NotReady-clause-counts g c = not_ready_ends g.row.C.Denot c.args.engine.now c.claim.new.self c.args.intake.now c.claim.new.intake c.in-NotReady.ensures.claims

pub returns-in-InFlightFull-clause-counts : goal.returns-in-InFlightFull-clause-counts
returns-in-InFlightFull-clause-counts g c = full_ends g.row.C.Denot c.args.engine.now c.claim.new.self c.args.intake.now c.claim.new.intake c.in-InFlightFull.ensures.claims

pub returns-in-Draining-clause-counts : goal.returns-in-Draining-clause-counts
returns-in-Draining-clause-counts g c = draining_ends g.row.C.Denot c.args.engine.now c.claim.new.self c.args.intake.now c.claim.new.intake c.in-Draining.ensures.claims

pub returns-in-Ended-clause-counts : goal.returns-in-Ended-clause-counts
returns-in-Ended-clause-counts g c = ended_ends g.row.C.Denot c.args.engine.now c.claim.new.self c.args.intake.now c.claim.new.intake c.in-Ended.ensures.claims

pub returns-in-OutOfMemory-clause-counts : goal.returns-in-OutOfMemory-clause-counts
returns-in-OutOfMemory-clause-counts g c = no_memory_ends g.row.C.Denot c.args.engine.now c.claim.new.self c.args.intake.now c.claim.new.intake c.in-OutOfMemory.ensures.claims

pub run_work-requires-clause-some : goal.run_work-requires-clause-some
run_work-requires-clause-some g c =
    let cell = c.requires in
    record { job = cell.job; lawful = (c.in-Work.ensures.lawful cell.job cell.number cell.lawful_engine cell.lawful_intake cell.agree).work }

pub run_work-requires-clause-lawful : goal.run_work-requires-clause-lawful
run_work-requires-clause-lawful g c =
    let cell = c.requires in
    record { job = cell.job; number = cell.number; lawful = (c.in-Work.ensures.lawful cell.job cell.number cell.lawful_engine cell.lawful_intake cell.agree).lawful_engine }

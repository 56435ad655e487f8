-- What a set that is done at once leaves of a cell: what its claim, its work and its commit leave of the cell, one after the other.
use Rattle.mg_calc.specs.Rules.{Laws}
use Rattle.std.proofs.Common.{◌≡◌, ℕ, ◌+◌, Ok, refl, ap, ◌∙◌, sym, subst, inr}
use Rattle.mg_node.specs.declared.claimed.Claimed.TheVariants.{Work, NotReady}
use Rattle.mg_node.specs.Views.{IntakeView, WorkView, EngineView}
use Rattle.mg_node.specs.Job.{LoggedJob}
use Rattle.mg_node.specs.Lawful.{of_node, LawfulEngine, LawfulWork, LawfulOutcome, AreCell}
use Rattle.mg_node.specs.Standing.{EngineGrows}
use Rattle.mg_node.specs.Running.{SomeJobHas}
use Rattle.mg_node.specs.Shelves.{IsOut, outcome_of}
use Rattle.mg_node.specs.Claims.{Claims, LawfulClaim}
use Rattle.mg_node.specs.Commits.{SomeJobHasEngine}
use Rattle.mg_node.specs.AtOnce.{IsDoneBetween, IsLeftPerformed, IsLeftCommitted}
use Rattle.mg_node.proofs.Lemmas.{claim_out, claim_grows, claim_lawful, commit_grows, commit_lawful, performed_lawful, shelved_lawful, ran_outcome}
use Rattle.mg_node.proofs.Growing.{window_grows}
use Rattle.mg_turns.specs.Told.{committed_in, RunEnds}
use Rattle.mg_turns.specs.Rounds.{Stops}
use Rattle.mg_turns.specs.Code.Running.{Returned, CellSteps, SomeRound}
use Rattle.mg_turns.proofs.Rounds.{work_steps, claim_steps, returns_by, commit_returns, shelve_returns, done_round, back_stops}
use Rattle.mg_turns.proofs.Committed.{work_counts, commit_counts, none_committed}

-- a work that is claimed from a cell
module _ {laws : Laws} (X : Type 0) (w : WorkView) (e f : EngineView) (i k : IntakeView) (cell : AreCell laws e i) (claims : Claims {C = X} (Work w) e f i k) where
  claimed_lawful : LawfulClaim {C = X} cell.job cell.number (Work w) f k
  claimed_lawful = claim_lawful {C = X} cell.job cell.number (Work w) e f i k cell.lawful_engine cell.lawful_intake cell.agree claims

  pub claimed_out : IsOut f w
  claimed_out = claim_out {C = X} (Work w) e f i k cell claims

  pub claimed_engine : SomeJobHasEngine laws f
  claimed_engine = record { job = cell.job; number = cell.number; lawful = claimed_lawful.lawful_engine }

  pub claimed_work : SomeJobHas laws w
  claimed_work = record { job = cell.job; lawful = claimed_lawful.work }

  -- it comes back
  pub claimed_steps : (g : EngineView) → Returned laws f g w.number (λ job. LawfulWork job w) → CellSteps laws e g i k
  claimed_steps g r =
      let grows = claim_grows {C = X} (Work w) e f i k cell claims in
      work_steps {X = X} w e f g i k cell claims claimed_out grows.engine_grows grows.intake_grows (λ job number h hi agree. claim_lawful {C = X} job number (Work w) e f i k h hi agree claims) r

  pub claimed_counts : committed_in f ≡ committed_in e
  claimed_counts = work_counts X cell.job cell.number w e f i k cell.lawful_engine claims

-- a claim that finds no set ready
pub unready_steps : {laws : Laws} (X : Type 0) (e f : EngineView) (i k : IntakeView) → AreCell laws e i → Claims {C = X} NotReady e f i k → CellSteps laws e f i k
unready_steps {laws} X e f i k cell claims =
    let grows = claim_grows {C = X} NotReady e f i k cell claims in
    claim_steps {X = X} NotReady e f i k refl cell claims tt grows.engine_grows grows.intake_grows (λ job number h hi agree. claim_lawful {C = X} job number NotReady e f i k h hi agree claims)

-- a work that is claimed and performed
module _ {laws : Laws} (X : Type 0) (number : ℕ) (e between : EngineView) (i k : IntakeView) (cell : AreCell laws e i) (d : IsDoneBetween laws X number e between i k) where
  performed_out : IsOut between d.performed.work
  performed_out =
      let o = claimed_out X d.work e between i k cell d.claims in
      subst (λ (w : WorkView). IsOut between w) (sym d.done.same) (record { node_is = o.node_is; laid = o.laid; entry = o.entry; there = o.there; out = o.out; phase_is = o.phase_is })

  performed_fits : (job : LoggedJob laws) → LawfulWork job d.work → LawfulOutcome job (outcome_of d.performed)
  performed_fits job w = ran_outcome job d.performed (outcome_of d.performed) refl (performed_lawful job d.work d.performed.work d.performed.answer w d.done)

  performed_steps : (f : EngineView) → Returned laws between f d.performed.work.number (λ job. LawfulOutcome job (outcome_of d.performed)) → CellSteps laws e f i k
  performed_steps f r =
      claimed_steps X d.work e between i k cell d.claims f
      (returns_by between f d.performed.work.number d.work.number (λ job. LawfulOutcome job (outcome_of d.performed)) (λ job. LawfulWork job d.work) (ap (λ (w : WorkView). w.number) d.done.same) performed_fits r)

  between_engine : SomeJobHasEngine laws between
  between_engine = claimed_engine X d.work e between i k cell d.claims

  same_counts : committed_in between ≡ committed_in e
  same_counts = claimed_counts X d.work e between i k cell d.claims

-- and is committed
module _ {laws : Laws} (X : Type 0) (number : ℕ) (e f : EngineView) (i k : IntakeView) (cell : AreCell laws e i) (l : IsLeftCommitted laws X number e f i k) where
  abbrev out : IsOut l.between l.done.performed.work
  out = performed_out X number e l.between i k cell l.done

  abbrev some : SomeJobHasEngine laws l.between
  some = between_engine X number e l.between i k cell l.done

  pub committed_steps : CellSteps laws e f i k
  committed_steps =
      performed_steps X number e l.between i k cell l.done f
      (commit_returns (outcome_of l.done.performed) l.laid l.between f out some l.commits (commit_grows {E = Unit {0}} (outcome_of l.done.performed) (Ok l.laid) l.between f some l.commits tt)
      (λ job owner h o. commit_lawful job owner (outcome_of l.done.performed) l.laid l.between f out h o l.commits))

  pub committed_round : SomeRound laws e f i k
  committed_round = done_round X l.done.work e l.between f i k l.done.claims (l.done.performed, l.laid, l.done.done, l.commits)

  pub committed_counts : committed_in f ≡ committed_in e + 1
  committed_counts =
      commit_counts some.job some.number (outcome_of l.done.performed) l.laid l.between f some.lawful out l.commits
      ∙ ap (λ (n : ℕ). n + 1) (same_counts X number e l.between i k cell l.done)

-- or there is no memory for that
module _ {laws : Laws} (X : Type 0) (number : ℕ) (e f : EngineView) (i k : IntakeView) (cell : AreCell laws e i) (l : IsLeftPerformed laws X number e f i k) where
  abbrev out_still : IsOut l.between l.done.performed.work
  out_still = performed_out X number e l.between i k cell l.done

  pub left_steps : CellSteps laws e f i k
  left_steps =
      performed_steps X number e l.between i k cell l.done f
      (shelve_returns (outcome_of l.done.performed) l.between f out_still l.left (subst (λ (v : EngineView). EngineGrows l.between v) (sym l.left) (window_grows l.between _ l.between.idle))
      (λ job owner h o. subst (λ (v : EngineView). LawfulEngine job (of_node owner) v) (sym l.left) (shelved_lawful job owner l.between (outcome_of l.done.performed) out_still h o)))

  pub left_stops : Stops laws e f i k
  left_stops = back_stops X l.done.work e l.between f i k l.done.claims (outcome_of l.done.performed, inr (l.done.performed, l.done.done, refl), l.left)

  pub left_ends : (committed_in f ≡ committed_in e) × RunEnds f k
  left_ends =
      let some = between_engine X number e l.between i k cell l.done in
      let n = none_committed some.job some.number (outcome_of l.done.performed) l.between f some.lawful out_still l.left in
      (n.0 ∙ same_counts X number e l.between i k cell l.done, inr n.1)

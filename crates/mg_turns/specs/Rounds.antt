-- Works of a node that are done one after the other, while both turns of the node are held.
use Rattle.mg_calc.specs.Rules.{Laws}
use Rattle.std.specs.Prelude.{◌≡◌, ℕ, zero, suc, ◌+◌, ◌⊎◌, None}
use Rattle.mg_node.specs.Views.{IntakeView, WorkView, PerformedView, OutcomeView, EngineView}
use Rattle.mg_node.specs.declared.claimed.Claimed.TheVariants.{Work, Answered, NotReady, InFlightFull, Draining, Ended, OutOfMemory}
use Rattle.mg_node.specs.Running.{IsPerformed}
use Rattle.mg_node.specs.Shelves.{shelved, outcome_of}
use Rattle.mg_node.specs.Claims.{Claims}
use Rattle.mg_node.specs.Commits.{Commits}

-- a work is claimed, performed and committed, by which `laid` sets or calls are laid
pub record Works (laws : Laws) (laid : ℕ) (engine now : EngineView) (intake intake_now : IntakeView) : Type 0 where
  pub work : WorkView
  pub claimed : EngineView
  pub performed : PerformedView
  pub claims : Claims {C = Unit {0}} (Work work) engine claimed intake intake_now
  pub performs : IsPerformed laws work performed
  pub commits : Commits (outcome_of performed) laid claimed now

-- one round: a work is claimed, performed and committed, or a loopback gives an answer, which is laid at once
abbrev pub Round : Laws → ℕ → EngineView → EngineView → IntakeView → IntakeView → Type 0
Round laws laid engine now intake intake_now =
    Works laws laid engine now intake intake_now ⊎ ((laid ≡ 1) × Claims {C = Unit {0}} Answered engine now intake intake_now)

-- a number of rounds one after the other, by which `laid` sets, calls or answers are laid together
abbrev pub CellRounds : Laws → ℕ → ℕ → EngineView → EngineView → IntakeView → IntakeView → Type 0
CellRounds laws zero laid engine now intake intake_now = (laid ≡ 0) × (now ≡ engine) × (intake_now ≡ intake)
CellRounds laws (suc n) laid engine now intake intake_now =
    (before : ℕ) × (more : ℕ) × (e : EngineView) × (i : IntakeView) × (laid ≡ before + more) × CellRounds laws n before engine e intake i × Round laws more e now i intake_now

-- an outcome of a work: the work wasn't run, or it was performed
abbrev pub IsOutcomeOf : Laws → WorkView → OutcomeView → Type 0
IsOutcomeOf laws work outcome = (outcome ≡ record { work = work; answer = None }) ⊎ ((p : PerformedView) × IsPerformed laws work p × (outcome ≡ outcome_of p))

-- a work is claimed, memory is short to perform or commit it, and it stands in its window again
pub record FindsNone (laws : Laws) (engine now : EngineView) (intake intake_now : IntakeView) : Type 0 where
  pub work : WorkView
  pub claimed : EngineView
  pub outcome : OutcomeView
  pub claims : Claims {C = Unit {0}} (Work work) engine claimed intake intake_now
  pub of : IsOutcomeOf laws work outcome
  pub shelves : now ≡ shelved claimed outcome

-- a claim gives nothing, and nothing has changed
abbrev pub GivesNone : EngineView → EngineView → IntakeView → IntakeView → Type 0
GivesNone engine now intake intake_now =
    Claims {C = Unit {0}} NotReady engine now intake intake_now
    ⊎ (Claims {C = Unit {0}} InFlightFull engine now intake intake_now
    ⊎ (Claims {C = Unit {0}} Draining engine now intake intake_now
    ⊎ (Claims {C = Unit {0}} Ended engine now intake intake_now
    ⊎ Claims {C = Unit {0}} OutOfMemory engine now intake intake_now)))

-- why rounds end: a claim gives nothing, or memory was short for a work
abbrev pub Stops : Laws → EngineView → EngineView → IntakeView → IntakeView → Type 0
Stops laws engine now intake intake_now = GivesNone engine now intake intake_now ⊎ FindsNone laws engine now intake intake_now

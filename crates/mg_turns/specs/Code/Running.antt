-- Works that a seat does while it holds the turns of both parts of a node. They are done as if they were claimed, performed and
-- committed one after the other.
use Rattle.mg_calc.specs.Rules.{Laws}
use Rattle.std.specs.Prelude.{◌≡◌, ◌≢◌, ◌<◌, ◌≤◌, ◌⊎◌, ℕ, map}
use Rattle.mg_value.specs.Payload.{Plain}
use Rattle.mg_stream.specs.Pool.{Backlog}
use Rattle.mg_node.specs.Views.{IntakeView, WorkView, PerformedView, OutcomeView, EngineView}
use Rattle.mg_node.specs.Job.{LoggedJob}
use Rattle.mg_node.specs.Lawful.{of_node, LawfulEngine, LawfulIntake, Agree}
use Rattle.mg_node.specs.IntakeStanding.{Stays, IntakeGrows}
use Rattle.mg_node.specs.Standing.{EngineGrows}
use Rattle.mg_node.specs.Ports.{port_queue}
use Rattle.mg_node.specs.Shelves.{IsOut, shelved, outcome_of}
use Rattle.mg_node.specs.Running.{IsPerformed}
use Rattle.mg_node.specs.Commits.{Commits}
use Rattle.mg_turns.specs.Rounds.{Round, CellRounds, IsOutcomeOf, Stops}
use Rattle.mg_turns.specs.Parts.{IsMissingAt}
use Rattle.mg_turns.specs.Told.{committed_in, StandsBack}

-- a work of a number came back to its engine, committed or as it is. For each job that is `Good`, the engine stays lawful if it
-- was lawful
pub record Returned (laws : Laws) (e f : EngineView) (number : ℕ) (Good : LoggedJob laws → Type 0) : Type 0 where
  pub out : (x : WorkView) → IsOut e x → x.number ≢ number → IsOut f x
  pub only : (n : ℕ) → IsMissingAt f n → IsMissingAt e n × (n ≢ number)
  pub role : f.role ≡ e.role
  pub claimed : f.claimed ≡ e.claimed
  pub first : f.first ≡ e.first
  pub gone : map (λ (b : Backlog Plain). b.gone) f.outputs ≡ map (λ (b : Backlog Plain). b.gone) e.outputs
  pub grows : EngineGrows e f
  pub lawful : (job : LoggedJob laws) (owner : ℕ) → LawfulEngine job (of_node owner) e → Good job → LawfulEngine job (of_node owner) f

-- a cell is lawful for a job
pub record IsCellOf {laws : Laws} (job : LoggedJob laws) (owner : ℕ) (e : EngineView) (i : IntakeView) : Type 0 where
  pub engine : LawfulEngine job (of_node owner) e
  pub intake : LawfulIntake job owner i
  pub agree : Agree e i

-- what some works leave of a cell: the works that were out are out, and no others
pub record CellSteps (laws : Laws) (e f : EngineView) (i k : IntakeView) : Type 0 where
  pub out : (x : WorkView) → IsOut e x → IsOut f x
  pub only : (n : ℕ) → IsMissingAt f n → IsMissingAt e n
  pub first : f.first ≡ e.first
  pub gone : map (λ (b : Backlog Plain). b.gone) f.outputs ≡ map (λ (b : Backlog Plain). b.gone) e.outputs
  pub grows : EngineGrows e f
  pub intake_grows : IntakeGrows i k
  pub ports : (port : ℕ) → Stays (port_queue i.waits port) (port_queue k.waits port)
  pub lawful : (job : LoggedJob laws) (owner : ℕ) → IsCellOf job owner e i → IsCellOf job owner f k

-- a work was performed and committed
abbrev pub IsDone : Laws → WorkView → EngineView → EngineView → Type 0
IsDone laws work e f = (p : PerformedView) × (n : ℕ) × IsPerformed laws work p × Commits (outcome_of p) n e f

-- memory was short for a work, which stands in its window again
abbrev pub IsPutBack : Laws → WorkView → EngineView → EngineView → Type 0
IsPutBack laws work e f = (o : OutcomeView) × IsOutcomeOf laws work o × (f ≡ shelved e o)

-- a round was made, by which some sets or calls were laid
abbrev pub SomeRound : Laws → EngineView → EngineView → IntakeView → IntakeView → Type 0
SomeRound laws e f i k = (laid : ℕ) × Round laws laid e f i k

-- `done` rounds were made, at most `most`. If these are fewer, no further round could be made, for one of the reasons of
-- `Stops`.
abbrev pub RanRounds : Laws → ℕ → ℕ → EngineView → EngineView → IntakeView → IntakeView → Type 0
RanRounds laws done most e f i k = (m : EngineView) × (l : IntakeView) × (laid : ℕ) × CellRounds laws done laid e m i l × (done ≤ most)
    × (((done ≡ most) × (f ≡ m) × (k ≡ l)) ⊎ ((done < most) × Stops laws m f l k))

-- an outcome was committed
abbrev pub IsCommitted : OutcomeView → EngineView → EngineView → Type 0
IsCommitted outcome e f = (n : ℕ) × Commits outcome n e f

-- memory was short for a work: as many works are committed as before, and it stands in its window
abbrev pub NoneCommitted : EngineView → EngineView → Type 0
NoneCommitted e f = (committed_in f ≡ committed_in e) × StandsBack f

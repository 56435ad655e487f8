-- The calculators that stand in an engine, and the user-supplied ones among them. If no work is out, the calculator of the engine's node is
-- among them.
use Rattle.std.specs.Prelude.{◌≡◌, ℕ, true, List, [], ◌∷◌, ◌++◌, map, All, Option, Some, None, option_map, is_some, slice_get, ◌⊎◌, Result, if◌then◌else◌}
use Rattle.std.specs.List.{filter_map}
use Rattle.mg_value.specs.Payload.{Plain}
use Rattle.mg_settled.specs.Prefix.{StreamPrefix}
use Rattle.mg_calc.specs.Rules.{Laws}
use Rattle.mg_calc.specs.declared.cause.Cause.{Cause}
use Rattle.mg_calc.specs.declared.emission.Laid.{Laid}
use Rattle.mg_calc.specs.declared.plan_node.PlanNode.{PlanNode}
use Rattle.mg_calc.specs.Equations.{sides_of}
use Rattle.mg_calc.specs.Told.{BoxTold}
use Rattle.mg_route.specs.HolderView.{HolderView, FitsHolder, told_by}
use Rattle.mg_node.specs.Views.{OutcomeView, EntryView, EngineView}
use Rattle.mg_node.specs.Job.{LoggedJob, Solves, log_after}
use Rattle.mg_node.specs.Lawful.{LawfulOutcome, come_to, calls_by}
use Rattle.mg_node.specs.Begun.{IsHanded, IsOpened}

-- the calculator of the outcome in an entry, if there is one
abbrev pub calculator_in : EntryView → Option HolderView
calculator_in entry = option_map (λ o. o.work.context.told) entry.outcome

-- the calculators in an engine: in the contexts that no work has, and then in the outcomes that stand in its window
abbrev pub calculators_in : EngineView → List HolderView
calculators_in engine = map (λ b. b.told) engine.idle ++ filter_map calculator_in engine.window

-- what a calculator tells of itself, if it is user-supplied
abbrev pub handed_told : HolderView → Option BoxTold
handed_told held = if held.handed then Some (told_by held) else None

-- what the user-supplied calculators in an engine tell of themselves, in order
abbrev pub handed_in : EngineView → List BoxTold
handed_in engine = filter_map handed_told (calculators_in engine)

-- what the first user-supplied calculator in an engine tells of itself
abbrev pub first_handed : EngineView → Option BoxTold
first_handed engine = slice_get (handed_in engine) 0

-- no work of an engine is out: each entry of its window has an outcome
abbrev pub NoneOut : EngineView → Type 0
NoneOut engine = All (λ e. is_some e.outcome ≡ true) engine.window

-- a calculator is at rest in an engine whose window is empty: it keeps what all that is laid gives, and its log ends there
pub record IsAtRestIn {laws : Laws} (job : LoggedJob laws) (node : PlanNode) (engine : EngineView) (held : HolderView) : Type 0 where
  pub window : engine.window ≡ []
  pub streams : List (StreamPrefix Plain)
  pub solves : Solves job streams
  pub state : held.state ≡ (come_to job streams node engine.laid engine.closed).state
  pub log : held.log ≡ log_after job node (calls_by streams node engine.laid engine.closed)

-- a calculator stands in the one entry of an engine's window, in a lawful outcome
pub record IsInWindow {laws : Laws} (job : LoggedJob laws) (engine : EngineView) (held : HolderView) : Type 0 where
  pub entry : EntryView
  pub outcome : OutcomeView
  pub window : engine.window ≡ entry ∷ []
  pub there : entry.outcome ≡ Some outcome
  pub held_is : held ≡ outcome.work.context.told
  pub lawful : LawfulOutcome job outcome

-- an engine has one calculator, which is user-supplied for its node; it is at rest, or stands in the window
pub record HasCalculator {laws : Laws} (job : LoggedJob laws) (node : PlanNode) (engine : EngineView) : Type 0 where
  pub held : HolderView
  pub only : calculators_in engine ≡ held ∷ []
  pub fits : FitsHolder node held
  pub found : handed_in engine ≡ told_by held ∷ []
  pub stands : IsAtRestIn job node engine held ⊎ IsInWindow job engine held

-- a calculator was opened with its node's side packets
pub record IsOpenedFor {laws : Laws} (job : LoggedJob laws) (node : PlanNode) (told held : HolderView) : Type 0 where
  pub answer : Result (List Laid) Cause
  pub opened : IsOpened laws told held (sides_of job.job node) answer

-- an engine that isn't begun has one user-supplied calculator, as its job has it for the node, or opened since
pub record HasHanded {laws : Laws} (job : LoggedJob laws) (number : ℕ) (node : PlanNode) (engine : EngineView) : Type 0 where
  pub told : HolderView
  pub handed : IsHanded job number node told
  pub held : HolderView
  pub found : handed_in engine ≡ told_by held ∷ []
  pub stands : (held ≡ told) ⊎ IsOpenedFor job node told held

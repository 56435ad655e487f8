-- How the engine of a node is begun: its calculator is opened with the node's side packets, and the emission is laid. If memory for laying
-- is short, the calculator isn't opened again later: its answer stands in the window until it is laid.
use Rattle.std.specs.Prelude.{◌≡◌, ℕ, ◌-◌, ◌⊎◌, List, [], ◌∷◌, ◌++◌, length, map, replicate, Option, Some, option_map, Result, true, slice_get}
use Rattle.mg_value.specs.Payload.{Plain}
use Rattle.mg_calc.specs.Rules.{Laws, Rules}
use Rattle.mg_calc.specs.declared.call.Call.TheVariants.{Begun}
use Rattle.mg_calc.specs.declared.cause.Cause.{Cause}
use Rattle.mg_calc.specs.declared.emission.Laid.{Laid}
use Rattle.mg_calc.specs.declared.node_fault.Phase.TheVariants.{Open}
use Rattle.mg_calc.specs.declared.plan_node.PlanNode.{PlanNode}
use Rattle.mg_calc.specs.Equations.{sides_of}
use Rattle.mg_calc.specs.Outcome.{Outcome, opened}
use Rattle.mg_calc.specs.Plan.{FitsNode}
use Rattle.mg_calc.specs.Shape.{IsOuter}
use Rattle.mg_calc.specs.Told.{with_call}
use Rattle.mg_route.specs.HolderView.{HolderView, FitsHolder, held_rules}
use Rattle.mg_node.specs.Views.{ContextView, EntryView, EngineView}
use Rattle.mg_node.specs.Job.{LoggedJob, first_log, KeepsFirst}
use Rattle.mg_node.specs.Lawful.{HasAnswered}
use Rattle.mg_node.specs.Outputs.{kept_whole}
use Rattle.mg_node.specs.Fresh.{own_told, context_of, fresh_engine}

-- a calculator was opened with side packets. It has answered what its law gives, and has the call in its log. It keeps the new state, or
-- nothing if the answer is a cause.
pub record IsOpened (laws : Laws) (before now : HolderView) (sides : List (Option Plain)) (answer : Result (List Laid) Cause) : Type 0 where
  pub answered : HasAnswered answer [] now.state ((held_rules laws before).opening sides)
  pub log : now.log ≡ with_call before.log Begun
  pub law : now.law ≡ before.law
  pub shape : now.shape ≡ before.shape
  pub same_handed : now.handed ≡ before.handed

-- the window's entry for the answer of a calculator that was opened
abbrev pub opened_entry : ℕ → ContextView → Result (List Laid) Cause → EntryView
opened_entry number context answer = record {
  phase = Open;
  outcome = Some (record { work = record { node = number; number = 0; phase = Open; context = context }; answer = Some answer });
  committed = true;
}

-- the contexts with the calculators that the node makes itself; these aren't opened and keep nothing
abbrev pub own_contexts : PlanNode → List ContextView
own_contexts node = replicate (node.in_flight - 1) (context_of node (own_told node))

-- an engine's calculator was opened, and what that emitted isn't laid
pub record HasOpened (laws : Laws) (node : PlanNode) (number : ℕ) (told : HolderView) (sides : List (Option Plain)) (view : EngineView) : Type 0 where
  pub now : HolderView
  pub answer : Result (List Laid) Cause
  pub opened : IsOpened laws told now sides answer
  pub is : view ≡ record (fresh_engine node number told) { window = opened_entry number (context_of node now) answer ∷ []; idle = own_contexts node }

-- an engine isn't begun: it is as it was made, or its calculator was opened and what that emitted isn't laid
abbrev pub IsUnbegun : Laws → PlanNode → ℕ → HolderView → List (Option Plain) → EngineView → Type 0
IsUnbegun laws node number told sides view = (view ≡ fresh_engine node number told) ⊎ HasOpened laws node number told sides view

-- the outcome of a node once it is opened, by the rules of its calculator
abbrev pub opened_node : Rules → PlanNode → List (Option Plain) → Outcome
opened_node rules node sides = opened rules node.shape.offset (length node.outputs) sides

-- an engine is begun: what Open emits is laid, or its fault is kept
pub record HasBegun (laws : Laws) (node : PlanNode) (number : ℕ) (told : HolderView) (sides : List (Option Plain)) (view : EngineView) : Type 0 where
  pub now : HolderView
  pub state : now.state ≡ (opened_node (held_rules laws told) node sides).state
  pub log : now.log ≡ with_call told.log Begun
  pub law : now.law ≡ told.law
  pub shape : now.shape ≡ told.shape
  pub same_handed : now.handed ≡ told.handed
  pub is : view ≡ record (fresh_engine node number told) {
    outputs = map kept_whole (opened_node (held_rules laws told) node sides).outputs;
    idle = own_contexts node ++ context_of node now ∷ [];
    begun = true;
    fault = option_map (λ f. record { node = number; phase = f.phase; cause = f.cause }) (opened_node (held_rules laws told) node sides).fault;
  }

-- a calculator is the one that a job has for a node at the start. It fits the node, and its log and state are as the job tells them.
pub record IsHanded {laws : Laws} (job : LoggedJob laws) (number : ℕ) (node : PlanNode) (told : HolderView) : Type 0 where
  pub there : slice_get job.job.plan.nodes number ≡ Some node
  pub fits : FitsHolder node told
  pub log : told.log ≡ first_log job node
  pub kept : KeepsFirst job node told.state

-- an engine that isn't begun is lawful for a job: it is made of the node and of the job's calculator for it. If the calculator was opened,
-- it was opened with the node's side packets.
pub record IsUnbegunOf {laws : Laws} (job : LoggedJob laws) (number : ℕ) (view : EngineView) : Type 0 where
  pub node : PlanNode
  pub told : HolderView
  pub handed : IsHanded job number node told
  pub unbegun : IsUnbegun laws node number told (sides_of job.job node) view

-- an engine that isn't begun is lawful for a job, as the engine of the node of this number
unfoldable pub LawfulUnbegun : {laws : Laws} → LoggedJob laws → ℕ → EngineView → Type 0
LawfulUnbegun {laws} job number view = IsUnbegunOf job number view

-- an engine isn't begun: it is made of some node, number and calculator. If the calculator was opened, it was opened with these side
-- packets.
pub record SomeUnbegun (laws : Laws) (sides : List (Option Plain)) (view : EngineView) : Type 0 where
  pub node : PlanNode
  pub number : ℕ
  pub told : HolderView
  pub unbegun : IsUnbegun laws node number told sides view

-- a calculator before it is opened: it has its node's law and shape, and what it keeps doesn't matter
pub record IsNew (node : PlanNode) (told : HolderView) : Type 0 where
  pub fits : FitsNode node told.law told.shape

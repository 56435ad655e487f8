-- How a cell is made: its job has a solution, its engine is lawful once it is begun, and it agrees with its intake.
use Rattle.std.proofs.Common.{◌≡◌, ℕ, zero, suc, ◌<◌, List, [], ◌∷◌, ◌++◌, length, map, Option, Some, None, slice_get, get_or, inl, sym, refl, subst, ap, ◌∙◌, arith}
use Rattle.std.proofs.lemmas.Option.{get_or_from_slice_get}
use Rattle.std.specs.Option.{option_and_then}
use Rattle.mg_value.specs.Payload.{Plain}
use Rattle.mg_settled.specs.Prefix.{StreamPrefix, empty_prefix}
use Rattle.mg_calc.specs.Rules.{Laws}
use Rattle.mg_calc.specs.declared.call.Call.{Call}
use Rattle.mg_calc.specs.declared.plan.Plan.{Plan}
use Rattle.mg_calc.specs.declared.plan_node.PlanNode.{PlanNode}
use Rattle.mg_calc.specs.declared.inputs.Inputs.{Inputs}
use Rattle.mg_calc.specs.Told.{BoxTold}
use Rattle.mg_calc.specs.Plan.{side_packet}
use Rattle.mg_calc.specs.Equations.{IsJob, Job, sides_of}
use Rattle.mg_route.specs.HolderView.{HolderView}
use Rattle.mg_calc.proofs.FirstRound.{a_solution}
use Rattle.mg_calc.proofs.Jobs.{job_known}
use Rattle.mg_node.specs.Views.{EngineView}
use Rattle.mg_node.specs.Job.{Solves}
use Rattle.mg_node.specs.Begun.{IsHanded, IsNew, IsUnbegun, HasBegun, LawfulUnbegun, SomeUnbegun}
use Rattle.mg_node.specs.Fresh.{fresh_engine}
use Rattle.mg_node.proofs.Making.{fresh_unbegun}
use Rattle.mg_test_cells.specs.Cell.{job_of, held_of, KeepsAll}
use Rattle.mg_test_cells.proofs.Keeping.{whole_keeps}

-- the solution of the cell's job
pub solved : {laws : Laws} (plan : Plan) (inputs : Inputs) → IsJob (record { plan = plan; inputs = inputs; laws = laws }) → (streams : List (StreamPrefix Plain)) × Solves (job_of laws plan inputs) streams
solved {laws} plan inputs is =
    let job : Job = record { plan = plan; inputs = inputs; laws = laws } in
    let found = a_solution job (job_known job is) is.plan is.inputs.streams in
    (found.0, record { is_job = is; solution = found.1 })

no_log : (o : Option ℕ) → (let r : Option (List Call) = None in r) ≡ option_and_then (λ number. option_and_then (λ box. box.log) (slice_get (let boxes : List BoxTold = [] in boxes) number)) o
no_log None = refl
no_log (Some n) = refl

-- the calculator of the plan's first node
pub handed : {laws : Laws} (plan : Plan) (inputs : Inputs) (node : PlanNode) (told : HolderView) → slice_get plan.nodes 0 ≡ Some node → told ≡ held_of node → IsHanded (job_of laws plan inputs) 0 node told
handed {laws} plan inputs node told there is = subst (IsHanded (job_of laws plan inputs) 0 node) (sym is) (record {
  there = there;
  fits = record { same_law = refl; same_shape = refl; same_handed = refl };
  log = no_log node.box_number;
  kept = λ number box takes there. absurd (let clash : None ≡ Some box = there in cc);
})

pub is_new : (node : PlanNode) (told : HolderView) → told ≡ held_of node → IsNew node told
is_new node told is = subst (IsNew node) (sym is) (record { fits = record { same_law = refl; same_shape = refl } })

-- the engine is unbegun, as it is made
pub unbegun : {laws : Laws} (plan : Plan) (inputs : Inputs) (node : PlanNode) (told : HolderView) (engine : EngineView) → engine ≡ fresh_engine node 0 told → IsUnbegun laws node 0 told (sides_of (job_of laws plan inputs).job node) engine
unbegun {laws} plan inputs node told engine is = inl is

-- the engine is begun: nothing is claimed, and nothing was given up
pub begun_none : {laws : Laws} (node : PlanNode) (told : HolderView) (sides : List (Option Plain)) (engine : EngineView) → HasBegun laws node 0 told sides engine → engine.claimed ≡ 0
begun_none {laws} node told sides engine b = ap (λ (v : EngineView). v.claimed) b.is

pub begun_keeps : {laws : Laws} (node : PlanNode) (told : HolderView) (sides : List (Option Plain)) (engine : EngineView) → HasBegun laws node 0 told sides engine → KeepsAll engine
begun_keeps {laws} node told sides engine b = whole_keeps engine _ (ap (λ (v : EngineView). v.outputs) b.is)

-- Graph inputs.

append_get : {X : Type 0} (xs ys : List X) (i : ℕ) (x : X) → slice_get xs i ≡ Some x → slice_get (xs ++ ys) i ≡ Some x
append_get [] ys i x h = absurd cc
append_get (z ∷ xs) ys zero x h = h
append_get (z ∷ xs) ys (suc i) x h = append_get xs ys i x h

-- the solution has the streams that the inputs give
pub input_stream : {laws : Laws} (plan : Plan) (inputs : Inputs) (streams : List (StreamPrefix Plain)) (input : ℕ) (s : StreamPrefix Plain) → Solves (job_of laws plan inputs) streams → slice_get inputs.streams input ≡ Some s → get_or streams input empty_prefix ≡ s
input_stream {laws} plan inputs streams input s solves at =
    get_or_from_slice_get streams input s empty_prefix (ap (λ (ss : List (StreamPrefix Plain)). slice_get ss input) (sym solves.solution.meets) ∙ append_get inputs.streams _ input s at)

-- A first node that is there, and has no side packets.

pub first_node : (nodes : List PlanNode) → 0 < length nodes → (node : PlanNode) × (slice_get nodes 0 ≡ Some node)
first_node [] some = absurd (omega (arith, some))
first_node (node ∷ nodes) some = (node, refl)

pub sides_none : (job : Job) (node : PlanNode) → node.sides ≡ [] → sides_of job node ≡ []
sides_none job node none = ap (λ (ns : List ℕ). map (λ number. option_and_then (λ side. side_packet job.inputs.sides side.value) (slice_get job.plan.sides number)) ns) none

-- An engine as it is made.

pub record IsMade (plan : Plan) (engine : EngineView) : Type 0 where
  pub node : PlanNode
  pub there : slice_get plan.nodes 0 ≡ Some node
  pub sides : node.sides ≡ []
  pub fresh : engine ≡ fresh_engine node 0 (held_of node)

pub made : (plan : Plan) (engine : EngineView) → 0 < length plan.nodes → ((node : PlanNode) → slice_get plan.nodes 0 ≡ Some node → (node.sides ≡ []) × (engine ≡ fresh_engine node 0 (held_of node))) → IsMade plan engine
made plan engine some fresh =
    let first = first_node plan.nodes some in
    let is = fresh first.0 first.1 in
    record { node = first.0; there = first.1; sides = is.0; fresh = is.1 }

pub made_unbegun : {laws : Laws} (plan : Plan) (engine : EngineView) (sides : List (Option Plain)) → IsMade plan engine → SomeUnbegun laws sides engine
made_unbegun {laws} plan engine sides m = record { node = m.node; number = 0; told = held_of m.node; unbegun = inl m.fresh }

pub made_lawful : (laws : Laws) (plan : Plan) (inputs : Inputs) (engine : EngineView) → IsMade plan engine → LawfulUnbegun (job_of laws plan inputs) 0 engine
made_lawful laws plan inputs engine m = fresh_unbegun (job_of laws plan inputs) 0 m.node (held_of m.node) engine (handed plan inputs m.node (held_of m.node) m.there refl) m.fresh

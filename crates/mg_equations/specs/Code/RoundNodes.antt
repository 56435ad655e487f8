-- What a round does: the nodes that read a changed stream go on, each once.
use Rattle.std.specs.Prelude.{◌≡◌, ℕ, ◌<◌, Bool, true, false, List, [], ◌∷◌, ◌++◌, All, Contains, Some, length, option_map, unwrap_or, slice_get, slice_index_or, slice_set}
use Rattle.mg_value.specs.Payload.{Plain}
use Rattle.mg_settled.specs.Prefix.{StreamPrefix}
use Rattle.mg_settled.specs.Settled.{inputs_of}
use Rattle.mg_calc.specs.declared.plan.Plan.{Plan}
use Rattle.mg_calc.specs.declared.plan_node.PlanNode.{PlanNode}
use Rattle.mg_equations.specs.declared.progress.Progress.{Progress}
use Rattle.mg_equations.specs.declared.round_nodes.RoundNodes.{RoundNodes}
use Rattle.mg_equations.specs.Code.Progress.{NodeGoesOn}

-- whether a node has gone on in a round
abbrev pub has_gone : RoundNodes → ℕ → Bool
has_gone going k = slice_index_or going.gone.items k false

-- the streams that a node writes
abbrev pub outputs_at : List PlanNode → ℕ → List ℕ
outputs_at nodes k = unwrap_or (option_map (λ node. node.outputs) (slice_get nodes k)) []

-- none has gone on yet
pub record IsBegun (going : RoundNodes) : Type 0 where
  pub marks : length going.gone.items ≡ length going.nodes.items
  pub none : (k : ℕ) → has_gone going k ≡ false
  pub listed : going.listed.items ≡ []

-- a node has gone on, and is marked and listed
pub record IsGone (nodes : List PlanNode) (streams : List (StreamPrefix Plain)) (k : ℕ) (before now : RoundNodes) : Type 0 where
  pub progress : Progress
  pub stands : now.nodes.items ≡ slice_set before.nodes.items k progress
  pub goes : (node : PlanNode) (first : Progress) → slice_get nodes k ≡ Some node → slice_get before.nodes.items k ≡ Some first → NodeGoesOn node.law node (inputs_of streams node.inputs) first progress
  pub marks : now.gone.items ≡ slice_set before.gone.items k true
  pub listed : now.listed.items ≡ before.listed.items ++ k ∷ []

-- a node goes on, if it hasn't
abbrev pub Goes : Bool → List PlanNode → List (StreamPrefix Plain) → ℕ → RoundNodes → RoundNodes → Type 0
Goes true nodes streams k before now = now ≡ before
Goes false nodes streams k before now = IsGone nodes streams k before now

-- a node has gone on if it is marked, and otherwise stays as it was
abbrev pub GoesOnIf : Bool → PlanNode → List (StreamPrefix Plain) → Progress → Progress → Type 0
GoesOnIf true node streams before now = NodeGoesOn node.law node (inputs_of streams node.inputs) before now
GoesOnIf false node streams before now = now ≡ before

-- the nodes of the first so many numbers have gone on, and all that have are marked and listed
pub record HaveGone (nodes : List PlanNode) (streams : List (StreamPrefix Plain)) (first : List Progress) (numbers : List ℕ) (i : ℕ) (going : RoundNodes) : Type 0 where
  pub many : length going.nodes.items ≡ length first
  pub marks : length going.gone.items ≡ length first
  pub each : (k : ℕ) (node : PlanNode) (before now : Progress) → slice_get nodes k ≡ Some node → slice_get first k ≡ Some before → slice_get going.nodes.items k ≡ Some now
      → GoesOnIf (has_gone going k) node streams before now
  pub listed : (k : ℕ) → has_gone going k ≡ true → Contains going.listed.items k
  pub within : All (λ k. k < length first) going.listed.items
  pub done : (j : ℕ) → j < i → j < length numbers → has_gone going (slice_index_or numbers j 0) ≡ true

-- the nodes that read a changed stream have gone on, the others stay, and a list has all streams that those write
pub record HaveGoneOn (plan : Plan) (streams : List (StreamPrefix Plain)) (changed : List ℕ) (first now : List Progress) (due : List ℕ) : Type 0 where
  pub gone : ℕ → Bool
  pub many : length now ≡ length first
  pub each : (k : ℕ) (node : PlanNode) (before then : Progress) → slice_get plan.nodes k ≡ Some node → slice_get first k ≡ Some before → slice_get now k ≡ Some then
      → GoesOnIf (gone k) node streams before then
  pub stays : (k : ℕ) (node : PlanNode) (s : ℕ) → slice_get plan.nodes k ≡ Some node → gone k ≡ false → Contains node.inputs s → Contains changed s → ⊥
  pub written : (k : ℕ) (node : PlanNode) (s : ℕ) → slice_get plan.nodes k ≡ Some node → gone k ≡ true → Contains node.outputs s → Contains due s
  pub within : All (λ s. s < length plan.streams) due

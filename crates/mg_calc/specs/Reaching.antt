-- Which graph inputs a stream may depend on: those from which it can be reached along the edges of the plan, back edges
-- included.
use Rattle.std.specs.Prelude.{◌≡◌, ℕ, Option, Some, option_map, slice_get, IsSomeAnd, Contains}
use Rattle.mg_calc.specs.declared.plan.Plan.{Plan}
use Rattle.mg_calc.specs.declared.plan_stream.Producer.{Producer}
use Rattle.mg_calc.specs.declared.plan_stream.Producer.TheVariants.{Input, Node}

-- who writes a stream
abbrev pub producer_of : Plan → ℕ → Option Producer
producer_of plan stream = option_map (λ s. s.producer) (slice_get plan.streams stream)

-- a node reads a stream
abbrev pub Reads : Plan → ℕ → ℕ → Type 0
Reads plan node stream = IsSomeAnd (slice_get plan.nodes node) (λ n. Contains n.inputs stream)

-- a graph input reaches a node: the node reads the input's stream, or a stream that is written by a node that the input reaches
pub data Reaches (plan : Plan) (input : ℕ) : ℕ → Type 0 where
  at_once : (node stream : ℕ) → Reads plan node stream → producer_of plan stream ≡ Some (Input input) → Reaches plan input node
  through : (node stream writer port : ℕ) → Reads plan node stream → producer_of plan stream ≡ Some (Node writer port) → Reaches plan input writer → Reaches plan input node

-- what a producer writes may depend on a graph input: the producer is that input, or a node that the input reaches
abbrev pub MayDependBy : Plan → ℕ → Producer → Type 0
MayDependBy plan input (Input other) = other ≡ input
MayDependBy plan input (Node node port) = Reaches plan input node

-- a stream may depend on a graph input
abbrev pub MayDepend : Plan → ℕ → ℕ → Type 0
MayDepend plan input stream = IsSomeAnd (producer_of plan stream) (MayDependBy plan input)

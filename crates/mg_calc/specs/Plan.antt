-- Plans. Streams are numbered: the graph inputs in order, and then the outputs of each node, by node and by port. Edges are numbered by
-- their consumers and then by port. After the nodes comes one more consumer, the collector. Its ports are the graph's outputs, and its
-- number is the number of nodes.
use Rattle.std.specs.Prelude.{◌≡◌, ◌≢◌, ℕ, pos, ◌<◌, ◌≤◌, ◌⊎◌, true, false, List, ◌++◌, map, length, filter, All, AllPairs, Contains, Option, Some, None, IfSome, IsSome, IsSomeAnd, unwrap_or, slice_get, ⊤, ◌==◌}
use Rattle.std.specs.List.{range_with_len, enumerate_from, flat_map, filter_map}
use Rattle.std.specs.Option.{option_and_then}
use Rattle.mg_value.specs.Plain.{Plain}
use Rattle.mg_value.specs.declared.policy.Policy.{Policy}
use Rattle.mg_value.specs.declared.policy.Policy.TheVariants.{Default}
use Rattle.mg_settled.specs.Prefix.{IsPrefix}
use Rattle.mg_calc.specs.declared.law.Law.{Law}
use Rattle.mg_calc.specs.declared.law.Law.TheVariants.{Loopback, Mux as MuxLaw}
use Rattle.mg_calc.specs.declared.shape.Shape.{Shape}
use Rattle.mg_calc.specs.declared.shape.OuterShape.{OuterShape}
use Rattle.mg_calc.specs.declared.plan_node.PlanNode.{PlanNode}
use Rattle.mg_calc.specs.declared.plan_stream.Producer.{Producer}
use Rattle.mg_calc.specs.declared.plan_stream.Producer.TheVariants.{Input, Node}
use Rattle.mg_calc.specs.declared.edge.Edge.{Edge}
use Rattle.mg_calc.specs.declared.plan.Plan.{Plan}
use Rattle.mg_calc.specs.declared.inputs.Inputs.{Inputs}
use Rattle.mg_calc.specs.Side.{PlainSideValue, given_at, fixed}
use Rattle.mg_calc.specs.Shape.{ParametersFit, IsShapeOf, IsServed, IsStated, IsLimiter}

-- the numbers from 0 to a count, without the count
abbrev pub numbers : ℕ → List ℕ
numbers count = range_with_len 0 count

-- Side packets.

-- the place of a side packet, if the caller gives it
abbrev pub place_of : PlainSideValue → Option ℕ
place_of (given_at place) = Some place
place_of (fixed payload) = None

-- the places of the side packets that the caller gives
abbrev pub given_places : Plan → List ℕ
given_places plan = filter_map (λ side. place_of side.value) plan.sides

-- a side packet, or none if the caller has to give it and it is missing
abbrev pub side_packet : List (Option Plain) → PlainSideValue → Option Plain
side_packet given (given_at place) = unwrap_or (slice_get given place) None
side_packet given (fixed payload) = Some payload

-- the side packets of a node, one for each of its side ports
abbrev pub node_sides : Plan → List (Option Plain) → PlanNode → List (Option Plain)
node_sides plan given node = map (λ number. option_and_then (λ side. side_packet given side.value) (slice_get plan.sides number)) node.sides

-- Numbers.

-- numbers are in their ranges. There are no more nodes, edges, graph outputs and workers than there may be. Streams that are read or
-- shown are there, and so are side packets that are taken. The side packets that the caller gives have their places in order. A limit
-- isn't 0.
pub record AreInRange (plan : Plan) : Type 0 where
  pub nodes : length plan.nodes ≤ 4096
  pub edges : length plan.edges ≤ 16384
  pub outputs : length plan.outputs ≤ 256
  pub workers : plan.workers ≤ 64
  pub read : All (λ node. All (λ s. s < length plan.streams) node.inputs) plan.nodes
  pub shown : All (λ s. s < length plan.streams) plan.outputs
  pub taken : All (λ node. All (λ s. s < length plan.sides) node.sides) plan.nodes
  pub given : given_places plan ≡ numbers (length (given_places plan))
  pub limit : plan.limit ≢ pos 0

-- the numbers of all streams: of the graph inputs, and of the outputs of each node
abbrev pub written_streams : Plan → List ℕ
written_streams plan = plan.inputs ++ flat_map (λ node. node.outputs) plan.nodes

-- the producers of all streams, in the order of the streams' numbers
abbrev pub producers : Plan → List Producer
producers plan =
    map Input (numbers (length plan.inputs))
    ++ flat_map (λ e. map (λ port. Node e.0 port) (numbers (length e.1.outputs))) (enumerate_from 0 plan.nodes)

-- what an edge joins: a stream, and a port of a consumer
pub record Ends : Type 0 where
  pub stream : ℕ
  pub node : ℕ
  pub port : ℕ

-- the stream and the port that an edge joins
abbrev pub ends_of : Edge → Ends
ends_of e = record { stream = e.stream; node = e.node; port = e.port }

-- the streams at the ports of a consumer
abbrev pub ends_at : ℕ → List ℕ → List Ends
ends_at node streams = map (λ e. record { stream = e.1; node = node; port = e.0 }) (enumerate_from 0 streams)

-- what all edges join: the streams at the ports of each node, and then those at the ports of the collector
abbrev pub all_ends : Plan → List Ends
all_ends plan =
    flat_map (λ e. ends_at e.0 e.1.inputs) (enumerate_from 0 plan.nodes) ++ ends_at (length plan.nodes) plan.outputs

-- Nodes.

-- a node has a number for each port of its shape
pub record HasNumbers (node : PlanNode) : Type 0 where
  pub inputs : length node.inputs ≡ length node.shape.inputs
  pub outputs : length node.outputs ≡ length node.shape.outputs
  pub sides : length node.sides ≡ length node.shape.sides

-- how many sets of a node may be in flight: from 1 to 64, but 1 if its calculator is user-supplied or keeps a state
pub record FlightFits (node : PlanNode) : Type 0 where
  pub some : 1 ≤ node.in_flight
  pub most : node.in_flight ≤ 64
  pub boxed : IsSome node.box_number → node.in_flight ≡ 1
  pub stateful : node.shape.stateless ≡ false → node.in_flight ≡ 1

-- a law may have a policy: Mux is for the law Mux alone
abbrev pub MayHavePolicy : Law → Policy → Type 0
MayHavePolicy (MuxLaw lanes) policy = ⊤
MayHavePolicy law policy = policy ≡ Default

-- Order.

-- a list has each number below a count once, and no other
pub record HasEachOnce (count : ℕ) (ns : List ℕ) : Type 0 where
  pub there : (n : ℕ) → n < count → Contains ns n
  pub below : All (λ n. n < count) ns
  pub once : AllPairs ◌≢◌ ns

-- a number stands before another in a list, wherever both stand in it
abbrev pub StandsBefore : List ℕ → ℕ → ℕ → Type 0
StandsBefore ns a b = (i j : ℕ) → slice_get ns i ≡ Some a → slice_get ns j ≡ Some b → i < j

-- the node that writes a stream, if one does
abbrev pub writing_node : Producer → Option ℕ
writing_node (Input number) = None
writing_node (Node node port) = Some node

-- the node that writes the stream of an edge, if one does
abbrev pub writer_of : Plan → Edge → Option ℕ
writer_of plan e = option_and_then (λ s. writing_node s.producer) (slice_get plan.streams e.stream)

-- an edge leads forward: the node that writes its stream stands before the one that reads it
abbrev pub LeadsForward : Plan → Edge → Type 0
LeadsForward plan e = IfSome (writer_of plan e) (λ writer. StandsBefore plan.order writer e.node)

-- an edge ends at LOOP of a loopback, which is its first input
abbrev pub EndsAtLoop : Plan → Edge → Type 0
EndsAtLoop plan e = (e.port ≡ 0) × IsSomeAnd (slice_get plan.nodes e.node) (λ node. node.law ≡ Loopback)

-- an edge ends at FINISHED of a limiter, which is its second input
abbrev pub EndsAtFinished : Plan → Edge → Type 0
EndsAtFinished plan e = (e.port ≡ 1) × IsSomeAnd (slice_get plan.nodes e.node) (λ node. IsLimiter node.law)

-- a plan holds together: its numbers agree, its nodes have laws that are allowed, and its back edges end where they may
pub record HoldsTogether (Allows : Law → Type 0) (MayBeBack : Plan → Edge → Type 0) (plan : Plan) : Type 0 where
  -- its numbers are in their ranges
  pub ranges : AreInRange plan
  -- streams are numbered: first the graph inputs, and then the outputs of each node
  pub streams : written_streams plan ≡ numbers (length plan.streams)
  pub inputs : plan.inputs ≡ numbers (length plan.inputs)
  -- each stream's producer is the graph input, or the node and port, that has the stream's number
  pub producers : map (λ s. s.producer) plan.streams ≡ producers plan
  -- each port of a node and of the collector has one edge, with the stream that stands there, and edges are in this order
  pub edges : map ends_of plan.edges ≡ all_ends plan
  -- each node has a number for each port of its shape
  pub ports : All HasNumbers plan.nodes
  -- each law's parameters are in their ranges, and each shape is its law's
  pub parameters : All (λ node. ParametersFit node.law) plan.nodes
  pub shapes : All (λ node. IsShapeOf node.law node.shape) plan.nodes
  -- each node's limit of sets in flight is one that it may have
  pub flights : All FlightFits plan.nodes
  -- only a node of the law Mux has the policy Mux
  pub policies : All (λ node. MayHavePolicy node.law node.policy) plan.nodes
  -- a node whose law is stated has a user-supplied calculator
  pub stated : All (λ node. IsStated node.law → IsSome node.box_number) plan.nodes
  -- no user-supplied calculator works at two nodes
  pub boxes : AllPairs ◌≢◌ (filter_map (λ node. node.box_number) plan.nodes)
  -- the order has each node once, and each edge that isn't back leads forward in it
  pub order : HasEachOnce (length plan.nodes) plan.order
  pub forward : All (λ e. e.back ≡ false → LeadsForward plan e) plan.edges
  -- a back edge ends where it may
  pub back : All (λ e. e.back ≡ true → MayBeBack plan e) plan.edges
  -- each node has a law that is allowed
  pub laws : All (λ node. Allows node.law) plan.nodes

-- a plan has no free node
abbrev pub HasNoFree : Plan → Type 0
HasNoFree plan = All (λ node. IsServed node.law) plan.nodes

-- a plan is valid: it has no free node, and a back edge stands only at LOOP of a loopback
abbrev pub IsValid : Plan → Type 0
IsValid plan = HoldsTogether IsServed EndsAtLoop plan

-- a plan is valid, but may have free nodes: a back edge may stand at FINISHED of a limiter too
abbrev pub IsValidWithFree : Plan → Type 0
IsValidWithFree plan = HoldsTogether (λ law. ⊤) (λ p e. EndsAtLoop p e ⊎ EndsAtFinished p e) plan

-- What the caller gives beside a plan.

-- a plan has a node of a number
abbrev pub HasNode : Plan → ℕ → Type 0
HasNode plan node = node < length plan.nodes

-- inputs fit: a prefix for each graph input, and a place for each side packet that the caller gives
pub record InputsFit (plan : Plan) (inputs : Inputs) : Type 0 where
  pub streams : length inputs.streams ≡ length plan.inputs
  pub prefixes : All IsPrefix inputs.streams
  pub sides : length inputs.sides ≡ length (given_places plan)

-- a calculator has a node's law and shape
pub record FitsNode (node : PlanNode) (law : Law) (shape : Shape) : Type 0 where
  pub same_law : law ≡ node.law
  pub same_shape : shape ≡ node.shape

-- user-supplied calculators fit: if a node has the number of a calculator, that calculator is there and has the node's law and shape
abbrev pub OutersFit : Plan → List OuterShape → Type 0
OutersFit plan outers =
    All (λ node. IfSome node.box_number (λ number. IsSomeAnd (slice_get outers number) (λ outer. FitsNode node outer.law outer.shape))) plan.nodes

-- Feeders.

-- who feeds a graph: a graph input, or a node without inputs, each by its number
pub data Feeder : Type 0 where
  graph_input : ℕ → Feeder
  source_node : ℕ → Feeder

-- the nodes without inputs, in order
abbrev pub sources : Plan → List ℕ
sources plan = map (λ e. e.0) (filter (λ e. length e.1.inputs == 0) (enumerate_from 0 plan.nodes))

-- the feeders in order: the graph inputs, and then the sources
abbrev pub feeders : Plan → List Feeder
feeders plan = map graph_input (numbers (length plan.inputs)) ++ map source_node (sources plan)

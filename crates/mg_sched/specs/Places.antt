-- Where the parts of a net stand, by the numbers of the plan, and a net with another part at a place.
use Rattle.std.specs.Prelude.{ℕ, ◌+◌, List, length, map, sum_by, take, Option, option_map, slice_set}
use Rattle.mg_calc.specs.declared.edge.Edge.{Edge}
use Rattle.mg_calc.specs.declared.plan.Plan.{Plan}
use Rattle.mg_calc.specs.declared.plan_stream.Producer.{Producer}
use Rattle.mg_calc.specs.declared.plan_stream.Producer.TheVariants.{Input, Node}
use Rattle.mg_calc.specs.Plan.{numbers}
use Rattle.mg_node.specs.declared.pending.Pending.{Pending}
use Rattle.mg_node.specs.Views.{IntakeView, EngineView}
use Rattle.mg_node.specs.Ports.{ports_in, port_queue}
use Rattle.mg_calc.specs.Reaching.{producer_of}
use Rattle.mg_throttle.specs.Throttle.{QueueLimits}
use Rattle.mg_sched.specs.Views.{WorkQueueView, NetView}

-- the place of the engine that writes a stream: the engines of the graph inputs stand after those of the nodes
abbrev pub place_of : Plan → Producer → ℕ
place_of plan (Input number) = length plan.nodes + number
place_of plan (Node node port) = node

-- the place of the engine from which an edge leads
abbrev pub source_of : Plan → Edge → Option ℕ
source_of plan e = option_map (place_of plan) (producer_of plan e.stream)

-- the number of the first edge into a node: edges are numbered by their consumers
abbrev pub first_edge : Plan → ℕ → ℕ
first_edge plan node = sum_by (λ n. length n.inputs) (take node plan.nodes)

-- how many packets wait at each port
abbrev pub lengths_of : Pending → List ℕ
lengths_of waits = map (λ port. length (port_queue waits port).packets) (numbers (ports_in waits))

-- a net with another part at a place
abbrev pub with_engine : NetView → ℕ → EngineView → NetView
with_engine net place engine = record net { engines = slice_set net.engines place engine }

abbrev pub with_intake : NetView → ℕ → IntakeView → NetView
with_intake net place intake = record net { intakes = slice_set net.intakes place intake }

abbrev pub with_work_queue : NetView → ℕ → WorkQueueView → NetView
with_work_queue net place work_queue = record net { work_queues = slice_set net.work_queues place work_queue }

abbrev pub with_limits : NetView → QueueLimits → NetView
with_limits net limits = record net { limits = limits }

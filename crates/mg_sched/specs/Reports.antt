-- What a net tells of how far it has come.
use Rattle.std.specs.Prelude.{ℕ, ◌+◌, List, ◌++◌, length, map, take, drop, sum_by}
use Rattle.std.specs.List.{flat_map, filter_map}
use Rattle.mg_value.specs.Payload.{Plain}
use Rattle.mg_settled.specs.declared.stream_end.StreamEnd.{StreamEnd}
use Rattle.mg_stream.specs.Pool.{Backlog}
use Rattle.mg_node.specs.Views.{EngineView}
use Rattle.mg_node.specs.Outputs.{packets_kept}
use Rattle.mg_node.specs.Ports.{waiting_in}
use Rattle.mg_sched.specs.declared.report.Report.{Report}
use Rattle.mg_sched.specs.Views.{NetView}

-- how many packets are in a net: those that engines keep, and those that wait at intakes
abbrev pub held_in : NetView → ℕ
held_in net = sum_by packets_kept net.engines + sum_by (λ i. waiting_in i.waits) net.intakes

-- the engines of the nodes, and those of the graph inputs
abbrev pub node_engines : NetView → List EngineView
node_engines net = take (length net.plan.nodes) net.engines

abbrev pub input_engines : NetView → List EngineView
input_engines net = drop (length net.plan.nodes) net.engines

-- how far a stream has come, by what was laid at its output: how many packets, those that were given up included, and the bound
abbrev pub backlog_end : Backlog Plain → StreamEnd
backlog_end b = record { packets = b.gone + length b.packets; bound = b.bound }

-- the streams that an engine writes, by its outputs
abbrev pub stream_ends_of : EngineView → List StreamEnd
stream_ends_of engine = map backlog_end engine.outputs

-- the report. It has for each node how many sets, calls or answers were laid. It has how far each stream has come: first the streams of the
-- graph inputs, and then those at the outputs of each node. It has the faults in node order
abbrev pub report_of : NetView → Report
report_of net = record {
  sets = map (λ e. e.laid) (node_engines net);
  streams = flat_map stream_ends_of (input_engines net) ++ flat_map stream_ends_of (node_engines net);
  faults = filter_map (λ e. e.fault) (node_engines net);
}

-- how many sets, calls or answers the nodes have claimed, all together
abbrev pub claimed_in : NetView → ℕ
claimed_in net = sum_by (λ e. e.claimed) (node_engines net)

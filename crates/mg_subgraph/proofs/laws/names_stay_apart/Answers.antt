use Rattle.mg_subgraph.specs.Names.{joined_name}
use Rattle.mg_subgraph.proofs.Apartness.{apart_by, joined_free, node_free, streams_free, sides_free, nodes_apart}
use Rattle.mg_subgraph.proofs.laws.names_stay_apart.Goals as goal

pub returns-clause-streams : goal.returns-clause-streams
returns-clause-streams c = λ owner file n node free here.
    let both = streams_free node (node_free owner n node free here) in
    apart_by n (joined_name node.inputs node.outputs file.inputs file.outputs) (λ name outer known. joined_free node.inputs node.outputs file.inputs file.outputs name outer both.0 both.1 known)

pub returns-clause-sides : goal.returns-clause-sides
returns-clause-sides c = λ owner file n node free here.
    let both = sides_free node (node_free owner n node free here) in
    apart_by n (joined_name node.input_sides node.output_sides file.input_sides file.output_sides)
    (λ name outer known. joined_free node.input_sides node.output_sides file.input_sides file.output_sides name outer both.0 both.1 known)

pub returns-clause-nodes : goal.returns-clause-nodes
returns-clause-nodes c = nodes_apart

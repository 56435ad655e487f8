use Rattle.mg_subgraph.specs.Names.{joined_name}
use Rattle.mg_subgraph.proofs.Apartness.{new_by, node_is_new}
use Rattle.mg_subgraph.proofs.laws.names_are_new.Goals as goal

pub returns-clause-streams : goal.returns-clause-streams
returns-clause-streams c = λ owner file n node free. new_by n (joined_name node.inputs node.outputs file.inputs file.outputs) owner free

pub returns-clause-sides : goal.returns-clause-sides
returns-clause-sides c = λ owner file n node free. new_by n (joined_name node.input_sides node.output_sides file.input_sides file.output_sides) owner free

pub returns-clause-nodes : goal.returns-clause-nodes
returns-clause-nodes c = λ owner n name free differs. node_is_new n name owner free differs

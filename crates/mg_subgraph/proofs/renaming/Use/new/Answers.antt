use Rattle.std.proofs.Common.{◌++◌}
use Rattle.mg_config.specs.Config.{graph_view}
use Rattle.mg_subgraph.specs.Refusals.{port_names, first_twice}
use Rattle.mg_subgraph.proofs.Joins.{none_left, none_right}
use Rattle.mg_subgraph.proofs.renaming.Use.new.Goals as goal

pub invariant_of-result : goal.invariant_of-result
invariant_of-result c =
    let file = graph_view c.args.file.now in
    record {
      placed = c.requires.names.streams;
      once = none_left (first_twice (port_names file.inputs ++ port_names file.outputs)) (first_twice (port_names file.input_sides ++ port_names file.output_sides)) c.requires.once;
    }

pub invariant_of-result-2 : goal.invariant_of-result-2
invariant_of-result-2 c =
    let file = graph_view c.args.file.now in
    record {
      placed = c.requires.names.sides;
      once = none_right (first_twice (port_names file.inputs ++ port_names file.outputs)) (first_twice (port_names file.input_sides ++ port_names file.output_sides)) c.requires.once;
    }

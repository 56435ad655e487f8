-- The expansion of a graph with a library of files, or its first refusal.
use Rattle.std.specs.Prelude.{List, Option, None, Some, Result, Ok, Err}
use Rattle.std.specs.Option.{option_or}
use Rattle.mg_config.specs.Config.{GraphView}
use Rattle.mg_subgraph.specs.Expanded.{expanded}
use Rattle.mg_subgraph.specs.Refusals.{type_twice, recursive, too_many_nodes, reserved_name, port_shared, bad_field, no_such_port}
use Rattle.mg_subgraph.specs.declared.fault.ExpandFault.{ExpandFault}

-- the first refusal, in the order in which refusals are looked for
abbrev pub refusal : GraphView → List GraphView → Option ExpandFault
refusal main library =
    option_or (type_twice library) (option_or (recursive main library) (option_or (too_many_nodes main library)
    (option_or (reserved_name main library) (option_or (port_shared main library)
    (option_or (bad_field main library) (no_such_port main library))))))

abbrev pub expansion_by : Option ExpandFault → GraphView → Result GraphView ExpandFault
expansion_by None graph = Ok graph
expansion_by (Some fault) graph = Err fault

-- the graph with its expanded nodes, whose other fields stay, or the first refusal
abbrev pub expansion_of : GraphView → List GraphView → Result GraphView ExpandFault
expansion_of main library = expansion_by (refusal main library) (record main { nodes = expanded library main.nodes })

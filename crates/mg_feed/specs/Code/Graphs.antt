-- What a `Graph` of the code stands for.
use Rattle.mg_feed.specs.Graph.{GraphInputs}
use Rattle.mg_feed.specs.declared.graph.Graph.{Graph}

abbrev pub graph_view : Graph → GraphInputs
graph_view g = record { streams = g.streams; kinds = g.kinds.items; sides = g.sides }

-- What an `InputBuffer` stands for.
use Rattle.std.specs.Prelude.{map}
use Rattle.mg_calc.specs.Given.{given as given_side}
use Rattle.mg_feed.specs.View.{View}
use Rattle.mg_feed.specs.Code.Graphs.{graph_view}
use Rattle.mg_feed.specs.Code.Streams.{waiting, was_taken}
use Rattle.mg_feed.specs.declared.input_buffer.InputBuffer.{InputBuffer}

-- what an `InputBuffer` has of the accepted lines
abbrev pub input_buffer : InputBuffer → View
input_buffer c = record {
  graph = graph_view c.graph;
  given = record { streams = map waiting c.streams.items; sides = map given_side c.sides.items; named = c.named };
  taken = map was_taken c.streams.items;
  lines = c.lines;
}

-- The inputs of a graph that lines give.
use Rattle.std.specs.Prelude.{Bool, List, map, if◌then◌else◌}
use Rattle.mg_value.specs.Payload.{Plain}
use Rattle.mg_settled.specs.Prefix.{StreamPrefix, closed}

-- a stream's prefix at the end of the lines: closed if the input ended well, and otherwise as the lines left it
abbrev pub ended_stream : Bool → StreamPrefix Plain → StreamPrefix Plain
ended_stream ended s = if ended then closed s else s

-- the prefixes of all streams at the end of the lines
abbrev pub ended_streams : Bool → List (StreamPrefix Plain) → List (StreamPrefix Plain)
ended_streams ended ss = map (ended_stream ended) ss

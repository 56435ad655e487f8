-- The two parts of an output line: what all lines of a stream begin with, and the rest.
use Rattle.std.specs.Prelude.{ℕ, List, ◌++◌, codes}
use Rattle.serde_json.specs.Data.{string}
use Rattle.serde_json.specs.Written.{compact_text}
use Rattle.mg_value.specs.Payload.{Plain}
use Rattle.mg_value.specs.Packet.{Stamped}
use Rattle.mg_json.specs.Json.{json_of}
use Rattle.mg_feed.specs.Output.{time_data}

-- what all lines of a stream begin with, up to the timestamp
unfoldable pub line_head : List ℕ → List ℕ
line_head name = codes "{\"stream\":" ++ (compact_text (string name) ++ codes ",\"ts\":")

-- the rest of a packet's line, from the timestamp on
unfoldable pub line_tail : Stamped Plain → List ℕ
line_tail p = compact_text (time_data p.at) ++ (codes ",\"value\":" ++ (compact_text (json_of p.value) ++ codes "}\n"))

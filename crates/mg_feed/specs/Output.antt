-- The lines of an output text: the compact JSON that `serde_json` writes.
use Rattle.std.specs.Prelude.{ℕ, ◌==◌, List, [], ◌∷◌, ◌++◌, codes, if◌then◌else◌}
use Rattle.serde_json.specs.Data.{Data, number, string, object, no_members, member}
use Rattle.serde_json.specs.Find.{of_integer}
use Rattle.serde_json.specs.Written.{compact_text}
use Rattle.mg_time.specs.Time.{raw_of, pre_stream, post_stream}
use Rattle.mg_value.specs.Payload.{Plain}
use Rattle.mg_value.specs.Packet.{Stamped}
use Rattle.mg_json.specs.Json.{json_of}

-- a time as JSON: the number of a time of the range, and the names of the two others that a packet may carry
abbrev pub time_data : ℕ → Data
time_data t =
    if t == pre_stream then string (codes "PreStream")
    else (if t == post_stream then string (codes "PostStream") else number (of_integer (raw_of t)))

-- a packet of a stream as JSON: its stream, its timestamp and its value
abbrev pub packet_data : List ℕ → Stamped Plain → Data
packet_data name p =
    object (member (codes "stream") (string name) (member (codes "ts") (time_data p.at) (member (codes "value") (json_of p.value) no_members)))

-- the line of a packet of a stream
unfoldable pub line_text : List ℕ → Stamped Plain → List ℕ
line_text name p = compact_text (packet_data name p) ++ 10 ∷ []

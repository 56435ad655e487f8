-- The text of a job: its packet lines in canonical form, and a last line that says whether the input ended well. Each packet
-- line is compact, with its keys in byte order. First stand the side packets in the plan's order, and then the graph inputs, one
-- after the other.
use Rattle.std.specs.Prelude.{ℕ, Bool, true, List, [], ◌∷◌, ◌++◌, ◌==◌, map, flat_map, codes, Option, None, Some, unwrap_or, slice_get, if◌then◌else◌}
use Rattle.serde_json.specs.Data.{Data, boolean, string, object, member, no_members}
use Rattle.serde_json.specs.Written.{compact_text}
use Rattle.mg_time.specs.Time.{done}
use Rattle.mg_value.specs.Payload.{Plain}
use Rattle.mg_value.specs.Packet.{Stamped}
use Rattle.mg_json.specs.Json.{json_of}
use Rattle.mg_settled.specs.Prefix.{StreamPrefix, empty_prefix, all_appended}
use Rattle.mg_calc.specs.Side.{PlainSide, PlainSideValue, given_at, fixed}
use Rattle.mg_calc.specs.declared.inputs.Inputs.{Inputs}
use Rattle.mg_calc.specs.declared.plan.Plan.{Plan}
use Rattle.mg_feed.specs.Graph.{input_streams}
use Rattle.mg_feed.specs.Lines.{fed_lines}
use Rattle.mg_feed.specs.Output.{time_data, packet_data}

-- a side packet, as JSON
abbrev pub side_data : List ℕ → Plain → Data
side_data name value = object (member (codes "side") (string name) (member (codes "value") (json_of value) no_members))

-- a bound of a stream, as JSON
abbrev pub bound_data : List ℕ → ℕ → Data
bound_data name time = object (member (codes "bound") (time_data time) (member (codes "stream") (string name) no_members))

-- the close of a stream, as JSON
abbrev pub close_data : List ℕ → Data
close_data name = object (member (codes "close") (boolean true) (member (codes "stream") (string name) no_members))

-- the value of a side packet, if the side packet is user-supplied and its value came
abbrev pub side_handed_in : List (Option Plain) → PlainSideValue → Option Plain
side_handed_in given (given_at place) = unwrap_or (slice_get given place) None
side_handed_in given (fixed value) = None

-- what is said of a side packet: its value, if the value came
abbrev pub said : List ℕ → Option Plain → List Data
said name None = []
said name (Some value) = side_data name value ∷ []

-- what is said of all side packets, in the plan's order
abbrev pub side_lines : List (Option Plain) → List PlainSide → List Data
side_lines given sides = flat_map (λ side. said side.name (side_handed_in given side.value)) sides

-- the bound that packets alone leave: what may follow the last of them, and PreStream if there is none
abbrev pub bound_after : List (Stamped Plain) → ℕ
bound_after ps = (all_appended empty_prefix ps).bound

-- what is said of a stream after its packets: that it is closed, or its bound if the packets leave another bound
abbrev pub end_lines : List ℕ → StreamPrefix Plain → List Data
end_lines name s = if s.bound == done then close_data name ∷ [] else (if s.bound == bound_after s.packets then [] else bound_data name s.bound ∷ [])

-- what is said of a stream. If the input ended well, all streams are closed, and no line says so
abbrev pub stream_lines : Bool → List ℕ → StreamPrefix Plain → List Data
stream_lines ended name s = map (packet_data name) s.packets ++ (if ended then [] else end_lines name s)

-- what is said of all graph inputs, one after the other
abbrev pub all_stream_lines : Bool → List (List ℕ) → List (StreamPrefix Plain) → List Data
all_stream_lines ended [] ss = []
all_stream_lines ended (name ∷ names) [] = []
all_stream_lines ended (name ∷ names) (s ∷ ss) = stream_lines ended name s ++ all_stream_lines ended names ss

-- the names of the graph inputs
abbrev pub input_names : Plan → List (List ℕ)
input_names plan = map (λ s. s.name) (input_streams plan)

-- what is said of a job, as JSON
abbrev pub job_data : Plan → Inputs → List Data
job_data plan inputs = side_lines inputs.sides plan.sides ++ all_stream_lines inputs.ended (input_names plan) inputs.streams

-- the packet lines of a job
abbrev pub job_lines : Plan → Inputs → List (List ℕ)
job_lines plan inputs = map compact_text (job_data plan inputs)

-- the last line of a job: whether its input ended well
abbrev pub end_word : Bool → List ℕ
end_word ended = if ended then codes "ended" else codes "frozen"

-- the text of a job: its packet lines and the last line
unfoldable pub job_text : Plan → Inputs → List ℕ
job_text plan inputs = fed_lines (job_lines plan inputs ++ end_word inputs.ended ∷ [])

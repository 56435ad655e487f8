-- The lines of a recorded run that tell its job: packet lines, and after them a line that says how the job's input ended.
use Rattle.std.specs.Prelude.{◌≡◌, ℕ, ◌==◌, Bool, true, false, ◌||◌, List, [], ◌∷◌, ◌++◌, Option, None, Some, option_map, codes, if◌then◌else◌, ⊤}
use Rattle.std.specs.Str.{bytes_eq}
use Rattle.mg_calc.specs.declared.inputs.Inputs.{Inputs}
use Rattle.mg_calc.specs.declared.plan.Plan.{Plan}
use Rattle.mg_feed.specs.Graph.{GraphInputs, inputs_of}
use Rattle.mg_feed.specs.Form.{is_blank}
use Rattle.mg_feed.specs.Given.{ended_streams}
use Rattle.mg_feed.specs.Accepted.{given_by}
use Rattle.mg_feed.specs.Recorded.{recorded_refusal}
use Rattle.mg_replay.specs.declared.trace_end.TraceFault.{TraceFault}
use Rattle.mg_replay.specs.declared.trace_end.TraceFault.TheVariants.{Line, BadEvent}

-- whether a line ends the packet lines
abbrev pub is_end_word : List ℕ → Bool
is_end_word line = bytes_eq line (codes "ended") || bytes_eq line (codes "frozen")

-- whether a line opens an object, perhaps after blanks, or is of blanks alone
abbrev pub may_say_packet : List ℕ → Bool
may_say_packet [] = true
may_say_packet (b ∷ line) = if is_blank b then may_say_packet line else b == 123

-- Why a line that stands where packet lines do isn't good after the lines before it. It may have any length, and any number of lines
-- may come before it.
abbrev pub packet_refusal : GraphInputs → List (List ℕ) → List ℕ → Option TraceFault
packet_refusal graph before line = if may_say_packet line then option_map Line (recorded_refusal graph before line) else Some BadEvent

-- a line is a packet line that is good after those before it
abbrev pub IsPacket : GraphInputs → List (List ℕ) → List ℕ → Type 0
IsPacket graph before line = (is_end_word line ≡ false) × (packet_refusal graph before line ≡ None)

-- lines are packet lines, each of them good after those before it
abbrev pub ArePackets : GraphInputs → List (List ℕ) → List (List ℕ) → Type 0
ArePackets graph before [] = ⊤
ArePackets graph before (line ∷ lines) = IsPacket graph before line × ArePackets graph (before ++ line ∷ []) lines

-- the inputs that packet lines give a graph. `ended` says whether the graph's input ended well
abbrev pub inputs_with : Plan → List (List ℕ) → Bool → Inputs
inputs_with plan lines ended = record {
  streams = ended_streams ended (given_by (inputs_of plan) lines).streams;
  sides = (given_by (inputs_of plan) lines).sides;
  ended = ended;
}

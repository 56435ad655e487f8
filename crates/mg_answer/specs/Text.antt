-- The output text of a graph: a line for each packet that its outputs have at a settled time.
use Rattle.std.specs.Prelude.{ℕ, List, [], ◌∷◌, ◌++◌, map, Option, None, Some, slice_get, option_map, unwrap_or}
use Rattle.std.specs.List.{flat_map}
use Rattle.mg_value.specs.Payload.{Plain}
use Rattle.mg_value.specs.declared.policy.Policy.TheVariants.{Default}
use Rattle.mg_value.specs.Packet.{Stamped}
use Rattle.mg_settled.specs.Prefix.{StreamPrefix}
use Rattle.mg_settled.specs.Settled.{TimedSet, settled_sets, inputs_of}
use Rattle.mg_calc.specs.declared.plan.Plan.{Plan}
use Rattle.mg_feed.specs.Output.{line_text}

-- the name of a stream of a plan, by its number
abbrev pub name_of : Plan → ℕ → List ℕ
name_of plan number = unwrap_or (option_map (λ s. s.name) (slice_get plan.streams number)) []

-- the names of a graph's outputs, in order
abbrev pub output_names : Plan → List (List ℕ)
output_names plan = map (name_of plan) plan.outputs

-- the line of a packet, if there is one
abbrev pub packet_text : List ℕ → Option (Stamped Plain) → List ℕ
packet_text name None = []
packet_text name (Some p) = line_text name p

-- the lines of a set: for each output that has a packet in it the packet's line, in the order of the outputs
abbrev pub set_text : List (List ℕ) → List (Option (Stamped Plain)) → List ℕ
set_text [] set = []
set_text (name ∷ names) [] = []
set_text (name ∷ names) (place ∷ places) = packet_text name place ++ set_text names places

-- the lines of some sets, one set after the other
abbrev pub sets_text : List (List ℕ) → List (TimedSet Plain) → List ℕ
sets_text names sets = flat_map (λ timed. set_text names timed.set) sets

-- The output text that the streams of a plan make. For each time that is settled on all outputs of the graph, in ascending order,
-- it has the lines of the outputs' packets there.
abbrev pub output_text_of : Plan → List (StreamPrefix Plain) → List ℕ
output_text_of plan streams = sets_text (output_names plan) (settled_sets Default (inputs_of streams plan.outputs))

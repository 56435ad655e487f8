-- The summary of an output text. It says of each graph output how many packets the output has in the text, and when the first and
-- the last of them stand. It also has the sum of the output's whole numbers.
use Rattle.std.specs.Prelude.{◌≡◌, ℕ, ℤ, pos, ◌+ℤ◌, List, [], ◌∷◌, ◌++◌, map, reverse, length, Option, None, Some, slice_index_or, codes, decimal}
use Rattle.std.specs.List.{flat_map, filter_map}
use Rattle.std.specs.Fmt.{signed_decimal}
use Rattle.mg_time.specs.Text.{time_text}
use Rattle.mg_value.specs.Payload.{Plain, flag, int, text, items, entries}
use Rattle.mg_value.specs.declared.policy.Policy.TheVariants.{Default}
use Rattle.mg_value.specs.Packet.{Stamped}
use Rattle.mg_settled.specs.Prefix.{StreamPrefix}
use Rattle.mg_settled.specs.Settled.{TimedSet, settled_sets, inputs_of}
use Rattle.mg_calc.specs.declared.plan.Plan.{Plan}
use Rattle.mg_calc.specs.Meaning.{numbered}
use Rattle.mg_answer.specs.Shown.{escaped}
use Rattle.mg_answer.specs.Text.{output_names}
use Rattle.mg_answer.specs.declared.total.Total.{Total}

-- The totals of an output --

-- the number that a payload adds to a sum: a whole number counts as itself, and every other payload as 0
abbrev pub addend : Plain → ℤ
addend (flag b) = pos 0
addend (int n) = n
addend (text s) = pos 0
addend (items vs) = pos 0
addend (entries es) = pos 0

-- the sum of the whole numbers of some packets
abbrev pub sum_of : List (Stamped Plain) → ℤ
sum_of [] = pos 0
sum_of (p ∷ ps) = addend p.value +ℤ sum_of ps

-- the time of the first of some packets, if there is one
abbrev pub first_time_of : List (Stamped Plain) → Option ℕ
first_time_of [] = None
first_time_of (p ∷ ps) = Some p.at

-- the time of the last of some packets, if there is one
abbrev pub last_time_of : List (Stamped Plain) → Option ℕ
last_time_of ps = first_time_of (reverse ps)

-- the totals of some packets
abbrev pub total_of : List (Stamped Plain) → Total
total_of ps = record { packets = length ps; first = first_time_of ps; last = last_time_of ps; sum = sum_of ps }

-- The text --

-- the packets that an output has in some sets, by its place among the outputs
abbrev pub packets_at : ℕ → List (TimedSet Plain) → List (Stamped Plain)
packets_at place sets = filter_map (λ timed. slice_index_or timed.set place None) sets

-- a time, or a dash if there is none
abbrev pub time_or_dash : Option ℕ → List ℕ
time_or_dash None = codes "-"
time_or_dash (Some t) = time_text t

-- the line of an output in a summary: its name and its totals
abbrev pub total_line : List ℕ → Total → List ℕ
total_line name total =
    escaped name ++ codes " packets=" ++ decimal total.packets ++ codes " first=" ++ time_or_dash total.first
    ++ codes " last=" ++ time_or_dash total.last ++ codes " sum=" ++ signed_decimal total.sum ++ codes "\n"

-- the summary of sets: a line for each output of these names, in order, with the totals of its packets in these sets
abbrev pub summary_text : List (List ℕ) → List (TimedSet Plain) → List ℕ
summary_text names sets = flat_map (λ entry. total_line entry.1 (total_of (packets_at entry.0 sets))) (numbered names)

-- The summary that the streams of a plan make, over the same sets as the output text.
abbrev pub summary_of : Plan → List (StreamPrefix Plain) → List ℕ
summary_of plan streams = summary_text (output_names plan) (settled_sets Default (inputs_of streams plan.outputs))

-- What is counted --

-- a summary as contracts see it: the names of the outputs, the totals of each, and how many sets were put
pub record SummaryView : Type 0 where
  pub names : List (List ℕ)
  pub totals : List Total
  pub sets : ℕ

-- the totals of the outputs of these names in some sets, in order
abbrev pub totals_of : List (List ℕ) → List (TimedSet Plain) → List Total
totals_of names sets = map (λ entry. total_of (packets_at entry.0 sets)) (numbered names)

-- A summary has counted these sets, and no others.
pub record HasSummed (view : SummaryView) (sets : List (TimedSet Plain)) : Type 0 where
  pub told : view.totals ≡ totals_of view.names sets
  pub counted : view.sets ≡ length sets

-- The laws at a few small inputs.
use Rattle.std.proofs.Common.{◌≡◌, ℕ, ◌-◌, ◌^◌, ℤ, true, false, [], ◌∷◌, Some, None, Ok, Err, refl, pos, negsuc}
use Rattle.mg_time.specs.Time.{place_of, pre_stream, greatest, least, post_stream, one_over_post_stream, raw_of}
use Rattle.mg_value.specs.Plain.{Plain, flag, int, text, items, item, no_items}
use Rattle.mg_value.specs.Packet.{Stamped}
use Rattle.mg_calc.specs.declared.law.Law.{Law}
use Rattle.mg_calc.specs.declared.law.Law.TheVariants.{Gate, Mux, Cloner, Merge, Thin, Compute, Filter, Shift, Count, SideOnce, Tally, Scripted}
use Rattle.mg_value.specs.declared.kind.Kind.TheVariants.{Int}
use Rattle.mg_calc.specs.declared.computations.Formula.{Formula}
use Rattle.mg_calc.specs.declared.computations.Formula.TheVariants.{Sum, Map, Running}
use Rattle.mg_calc.specs.declared.computations.int_map.MapOp.TheVariants.{Subtract, Multiply}
use Rattle.mg_calc.specs.declared.law.Keep.TheVariants.{Even, Odd}
use Rattle.mg_calc.specs.declared.cause.Cause.TheVariants.{Overflow, BadSelect, WrongKind, NoSide}
use Rattle.mg_calc.specs.declared.emission.Laid.{Laid}
use Rattle.mg_calc.specs.Law.{opening, step, call, finish}

-- the time of a number, a packet of a number there, and what lies at an output
abbrev t : ℕ → ℕ
t n = place_of (pos n)

abbrev pk : ℕ → ℤ → Stamped Plain
pk at n = record { at = at; value = int n }

abbrev out : ℕ → ℤ → Laid
out at n = record { packets = pk at n ∷ []; bound = None }

abbrev nothing : Laid
nothing = record { packets = []; bound = None }

-- a computation of numbers
abbrev computed : Formula → ℕ → Law
computed formula lanes = Compute (record { formula = formula; lanes = lanes; takes = Int; gives = Int })

-- a running sum begins at nothing, which counts as 0
running_begins : opening (computed Running 1) [] ≡ Ok ([], [])
running_begins = refl

running_goes_on : step (computed Running 1) [] (t 1) (Some (pk (t 1) (pos 4)) ∷ []) ≡ Ok (int (pos 4) ∷ [], out (t 1) (pos 4) ∷ [])
running_goes_on = refl

running_stays : step (computed Running 1) (int (pos 7) ∷ []) (t 1) (None ∷ []) ≡ Ok (int (pos 7) ∷ [], [])
running_stays = refl

running_overflows : step (computed Running 1) (int (pos (2 ^ 63 - 1)) ∷ []) (t 1) (Some (pk (t 1) (pos 1)) ∷ []) ≡ Err Overflow
running_overflows = refl

-- a source counts from 0
count_two : call (Count 3 (pos 0) (pos 1)) [] 2 ≡ Ok ([], out (t 2) (pos 2) ∷ [])
count_two = refl

count_first : call (Count 3 (negsuc 4) (pos 10)) [] 0 ≡ Ok ([], out (place_of (negsuc 4)) (pos 0) ∷ [])
count_first = refl

count_to_the_end : call (Count 2 (negsuc (2 ^ 63 - 4)) (pos (2 ^ 63 - 1))) [] 1 ≡ Ok ([], out (t 2) (pos 1) ∷ [])
count_to_the_end = refl

count_past_the_end : call (Count 2 (pos 0) (pos (2 ^ 63 - 1))) [] 1 ≡ Err Overflow
count_past_the_end = refl

-- the one packet of a merge comes from whatever port has one
merge_second : step (Merge 2) [] (t 1) (None ∷ Some (pk (t 1) (pos 9)) ∷ []) ≡ Ok ([], out (t 1) (pos 9) ∷ [])
merge_second = refl

merge_first : step (Merge 2) [] (t 1) (Some (pk (t 1) (pos 8)) ∷ Some (pk (t 1) (pos 9)) ∷ []) ≡ Ok ([], out (t 1) (pos 8) ∷ [])
merge_first = refl

tally_one : step Tally [] (t 1) (Some (pk (t 1) (pos 70)) ∷ []) ≡ Ok (int (pos 1) ∷ [], out (t 1) (pos 1) ∷ [])
tally_one = refl

tally_closes : finish Tally (int (pos 1) ∷ []) ≡ Ok (int (pos 1) ∷ [], [])
tally_closes = refl

-- a thinner that passes a packet before the range, or so late that no further can pass, raises past all packets
abbrev past : Laid
past = record { packets = pk pre_stream (pos 3) ∷ []; bound = Some one_over_post_stream }

thin_at_pre_stream : step (Thin (pos 10)) [] pre_stream (Some (pk pre_stream (pos 3)) ∷ []) ≡ Ok (int (raw_of one_over_post_stream) ∷ [], past ∷ [])
thin_at_pre_stream = refl

abbrev late : ℕ
late = place_of (pos 9223372036854775800)

thin_late : step (Thin (pos 10)) [] late (Some (pk late (pos 3)) ∷ []) ≡ Ok (int (raw_of one_over_post_stream) ∷ [], record { packets = pk late (pos 3) ∷ []; bound = Some one_over_post_stream } ∷ [])
thin_late = refl

thin_passes : step (Thin (pos 10)) (int (pos 10) ∷ []) (t 10) (Some (pk (t 10) (pos 3)) ∷ []) ≡ Ok (int (pos 20) ∷ [], record { packets = pk (t 10) (pos 3) ∷ []; bound = Some (t 20) } ∷ [])
thin_passes = refl

thin_drops : step (Thin (pos 10)) (int (pos 10) ∷ []) (t 9) (Some (pk (t 9) (pos 3)) ∷ []) ≡ Ok (int (pos 10) ∷ [], record { packets = []; bound = Some (t 10) } ∷ [])
thin_drops = refl

-- a gate
abbrev yes : Stamped Plain
yes = record { at = t 1; value = flag true }

gate_allows : step (Gate 1 false false) [] (t 1) (Some (pk (t 1) (pos 5)) ∷ Some yes ∷ []) ≡ Ok ([], out (t 1) (pos 5) ∷ [])
gate_allows = refl

gate_disallows : step (Gate 1 true false) [] (t 1) (Some (pk (t 1) (pos 5)) ∷ Some yes ∷ []) ≡ Ok ([], [])
gate_disallows = refl

gate_of_empty : step (Gate 2 true true) [] (t 1) (None ∷ Some (pk (t 1) (pos 5)) ∷ None ∷ []) ≡ Ok ([], nothing ∷ out (t 1) (pos 5) ∷ [])
gate_of_empty = refl

gate_of_another_kind : step (Gate 1 false true) [] (t 1) (None ∷ Some (pk (t 1) (pos 5)) ∷ []) ≡ Err WrongKind
gate_of_another_kind = refl

-- a mux
mux_one : step (Mux 2) [] (t 1) (Some (pk (t 1) (pos 5)) ∷ Some (pk (t 1) (pos 6)) ∷ Some (pk (t 1) (pos 1)) ∷ []) ≡ Ok ([], out (t 1) (pos 6) ∷ [])
mux_one = refl

mux_two : step (Mux 2) [] (t 1) (None ∷ None ∷ Some (pk (t 1) (pos 2)) ∷ []) ≡ Err BadSelect
mux_two = refl

mux_below_zero : step (Mux 2) [] (t 1) (None ∷ None ∷ Some (pk (t 1) (negsuc 0)) ∷ []) ≡ Err BadSelect
mux_below_zero = refl

mux_without_select : step (Mux 2) [] (t 1) (Some (pk (t 1) (pos 5)) ∷ None ∷ None ∷ []) ≡ Ok ([], [])
mux_without_select = refl

mux_absent : step (Mux 2) [] (t 1) (Some (pk (t 1) (pos 5)) ∷ None ∷ Some (pk (t 1) (pos 1)) ∷ []) ≡ Ok ([], [])
mux_absent = refl

-- a cloner of two lanes keeps both, and repeats them at a tick
abbrev one_of : ℤ → Plain
one_of n = items (item (int n) no_items)

cloner_keeps : step (Cloner 2) [] (t 1) (Some (pk (t 1) (pos 5)) ∷ None ∷ None ∷ []) ≡ Ok (one_of (pos 5) ∷ items no_items ∷ [], [])
cloner_keeps = refl

cloner_repeats : step (Cloner 2) (one_of (pos 5) ∷ items no_items ∷ []) (t 2) (None ∷ None ∷ Some yes ∷ [])
    ≡ Ok (one_of (pos 5) ∷ items no_items ∷ [], out (t 2) (pos 5) ∷ nothing ∷ [])
cloner_repeats = refl

cloner_renews : step (Cloner 2) (one_of (pos 5) ∷ items no_items ∷ []) (t 2) (None ∷ Some (pk (t 2) (pos 6)) ∷ Some yes ∷ [])
    ≡ Ok (one_of (pos 5) ∷ one_of (pos 6) ∷ [], out (t 2) (pos 5) ∷ out (t 2) (pos 6) ∷ [])
cloner_renews = refl

-- sums are exact, whatever the order
sum_of_ends : step (computed Sum 3) [] (t 1) (Some (pk (t 1) (pos (2 ^ 63 - 1))) ∷ Some (pk (t 1) (pos 1)) ∷ Some (pk (t 1) (negsuc 0)) ∷ []) ≡ Ok ([], out (t 1) (pos (2 ^ 63 - 1)) ∷ [])
sum_of_ends = refl

sum_past_the_end : step (computed Sum 2) [] (t 1) (Some (pk (t 1) (pos (2 ^ 63 - 1))) ∷ Some (pk (t 1) (pos 1)) ∷ []) ≡ Err Overflow
sum_past_the_end = refl

sum_of_text : step (computed Sum 2) [] (t 1) (Some (pk (t 1) (pos 1)) ∷ Some (record { at = t 1; value = text [] }) ∷ []) ≡ Err WrongKind
sum_of_text = refl

map_multiplies : step (computed (Map Multiply (negsuc 1)) 1) [] (t 1) (Some (pk (t 1) (pos 4)) ∷ []) ≡ Ok ([], out (t 1) (negsuc 7) ∷ [])
map_multiplies = refl

map_overflows : step (computed (Map Subtract (pos 1)) 1) [] (t 1) (Some (pk (t 1) (negsuc (2 ^ 63 - 1))) ∷ []) ≡ Err Overflow
map_overflows = refl

-- filters
filter_drops : step (Filter Even false) [] (t 1) (Some (pk (t 1) (negsuc 2)) ∷ []) ≡ Ok ([], [])
filter_drops = refl

filter_raises : step (Filter Odd true) [] (t 1) (Some (pk (t 1) (pos 2)) ∷ []) ≡ Ok ([], record { packets = []; bound = Some (t 2) } ∷ [])
filter_raises = refl

filter_keeps : step (Filter Odd true) [] (t 1) (Some (pk (t 1) (negsuc 2)) ∷ []) ≡ Ok ([], record { packets = pk (t 1) (negsuc 2) ∷ []; bound = Some (t 2) } ∷ [])
filter_keeps = refl

-- shifts: special times stay, and the range isn't left
shift_back : step (Shift (negsuc 4)) [] (t 10) (Some (pk (t 10) (pos 3)) ∷ []) ≡ Ok ([], out (t 5) (pos 3) ∷ [])
shift_back = refl

shift_pre_stream : step (Shift (pos 4)) [] pre_stream (Some (pk pre_stream (pos 3)) ∷ []) ≡ Ok ([], out pre_stream (pos 3) ∷ [])
shift_pre_stream = refl

shift_post_stream : step (Shift (pos 4)) [] post_stream (Some (pk post_stream (pos 3)) ∷ []) ≡ Ok ([], out post_stream (pos 3) ∷ [])
shift_post_stream = refl

shift_past_max : step (Shift (pos 1)) [] greatest (Some (pk greatest (pos 3)) ∷ []) ≡ Err Overflow
shift_past_max = refl

shift_below_min : step (Shift (negsuc 0)) [] least (Some (pk least (pos 3)) ∷ []) ≡ Err Overflow
shift_below_min = refl

-- a missing side packet, and one that is there
side_missing : opening (SideOnce (t 0)) (None ∷ []) ≡ Err NoSide
side_missing = refl

side_once : call (SideOnce (t 0)) (one_of (pos 9) ∷ []) 0 ≡ Ok (one_of (pos 9) ∷ [], out (t 0) (pos 9) ∷ [])
side_once = refl

-- what is written down comes in order, and after it nothing
abbrev written : Law
written = Scripted None (out (t 0) (pos 1) ∷ []) ((out (t 1) (pos 2) ∷ []) ∷ []) (out (t 9) (pos 3) ∷ [])

scripted_opens : opening written [] ≡ Ok ([], out (t 0) (pos 1) ∷ [])
scripted_opens = refl

scripted_first : step written [] (t 1) (None ∷ []) ≡ Ok (int (pos 1) ∷ [], out (t 1) (pos 2) ∷ [])
scripted_first = refl

scripted_past : step written (int (pos 1) ∷ []) (t 2) (None ∷ []) ≡ Ok (int (pos 1) ∷ [], [])
scripted_past = refl

scripted_closes : finish written (int (pos 1) ∷ []) ≡ Ok (int (pos 1) ∷ [], out (t 9) (pos 3) ∷ [])
scripted_closes = refl

-- The laws of loops over lists: what each gives for its state and the set at a time t. They are this project's own profile of
-- MediaPipe's BeginLoopCalculator and EndLoopCalculator. Inside a loop packets stand at inner times, which are counted from 0 on and
-- never used twice. Each of the two has a second form, which an option chooses: a BeginLoop may end a batch also at a set without a
-- list, and an EndLoop may give a bound in place of an empty list. Those are MediaPipe's own rules.
use Rattle.std.specs.Prelude.{ℕ, pos, ◌+◌, ◌-◌, ◌^◌, ◌==◌, ◌&&◌, Bool, nat_le, List, [], ◌∷◌, ◌++◌, map, length, replicate, Option, Some, None, option_map, unwrap_or, Result, Ok, Err, if◌then◌else◌}
use Rattle.std.specs.List.{range_with_len}
use Rattle.mg_time.specs.Time.{raw_of, place_of, next}
use Rattle.mg_value.specs.Plain.{Plain, int, items, items_of, depth}
use Rattle.mg_value.specs.Packet.{Stamped}
use Rattle.mg_calc.specs.declared.cause.Cause.{Cause}
use Rattle.mg_calc.specs.declared.cause.Cause.TheVariants.{Overflow, TooDeep}
use Rattle.mg_calc.specs.declared.emission.Laid.{Laid}
use Rattle.mg_calc.specs.Answer.{Answer, emission_of}
use Rattle.mg_calc.specs.Values.{place_at, number_of, items_in}
use Rattle.mg_calc.specs.State.{state_of, count_in, kept_list, full_places}

-- the inner time of a number
abbrev pub inner_time : ℕ → ℕ
inner_time c = place_of (pos c)

-- payloads at the inner times from a number on
abbrev pub at_inner_times : ℕ → List Plain → List (Stamped Plain)
at_inner_times c [] = []
at_inner_times c (v ∷ vs) = record { at = inner_time c; value = v } ∷ at_inner_times (c + 1) vs

-- the number of a list's last inner time, from the number of its first and its count of items. An empty list takes one inner time too.
abbrev pub last_inner : ℕ → ℕ → ℕ
last_inner c count = c + (count - 1)

-- what is laid at an output of BeginLoop: packets, and then a raise to the next inner time
abbrev pub laid_up_to : ℕ → List (Stamped Plain) → Laid
laid_up_to last packets = record { packets = packets; bound = Some (inner_time (last + 1)) }

-- the copies of the packet of an input CLONE, one at the inner time of each item; none if that input has no packet
abbrev pub copies : ℕ → ℕ → Option (Stamped Plain) → List (Stamped Plain)
copies c count None = []
copies c count (Some p) = at_inner_times c (replicate count p.value)

-- what is laid at each of the outputs CLONE for a list of count items with the inner times from c to last: the copies of what the
-- input CLONE of its index has
abbrev pub clones_laid : ℕ → ℕ → ℕ → ℕ → List (Option (Stamped Plain)) → List Laid
clones_laid clones c last count set = map (λ i. laid_up_to last (copies c count (place_at set i))) (range_with_len 0 clones)

-- the emission for a list at t with the inner times from c to last. First comes the end of the batch, which tells t, at the last inner
-- time. Then come the copies for each CLONE, and then the items.
abbrev pub batch : ℕ → ℕ → ℕ → ℕ → List Plain → List (Option (Stamped Plain)) → List Laid
batch clones c last t list set =
    laid_up_to last (record { at = inner_time last; value = int (raw_of t) } ∷ [])
    ∷ (clones_laid clones c last (length list) set ++ laid_up_to last (at_inner_times c list) ∷ [])

-- the answer to a list at t: its emission, and as the state the next inner time after the list's; Overflow if that is past Max
abbrev pub begun_batch : ℕ → ℕ → ℕ → List Plain → List (Option (Stamped Plain)) → Answer
begun_batch clones c t list set =
    let last = last_inner c (length list) in
    if nat_le (last + 1) (2 ^ 63 - 4) then Ok (state_of (pos (last + 1)), batch clones c last t list set) else Err Overflow

-- the items of a set's batch, by what ITERABLE has: those of the list. Without a list there is no batch, or, if the end is always told,
-- one without items.
abbrev pub batch_of : Bool → Option (Stamped Plain) → Option (List Plain)
batch_of always_end None = if always_end then Some [] else None
batch_of always_end (Some p) = Some (items_in p.value)

-- BeginLoop: the items of the list go on, each at an inner time; the state is the next inner time. Without a list nothing happens, or,
-- if the end is always told, the same as at an empty list. ITERABLE is the last input, after the inputs CLONE.
abbrev pub begin_loop : ℕ → Bool → List Plain → ℕ → List (Option (Stamped Plain)) → Answer
begin_loop clones always_end state t set =
    unwrap_or (option_map (λ list. begun_batch clones (count_in state) t list set) (batch_of always_end (place_at set clones))) (Ok (state, []))

-- a list, and then the payload of ITEM, if ITEM has a packet; TooDeep if the list would then nest deeper than a payload may
abbrev pub with_item : List Plain → Option (Stamped Plain) → Result (List Plain) Cause
with_item list None = Ok list
with_item list (Some p) = if nat_le 16 (depth p.value) then Err TooDeep else Ok (list ++ p.value ∷ [])

-- what goes on at the end of a batch that tells a time: the list, in a packet at that time. If empty lists go as bounds and there are no
-- items, no packet goes on, and the output is raised past that time.
abbrev pub list_or_bound : Bool → ℕ → List Plain → List Laid
list_or_bound empty_as_bound t list =
    if empty_as_bound && (length list == 0)
    then record { packets = []; bound = Some (next t) } ∷ []
    else emission_of (Some (record { at = t; value = items (items_of list) }) ∷ [])

-- the answer of EndLoop for its list: the list is kept, or, if BATCH_END tells a time, goes on and is kept no more
abbrev pub gathered : Bool → Option (Stamped Plain) → Result (List Plain) Cause → Answer
gathered empty_as_bound end (Err cause) = Err cause
gathered empty_as_bound None (Ok list) = Ok (full_places list, [])
gathered empty_as_bound (Some end) (Ok list) = Ok ([], list_or_bound empty_as_bound (place_of (number_of end.value)) list)

-- EndLoop: the state is the list so far. BATCH_END is the first input, and ITEM the second.
abbrev pub end_loop : Bool → List Plain → List (Option (Stamped Plain)) → Answer
end_loop empty_as_bound state set = gathered empty_as_bound (place_at set 0) (with_item (kept_list state) (place_at set 1))

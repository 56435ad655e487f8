-- The table of laws, after the pages of the MediaPipe framework on its calculators. A calculator is opened once, then shown its input
-- sets, each at its time, and then closed. A source is called a number of times in place of being shown sets. Each of these gives a new
-- state with an emission, or a cause.
use Rattle.std.specs.Prelude.{ℕ, ℤ, pos, negsuc, ◌+◌, ◌+ℤ◌, ◌*ℤ◌, ◌%◌, ◌==◌, Bool, true, false, not, ◌||◌, List, [], ◌∷◌, Option, Some, None, option_map, unwrap_or, slice_get, Ok, Err, if◌then◌else◌}
use Rattle.mg_time.specs.Time.{next}
use Rattle.mg_value.specs.Plain.{Plain, int}
use Rattle.mg_value.specs.Packet.{Stamped}
use Rattle.mg_calc.specs.declared.law.Law.{Law}
use Rattle.mg_calc.specs.declared.law.Law.TheVariants.{Pass, Gate, Mux, Cloner, Merge, Thin, Compute, Filter, Shift, Count, SideOnce, Constants, Loopback, Tally, Scripted, BeginLoop, EndLoop, FirstCome, Limiter, Stated}
use Rattle.mg_calc.specs.declared.law.Keep.{Keep}
use Rattle.mg_calc.specs.declared.law.Keep.TheVariants.{Even, Odd, Negative, NonNegative}
use Rattle.mg_calc.specs.declared.emission.Laid.{Laid}
use Rattle.mg_calc.specs.declared.cause.Cause.TheVariants.{WrongKind, NoSide, Overflow}
use Rattle.mg_calc.specs.Answer.{Answer, emission_of}
use Rattle.mg_calc.specs.Rules.{Rules, Laws}
use Rattle.mg_calc.specs.Values.{number_of, moved_time, time_of, stored}
use Rattle.mg_calc.specs.State.{state_of, number_in, count_in, kept_at}
pub use Rattle.mg_calc.specs.Row.{emits_number, with_packet}
use Rattle.mg_calc.specs.Row.{answer}
use Rattle.mg_calc.specs.Computations.{row_of}
use Rattle.mg_calc.specs.Kinds.{has_wrong_kind}
use Rattle.mg_calc.specs.Routing.{pass, gate, mux, cloner, merge, thin, copy_at}
use Rattle.mg_calc.specs.Batch.{begin_loop, end_loop}

-- The rules of the calculators that compute and have no row: what each gives for its state and the set at a time t.

-- the answer that emits a payload at a time and keeps a state; Overflow if there is no time
abbrev pub emits_at : List Plain → Option ℕ → Plain → Answer
emits_at state None value = Err Overflow
emits_at state (Some t) value = Ok (state, emission_of (Some (record { at = t; value = value }) ∷ []))

-- whether 2 divides a number
abbrev pub is_even : ℤ → Bool
is_even (pos n) = n % 2 == 0
is_even (negsuc n) = (n + 1) % 2 == 0

-- whether a number is below 0
abbrev pub is_below_zero : ℤ → Bool
is_below_zero (pos n) = false
is_below_zero (negsuc n) = true

-- whether a filter keeps a number
abbrev pub is_kept : Keep → ℤ → Bool
is_kept Even n = is_even n
is_kept Odd n = not (is_even n)
is_kept Negative n = is_below_zero n
is_kept NonNegative n = not (is_below_zero n)

-- what a filter emits for a packet at t: the packet, if the filter keeps its number. If the filter raises, it then emits a bound at the
-- next time after t.
abbrev pub filtered : Bool → Bool → ℕ → Stamped Plain → List Laid
filtered keeps raises t p =
    if keeps || raises
    then record { packets = if keeps then p ∷ [] else []; bound = if raises then Some (next t) else None } ∷ []
    else []

-- Filter: the packet, if its number is kept
abbrev pub filter_law : Keep → Bool → List Plain → ℕ → List (Option (Stamped Plain)) → Answer
filter_law keep raises state t set = with_packet (λ p. Ok (state, filtered (is_kept keep (number_of p.value)) raises t p)) state set

-- Shift: the packet at t moved by the offset; Overflow if that leaves the range
abbrev pub shifted : ℤ → List Plain → ℕ → List (Option (Stamped Plain)) → Answer
shifted offset state t set = with_packet (λ p. emits_at state (moved_time t offset) p.value) state set

-- Tally: the number of sets so far, this one included, or Overflow
abbrev pub tally : List Plain → ℕ → Answer
tally state t = let count = number_in state +ℤ pos 1 in emits_number (state_of count) t count

-- Scripted: the next of the written steps is emitted, and the state counts it; after the last nothing happens
abbrev pub scripted : List (List Laid) → List Plain → Answer
scripted steps state =
    unwrap_or (option_map (λ emission. Ok (state_of (pos (count_in state + 1)), emission)) (slice_get steps (count_in state))) (Ok (state, []))

-- The table.

-- the state that keeps a side packet, or NoSide if it is missing
abbrev pub keeps_side : Option Plain → Answer
keeps_side None = Err NoSide
keeps_side (Some value) = Ok (stored (Some value) ∷ [], [])

-- Open: SideOnce keeps its side packet, the first; Scripted emits what is written first; all others begin empty and emit nothing
abbrev pub opening : Law → List (Option Plain) → Answer
opening (SideOnce at) sides = keeps_side (unwrap_or (slice_get sides 0) None)
opening (Scripted offset first steps last) sides = Ok ([], first)
opening _ sides = Ok ([], [])

-- what each law gives for its state and the set at t; laws that are shown no sets do nothing
abbrev pub rule : Law → List Plain → ℕ → List (Option (Stamped Plain)) → Answer
rule Pass state t set = pass state set
rule (Gate lanes disallow empty_as_allow) state t set = gate lanes disallow empty_as_allow state set
rule (Mux lanes) state t set = mux lanes state set
rule (Cloner lanes) state t set = cloner lanes state t set
rule (Merge lanes) state t set = merge state set
rule (Thin period) state t set = thin period state t set
rule (Compute computation) state t set = answer (row_of computation.formula) state t set
rule (Filter keep raises) state t set = filter_law keep raises state t set
rule (Shift offset) state t set = shifted offset state t set
rule Tally state t set = tally state t
rule (Scripted offset first steps last) state t set = scripted steps state
rule (Count count start apart) state t set = Ok (state, [])
rule (SideOnce at) state t set = Ok (state, [])
rule Constants state t set = Ok (state, [])
rule Loopback state t set = Ok (state, [])
rule (BeginLoop clones always_end) state t set = begin_loop clones always_end state t set
rule (EndLoop empty_as_bound) state t set = end_loop empty_as_bound state set
rule (FirstCome lanes) state t set = Ok (state, [])
rule (Limiter most) state t set = Ok (state, [])
rule (Stated number parameters offset) state t set = Ok (state, [])

-- Process: WrongKind if a packet isn't of its port's kind, and otherwise the law's rule
abbrev pub step : Law → List Plain → ℕ → List (Option (Stamped Plain)) → Answer
step law state t set = if has_wrong_kind law set then Err WrongKind else rule law state t set

-- the call of a source by its number, from 0 on: Count emits the number, at its start and so many steps later, or gives Overflow if
-- that leaves the range; SideOnce emits the payload that it keeps; laws that aren't sources do nothing
abbrev pub call : Law → List Plain → ℕ → Answer
call (Count count start apart) state i = emits_at state (time_of (start +ℤ (pos i *ℤ apart))) (int (pos i))
call (SideOnce at) state i = Ok (state, emission_of (copy_at at (kept_at state 0) ∷ []))
call _ state i = Ok (state, [])

-- Close: Scripted emits what is written last, and all others nothing; the state stays, and there is no cause
abbrev pub finish : Law → List Plain → Answer
finish (Scripted offset first steps last) state = Ok (state, last)
finish _ state = Ok (state, [])

-- the rules that the table has for a law
abbrev pub table_rules : Law → Rules
table_rules law = record { opening = opening law; step = step law; finish = finish law }

-- the rules of a law: those of its author if it is stated, and otherwise those of the table
abbrev pub rules_of : Laws → Law → Rules
rules_of laws (Stated number parameters offset) = laws number parameters
rules_of laws law = table_rules law

-- What a built-in calculator that computes is, as a row of a table: what it computes, and what it tells of itself. Nothing is asked of
-- the functions of a row: an emission is judged when it is laid.
use Rattle.std.specs.Prelude.{ℕ, ℤ, List, [], ◌∷◌, map, Bool, true, false, Option, Some, None, option_map, unwrap_or, slice_get, Result, Ok, Err, if◌then◌else◌}
use Rattle.std.specs.Option.{option_and_then}
use Rattle.std.specs.Borrow.{Bor}
use Rattle.mg_value.specs.Plain.{Plain, int}
use Rattle.mg_value.specs.Packet.{Stamped}
use Rattle.mg_calc.specs.declared.emission.Laid.{Laid}
use Rattle.mg_calc.specs.declared.cause.Cause.{Cause}
use Rattle.mg_calc.specs.declared.cause.Cause.TheVariants.{Overflow}
use Rattle.mg_calc.specs.declared.setting.Setting.{Setting}
use Rattle.mg_calc.specs.declared.computations.Formula.{Formula}
use Rattle.mg_calc.specs.declared.computations.Wiring.{Wiring}
use Rattle.mg_calc.specs.declared.cause.CalcFault.{CalcFault}
use Rattle.mg_calc.specs.Answer.{Answer, Gives, emission_of}
use Rattle.mg_calc.specs.Values.{place_at, fits, number_of}
use Rattle.mg_calc.specs.State.{state_of, number_in}

-- What a calculator computes, by what it keeps from one set to the next.
pub data Row : Type 0 where
  -- a map: one number of each number. It keeps nothing, and may stand in a loop over a list.
  each : (ℤ → ℤ) → Row
  -- of the time of a set and the set, what is emitted, or a cause. It keeps nothing.
  sets : (ℕ → List (Option (Stamped Plain)) → Result (List Laid) Cause) → Row
  -- of a number that it keeps, the time of a set and the set, the number that it then keeps and what is emitted, or a cause. The number
  -- is 0 at first; it stays if none is given, and one that doesn't fit in 64 signed bits is Overflow.
  keeping : (ℤ → ℕ → List (Option (Stamped Plain)) → Result (Option ℤ × List Laid) Cause) → Row

-- the emission of a number at t
abbrev pub out : ℕ → ℤ → List Laid
out t n = emission_of (Some (record { at = t; value = int n }) ∷ [])

-- the answer that emits a number at t and keeps a state; Overflow if the number doesn't fit in 64 signed bits
abbrev pub emits_number : List Plain → ℕ → ℤ → Answer
emits_number state t n = if fits n then Ok (state, emission_of (Some (record { at = t; value = int n }) ∷ [])) else Err Overflow

-- the answer of a law of one input: what f gives for the packet of the set. Without a packet the state stays and nothing is emitted.
abbrev pub with_packet : (Stamped Plain → Answer) → List Plain → List (Option (Stamped Plain)) → Answer
with_packet f state set = unwrap_or (option_map f (place_at set 0)) (Ok (state, []))

-- what a row that keeps nothing gives: the state stays
abbrev pub with_state : List Plain → Result (List Laid) Cause → Answer
with_state state (Err cause) = Err cause
with_state state (Ok emission) = Ok (state, emission)

-- what a row that keeps a number gives: the number that it then keeps as the state, or Overflow if the number doesn't fit
abbrev pub with_number : List Plain → Result (Option ℤ × List Laid) Cause → Answer
with_number state (Err cause) = Err cause
with_number state (Ok (None, emission)) = Ok (state, emission)
with_number state (Ok (Some n, emission)) = if fits n then Ok (state_of n, emission) else Err Overflow

-- what a row gives for a state and the set at t
abbrev pub answer : Row → List Plain → ℕ → List (Option (Stamped Plain)) → Answer
answer (each f) state t set = with_packet (λ p. emits_number state t (f (number_of p.value))) state set
answer (sets f) state t set = with_state state (f t set)
answer (keeping f) state t set = with_number state (f (number_in state) t set)

-- the result of a call is what a row gives; out of memory may come in place of any answer
unfoldable pub IsGiven : Result (List Plain × List Laid) CalcFault → Row → List Plain → ℕ → List (Option (Stamped Plain)) → Type 0
IsGiven result row state t set = Gives result (answer row state t set)

-- whether a row keeps no state
abbrev pub keeps_nothing : Row → Bool
keeps_nothing (each f) = true
keeps_nothing (sets f) = true
keeps_nothing (keeping f) = false

-- what an option is set to, as each form of value: the number, if it is set to one, and the word, which has no bytes if it isn't set to one
pub record Said : Type 0 where
  pub number : Option ℤ
  pub word : List ℕ

-- What a kind tells of itself: its name, the names of its options, which streams it has, and the formula that its options set, if they
-- set one. The settings stand in the order of the options' names. Each option may be set at most once.
pub record KindRow : Type 0 where
  pub name : List ℕ
  pub options : List (List ℕ)
  pub wiring : Wiring
  pub formula : List Said → Option Formula

-- borrowed names, as the list of what they are
abbrev pub names_of : List (Bor (List ℕ)) → List (List ℕ)
names_of names = map (λ name. name.now) names

-- a setting as what it says
abbrev pub said : Setting → Said
said setting = record { number = setting.number; word = setting.word.now }

-- the number that the setting at a place says, if it says one
abbrev pub number_at : List Said → ℕ → Option ℤ
number_at settings i = option_and_then (λ s. s.number) (slice_get settings i)

-- the word that the setting at a place says, if there is such a setting
abbrev pub word_at : List Said → ℕ → Option (List ℕ)
word_at settings i = option_map (λ s. s.word) (slice_get settings i)

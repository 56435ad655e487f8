-- Options that are read are in their ranges.
use Rattle.std.proofs.Common.{◌≡◌, ℕ, suc, ◌+◌, ◌-◌, ◌^◌, ◌≤◌, List, true, ◌&&◌, nat_le, ℤ, pos, negsuc, ◌≤ℤ◌, int_le, Option, None, Some, refl, sym, subst, arith, leb-true, le-leb}
use Rattle.std.specs.Int.Signed.{le_z_yes}
use Rattle.std.proofs.lemmas.Bool.{and_parts, and_from}
use Rattle.std.proofs.lemmas.Float.{T_from_true}
use Rattle.std.proofs.lemmas.Option.{cond_some, same_Some}
use Rattle.std.proofs.lemmas.Bool.{true≢false}
use Rattle.mg_text.specs.View.{Value, Entry}
use Rattle.mg_time.specs.Time.{raw_of, place_of, least, greatest}
use Rattle.mg_config.specs.Values.{long_number_in_value}
use Rattle.mg_calc.specs.Values.{is_in_range}
use Rattle.mg_kinds.specs.Options.{set_to}
use Rattle.mg_kinds.specs.Values.{or_absent, between, number_between, highest, positive, timestamp_number, most_calls, natural, call_count, most_in_flight, flight_limit}
use Rattle.mg_kinds.specs.Kinds.{positive_or_one, timestamp_or_zero, flight_or_one}
use Rattle.mg_text.proofs.Choices.{mapped}
use Rattle.mg_kinds.proofs.Made.{made_by}

record IsBetween (low high n : ℤ) : Type 0 where
  from : int_le low n ≡ true
  upto : int_le n high ≡ true

is_between : (low high : ℤ) (value : Value) (n : ℤ) → number_between low high value ≡ Some n → IsBetween low high n
is_between low high value n e =
    let made = made_by (between low high) (long_number_in_value value) n e in
    let both = cond_some (int_le low made.0 && int_le made.0 high) made.0 n made.2 in
    let parts = and_parts (int_le low made.0) (int_le made.0 high) both.0 in
    record { from = subst (λ m. int_le low m ≡ true) both.1 parts.0; upto = subst (λ m. int_le m high ≡ true) both.1 parts.1 }

pub positive-least : (name : List ℕ) (options : List Entry) (n : ℤ) → positive_or_one name options ≡ Some n → pos 1 ≤ℤ n
positive-least name options n e = by (set_to name options) e
  where
    by : (value : Option Value) → or_absent (pos 1) positive value ≡ Some n → pos 1 ≤ℤ n
    by None is = subst (λ m. pos 1 ≤ℤ m) (same_Some (pos 1) n is) (le_z_yes tt)
    by (Some value) is = le_z_yes (T_from_true (int_le (pos 1) n) (is_between (pos 1) highest value n is).from)

place_in_range : (n : ℤ) → IsBetween (raw_of least) (raw_of greatest) n → is_in_range (place_of n) ≡ true
place_in_range (pos m) h =
    let top : m ≤ 2 ^ 63 - 4 = leb-true m (2 ^ 63 - 4) h.upto in
    and_from (nat_le least (m + 2 ^ 63)) (nat_le (m + 2 ^ 63) greatest) (le-leb least (m + 2 ^ 63) (omega arith)) (le-leb (m + 2 ^ 63) greatest (omega arith))
place_in_range (negsuc m) h =
    let low : m ≤ 2 ^ 63 - 4 = leb-true m (2 ^ 63 - 4) h.from in
    and_from (nat_le least (2 ^ 63 - suc m)) (nat_le (2 ^ 63 - suc m) greatest) (le-leb least (2 ^ 63 - suc m) (omega arith)) (le-leb (2 ^ 63 - suc m) greatest (omega arith))

pub timestamp-in-range : (name : List ℕ) (options : List Entry) (n : ℤ) → timestamp_or_zero name options ≡ Some n → is_in_range (place_of n) ≡ true
timestamp-in-range name options n e = by (set_to name options) e
  where
    by : (value : Option Value) → or_absent (pos 0) timestamp_number value ≡ Some n → is_in_range (place_of n) ≡ true
    by None is = subst (λ m. is_in_range (place_of m) ≡ true) (same_Some (pos 0) n is) refl
    by (Some value) is = place_in_range n (is_between (raw_of least) (raw_of greatest) value n is)

natural_most : (n : ℤ) (most : ℕ) → int_le n (pos most) ≡ true → natural n ≤ most
natural_most (pos n) most h = leb-true n most h
natural_most (negsuc n) most h = omega arith

pub calls-most : (value : Value) (count : ℕ) → call_count value ≡ Some count → count ≤ 1000000
calls-most value count e =
    let made = mapped natural (number_between (pos 0) most_calls value) count e in
    let h = is_between (pos 0) most_calls value made.0 made.1 in
    subst (λ c. c ≤ 1000000) made.2 (natural_most made.0 1000000 h.upto)

natural_least : (n : ℤ) → int_le (pos 1) n ≡ true → 1 ≤ natural n
natural_least (pos n) h = leb-true 1 n h
natural_least (negsuc n) h = absurd (true≢false (sym h))

flight_within : (value : Value) (most : ℕ) → flight_limit value ≡ Some most → (1 ≤ most) × (most ≤ 2147483647)
flight_within value most e =
    let made = mapped natural (number_between (pos 1) most_in_flight value) most e in
    let h = is_between (pos 1) most_in_flight value made.0 made.1 in
    subst (λ c. (1 ≤ c) × (c ≤ 2147483647)) made.2 (natural_least made.0 h.from, natural_most made.0 2147483647 h.upto)

pub flight-in-range : (name : List ℕ) (options : List Entry) (most : ℕ) → flight_or_one name options ≡ Some most → (1 ≤ most) × (most ≤ 2147483647)
flight-in-range name options most e = by (set_to name options) e
  where
    by : (value : Option Value) → or_absent 1 flight_limit value ≡ Some most → (1 ≤ most) × (most ≤ 2147483647)
    by None is = subst (λ m. (1 ≤ m) × (m ≤ 2147483647)) (same_Some 1 most is) (omega arith, omega arith)
    by (Some value) is = flight_within value most is

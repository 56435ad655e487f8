-- Places by number, one more at a time.
use Rattle.std.proofs.Common.{◌≡◌, ℕ, suc, ◌+◌, ◌-◌, ◌<◌, min, Bool, ◌||◌, List, [], ◌∷◌, ◌++◌, Option, Some, None, map, take, drop, length, refl, sym, ap, ◌∙◌, arith, add-one}
use Rattle.std.proofs.lemmas.List.{length-take, get_or-take, map-append}
use Rattle.std.proofs.lemmas.List.FromFn.{fill_by_all, map-range_with_len_more}
use Rattle.std.proofs.lemmas.Option.{unwrap_or-slice_get}
use Rattle.std.proofs.Math.Seq.{drop-cons}
use Rattle.std.specs.Option.{option_to_list}
use Rattle.std.specs.List.{list_any, range_with_len}
use Rattle.mg_value.specs.Plain.{Plain}
use Rattle.mg_value.specs.Packet.{Stamped}
use Rattle.mg_calc.specs.declared.emission.Laid.{Laid}
use Rattle.mg_calc.specs.Answer.{laid}
use Rattle.mg_calc.specs.Values.{place_at}
use Rattle.mg_calc.specs.Routing.{first_packet}
use Rattle.mg_route.specs.Places.{first_places}

-- whether some place from a number on passes a test
abbrev pub any_from : {X : Type 0} → (X → Bool) → (ℕ → X) → ℕ → ℕ → Bool
any_from p place i count = list_any p (map place (range_with_len i (count - i)))

pub any_from-step : {X : Type 0} (p : X → Bool) (place : ℕ → X) (i count : ℕ) → i < count
    → any_from p place i count ≡ p (place i) || any_from p place (i + 1) count
any_from-step p place i count below =
    let more : count - i ≡ suc (count - (i + 1)) = omega arith in rw more refl

-- a further place, mapped
pub map-first_places-more : {X Y : Type 0} (f : X → Y) (place : ℕ → X) (i : ℕ) (ys : List Y) (y : Y) → ys ≡ map f (first_places place i) → y ≡ f (place i)
    → ys ++ y ∷ [] ≡ map f (first_places place (i + 1))
map-first_places-more f place i ys y so_far here =
    rw (so_far, here) (sym (ap (map f) (map-range_with_len_more place 0 i i (omega arith)) ∙ map-append f (first_places place i) (place i ∷ [])))

-- the first places of a set
pub first_places-take : (set : List (Option (Stamped Plain))) (lanes count : ℕ) → count ≡ min lanes (length set)
    → first_places (place_at set) count ≡ take lanes set
first_places-take set lanes count least =
    sym (fill_by_all (place_at set) (take lanes set) count None (rw least (length-take lanes set))
    (λ k below. get_or-take lanes set k None (omega (arith, least)) ∙ sym (unwrap_or-slice_get set k None)))

-- a further place, of what is mapped
pub mapped-first_places-more : {X Y : Type 0} (f : X → Y) (place : ℕ → Y) (i : ℕ) (xs : List X) (x : X) → map f xs ≡ first_places place i → f x ≡ place i
    → map f (xs ++ x ∷ []) ≡ first_places place (i + 1)
mapped-first_places-more f place i xs x so_far here =
    map-append f xs (x ∷ []) ∙ rw (so_far, here) (sym (map-range_with_len_more place 0 i i (omega arith)))

-- what lies at an output
pub laid-is : (l : Laid) (place : Option (Stamped Plain)) → l.packets ≡ option_to_list place → l.bound ≡ None → l ≡ laid place
laid-is l place packets bound =
    let both : record { packets = l.packets; bound = l.bound } ≡ laid place = rw (packets, bound) refl in both

-- the first packet of what is left of a set
left : (set : List (Option (Stamped Plain))) (i : ℕ) → i < length set → drop i set ≡ place_at set i ∷ drop (i + 1) set
left set i below = rw (unwrap_or-slice_get set i None) (rw add-one (drop-cons set i None below))

pub first_packet-here : (set : List (Option (Stamped Plain))) (i : ℕ) (p : Stamped Plain) → i < length set → Some p ≡ place_at set i
    → first_packet (drop i set) ≡ Some p
first_packet-here set i p below at = rw (left set i below, ← at) refl

pub first_packet-later : (set : List (Option (Stamped Plain))) (i : ℕ) → i < length set → None ≡ place_at set i
    → first_packet (drop i set) ≡ first_packet (drop (i + 1) set)
first_packet-later set i below at = rw (left set i below, ← at) refl

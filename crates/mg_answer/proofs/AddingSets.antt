-- A set that is added to what is told of the outputs, one output after the other.
use Rattle.std.proofs.Common.{◌≡◌, ◌≤◌, ◌<◌, ◌+◌, ℕ, zero, suc, List, [], ◌∷◌, ◌++◌, length, take, drop, get_or, set, slice_get, unwrap_or, Option, None, refl, sym, ap, ◌∙◌, subst, arith}
use Rattle.std.specs.List.{AllByRecursion as Each}
use Rattle.mg_value.specs.Payload.{Plain}
use Rattle.mg_value.specs.Packet.{Stamped}
use Rattle.mg_answer.specs.Code.Adding.{with_place, with_set, IsWithin}
use Rattle.mg_answer.specs.declared.total.Total.{Total}

-- Bounds --

-- those before a number are within one set more
abbrev pub AddedUpTo : ℕ → ℕ → List Total → Type 0
AddedUpTo sets zero ts = Each (IsWithin sets) ts
AddedUpTo sets (suc i) [] = Unit {0}
AddedUpTo sets (suc i) (t ∷ ts) = IsWithin (sets + 1) t × AddedUpTo sets i ts

pub added-at : (sets i : ℕ) (ts : List Total) (d : Total) → AddedUpTo sets i ts → i < length ts → IsWithin sets (get_or ts i d)
added-at sets i [] d h lt = absurd (omega (arith, lt))
added-at sets zero (t ∷ ts) d h lt = h.0
added-at sets (suc i) (t ∷ ts) d h lt = added-at sets i ts d h.1 (omega (arith, lt))

added-next : (sets i : ℕ) (ts : List Total) (x : Total) → AddedUpTo sets i ts → i < length ts → IsWithin (sets + 1) x → AddedUpTo sets (suc i) (set ts i x)
added-next sets i [] x h lt w = absurd (omega (arith, lt))
added-next sets zero (t ∷ ts) x h lt w = (w, h.1)
added-next sets (suc i) (t ∷ ts) x h lt w = (h.0, added-next sets i ts x h.1 (omega (arith, lt)) w)

pub added-all : (sets i : ℕ) (ts : List Total) → AddedUpTo sets i ts → length ts ≤ i → Each (IsWithin (sets + 1)) ts
added-all sets zero [] h le = tt
added-all sets zero (t ∷ ts) h le = absurd (omega (arith, le))
added-all sets (suc i) [] h le = tt
added-all sets (suc i) (t ∷ ts) h le = (h.0, added-all sets i ts h.1 (omega (arith, le)))

-- Totals --

pub set-none : (ts : List Total) → with_set ts [] ≡ ts
set-none [] = refl
set-none (t ∷ ts) = refl

no-places : (i : ℕ) → drop {A = Option (Stamped Plain)} i [] ≡ []
no-places zero = refl
no-places (suc i) = refl

-- what is left of a set is put to what is left of the outputs
set-next : (ts : List Total) (places : List (Option (Stamped Plain))) (i : ℕ) (d : Total) → i < length ts
    → take i ts ++ with_set (drop i ts) (drop i places)
    ≡ take (suc i) (set ts i (with_place (get_or ts i d) (unwrap_or (slice_get places i) None)))
    ++ with_set (drop (suc i) (set ts i (with_place (get_or ts i d) (unwrap_or (slice_get places i) None)))) (drop (suc i) places)
set-next [] places i d lt = absurd (omega (arith, lt))
set-next (t ∷ ts) [] zero d lt = ap (λ l. t ∷ l) (sym (set-none ts))
set-next (t ∷ ts) (p ∷ ps) zero d lt = refl
set-next (t ∷ ts) [] (suc i) d lt =
    ap (λ (places : List (Option (Stamped Plain))). t ∷ (take i ts ++ with_set (drop i ts) places)) (sym (no-places i)) ∙ ap (λ l. t ∷ l) (set-next ts [] i d (omega (arith, lt)))
set-next (t ∷ ts) (p ∷ ps) (suc i) d lt = ap (λ l. t ∷ l) (set-next ts ps i d (omega (arith, lt)))

pub set-step : (old now : List Total) (places : List (Option (Stamped Plain))) (i : ℕ) (d here x : Total) (o : Option (Stamped Plain)) → i < length now
    → with_set old places ≡ take i now ++ with_set (drop i now) (drop i places) → here ≡ get_or now i d → x ≡ with_place here o → o ≡ unwrap_or (slice_get places i) None
    → with_set old places ≡ take (i + 1) (set now i x) ++ with_set (drop (i + 1) (set now i x)) (drop (i + 1) places)
set-step old now places i d here x o lt so_far is x_is o_is =
    let value : with_place (get_or now i d) (unwrap_or (slice_get places i) None) ≡ x = sym (x_is ∙ ap (λ t. with_place t o) is ∙ ap (with_place (get_or now i d)) o_is) in
    let one : suc i ≡ i + 1 = omega arith in
    so_far ∙ set-next now places i d lt
    ∙ ap (λ y. take (suc i) (set now i y) ++ with_set (drop (suc i) (set now i y)) (drop (suc i) places)) value
    ∙ ap (λ n. take n (set now i x) ++ with_set (drop n (set now i x)) (drop n places)) one

pub added-step : (sets i : ℕ) (now : List Total) (x : Total) → AddedUpTo sets i now → i < length now → IsWithin (sets + 1) x → AddedUpTo sets (i + 1) (set now i x)
added-step sets i now x h lt w =
    let one : suc i ≡ i + 1 = omega arith in
    subst (λ (n : ℕ). AddedUpTo sets n (set now i x)) one (added-next sets i now x h lt w)

-- Payloads at inner times, one more at a time.
use Rattle.std.proofs.Common.{◌≡◌, ℕ, ◌+◌, ◌<◌, List, [], ◌∷◌, ◌++◌, map, take, length, replicate, get_or, Option, Some, refl, sym, ap, ap₂, ◌∙◌, arith}
use Rattle.std.proofs.lemmas.List.{append_assoc, take_more, map-append, length-map, length-take-le, length-replicate}
use Rattle.std.proofs.lemmas.Grind.{replicate_next}
use Rattle.std.proofs.lemmas.List.FromFn.{map-range_with_len_more}
use Rattle.mg_value.specs.Plain.{Plain, items_of}
use Rattle.mg_calc.specs.declared.emission.Laid.{Laid}
use Rattle.mg_calc.specs.Values.{listed, place_at}
use Rattle.mg_value.specs.Packet.{Stamped}
use Rattle.mg_calc.specs.Batch.{inner_time, at_inner_times, laid_up_to, copies, clones_laid}

pub at_inner_times-append : (c : ℕ) (xs ys : List Plain) → at_inner_times c (xs ++ ys) ≡ at_inner_times c xs ++ at_inner_times (c + length xs) ys
at_inner_times-append c [] ys = ap (λ n. at_inner_times n ys) (omega arith)
at_inner_times-append c (x ∷ xs) ys =
    ap (λ ps. record { at = inner_time c; value = x } ∷ ps) (at_inner_times-append (c + 1) xs ys ∙ ap (λ n. at_inner_times (c + 1) xs ++ at_inner_times n ys) (omega arith))

pub stamped-more : {X : Type 0} (f : X → Plain) (c i number at : ℕ) (xs : List X) (x : X) (v : Plain) (ps : List (Stamped Plain)) → i < length xs → x ≡ get_or xs i x → v ≡ f x → at ≡ inner_time number → number ≡ c + i
    → ps ≡ at_inner_times c (map f (take i xs)) → ps ++ record { at = at; value = v } ∷ [] ≡ at_inner_times c (map f (take (i + 1) xs))
stamped-more f c i number at xs x v ps below item same timed counted so_far =
    let more : map f (take (i + 1) xs) ≡ map f (take i xs) ++ f x ∷ [] =
    ap (map f) (take_more xs i x below) ∙ map-append f (take i xs) (get_or xs i x ∷ []) ∙ ap (λ y. map f (take i xs) ++ f y ∷ []) (sym item) in
    let long : length (map f (take i xs)) ≡ i = length-map (take i xs) f ∙ length-take-le i xs (omega arith) in
    let time : inner_time (c + length (map f (take i xs))) ≡ at = ap inner_time (ap (λ n. c + n) long ∙ sym counted) ∙ sym timed in
    let last : at_inner_times (c + length (map f (take i xs))) (f x ∷ []) ≡ record { at = at; value = v } ∷ [] =
    ap₂ (λ t w. record { at = t; value = w } ∷ []) time (sym same) in
    ap (λ l. l ++ record { at = at; value = v } ∷ []) so_far
    ∙ ap (λ l. at_inner_times c (map f (take i xs)) ++ l) (sym last)
    ∙ sym (at_inner_times-append c (map f (take i xs)) (f x ∷ []))
    ∙ ap (at_inner_times c) (sym more)

-- a list of items, read back
pub listed-items_of : (ps : List Plain) → listed (items_of ps) ≡ ps
listed-items_of [] = refl
listed-items_of (p ∷ ps) = ap (λ qs. p ∷ qs) (listed-items_of ps)

-- one more copy
pub copies-more : (c i at : ℕ) (p : Stamped Plain) (v : Plain) (ps : List (Stamped Plain)) → v ≡ p.value → at ≡ inner_time (c + i) → ps ≡ copies c i (Some p)
    → ps ++ record { at = at; value = v } ∷ [] ≡ copies c (i + 1) (Some p)
copies-more c i at p v ps same timed so_far =
    let long : length (replicate i p.value) ≡ i = length-replicate i p.value in
    let time : inner_time (c + length (replicate i p.value)) ≡ at = ap inner_time (ap (λ n. c + n) long) ∙ sym timed in
    let last : at_inner_times (c + length (replicate i p.value)) (p.value ∷ []) ≡ record { at = at; value = v } ∷ [] =
    ap₂ (λ t w. record { at = t; value = w } ∷ []) time (sym same) in
    ap (λ l. l ++ record { at = at; value = v } ∷ []) so_far
    ∙ ap (λ l. at_inner_times c (replicate i p.value) ++ l) (sym last)
    ∙ sym (at_inner_times-append c (replicate i p.value) (p.value ∷ []))
    ∙ ap (at_inner_times c) (sym (replicate_next i p.value))

-- what is laid at one more output CLONE
pub one_more_clone : (before out new : List Laid) (c last count i : ℕ) (set : List (Option (Stamped Plain))) (o : Option (Stamped Plain)) (laid : Laid) → new ≡ out ++ laid ∷ [] → laid ≡ laid_up_to last (copies c count o) → o ≡ place_at set i
    → out ≡ before ++ clones_laid i c last count set → new ≡ before ++ clones_laid (i + 1) c last count set
one_more_clone before out new c last count i set o laid put is at known =
    put ∙ ap₂ (λ (l : List Laid) (x : Laid). l ++ x ∷ []) known (is ∙ ap (λ (q : Option (Stamped Plain)). laid_up_to last (copies c count q)) at)
    ∙ append_assoc before (clones_laid i c last count set) (laid_up_to last (copies c count (place_at set i)) ∷ [])
    ∙ sym (ap (λ (l : List Laid). before ++ l) (map-range_with_len_more (λ k. laid_up_to last (copies c count (place_at set k))) 0 i i (omega arith)))

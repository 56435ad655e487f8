-- One element more of a list, as at a step of a loop.
use Rattle.std.proofs.Common.{ℕ, suc, zero, ◌+◌, ◌<◌, ◌≡◌, ◌⊎◌, inl, inr, List, [], ◌∷◌, ◌++◌, Some, Bool, refl, sym, ap, ◌∙◌, length, arith, map, take, get_or}
use Rattle.std.specs.Prelude.{slice_get}
use Rattle.std.proofs.lemmas.List.{take_more}
use Rattle.mg_subgraph.specs.Code.Places.{flag_at}

pub map-push : {X Y : Type 0} (f : X → Y) (xs : List X) (x : X) → map f (xs ++ x ∷ []) ≡ map f xs ++ f x ∷ []
map-push f [] x = refl
map-push f (y ∷ xs) x = ap (λ l. f y ∷ l) (map-push f xs x)

-- one more element is taken
pub taken : {X Y : Type 0} (f : X → Y) (xs : List X) (i : ℕ) (x : X) → i < length xs → x ≡ get_or xs i x → map f (take (i + 1) xs) ≡ map f (take i xs) ++ f x ∷ []
taken f xs i x inside here = ap (map f) (take_more xs i x inside) ∙ (map-push f (take i xs) (get_or xs i x) ∙ ap (λ y. map f (take i xs) ++ f y ∷ []) (sym here))

-- an element at a place
pub got : {X : Type 0} (xs : List X) (i : ℕ) (x : X) → i < length xs → x ≡ get_or xs i x → slice_get xs i ≡ Some x
got [] i x inside here = absurd (omega arith)
got (y ∷ xs) zero x inside here = ap Some (sym here)
got (y ∷ xs) (suc i) x inside here = got xs i x (omega arith) here

pub got_map : {X Y : Type 0} (f : X → Y) (xs : List X) (i : ℕ) (x : X) → slice_get xs i ≡ Some x → slice_get (map f xs) i ≡ Some (f x)
got_map f [] i x here = cc
got_map f (y ∷ xs) zero x here = let same : y ≡ x = cc in ap (λ z. Some (f z)) same
got_map f (y ∷ xs) (suc i) x here = got_map f xs i x here

pub got_within : {X : Type 0} (xs : List X) (i : ℕ) (x : X) → slice_get xs i ≡ Some x → i < length xs
got_within [] i x here = cc
got_within (y ∷ xs) zero x here = omega arith
got_within (y ∷ xs) (suc i) x here = omega (arith, got_within xs i x here)

-- an element at the end
pub got_push : {X : Type 0} (xs : List X) (x : X) (i : ℕ) (y : X) → slice_get (xs ++ x ∷ []) i ≡ Some y → (slice_get xs i ≡ Some y) ⊎ ((i ≡ length xs) × (x ≡ y))
got_push [] x zero y here = inr (refl, let same : x ≡ y = cc in same)
got_push [] x (suc i) y here = cc
got_push (z ∷ xs) x zero y here = inl here
got_push (z ∷ xs) x (suc i) y here = elim (got_push xs x i y here) [ inl before ↦ inl before | inr last ↦ inr (ap suc last.0, last.1) ]

pub length-map : {X Y : Type 0} (f : X → Y) (xs : List X) → length (map f xs) ≡ length xs
length-map f [] = refl
length-map f (x ∷ xs) = ap suc (length-map f xs)

-- the flag that was read
pub flag_read : (flags : List Bool) (place : ℕ) (flag : Bool) → place < length flags → flag ≡ get_or flags place flag → flag_at flags place ≡ flag
flag_read [] place flag inside here = absurd (omega arith)
flag_read (f ∷ flags) zero flag inside here = sym here
flag_read (f ∷ flags) (suc place) flag inside here = flag_read flags place flag (omega arith) here

pub nothing_more : {X : Type 0} (xs : List X) → xs ++ [] ≡ xs
nothing_more [] = refl
nothing_more (x ∷ xs) = ap (λ l. x ∷ l) (nothing_more xs)

-- What is known of calculators, one after the other.
use Rattle.std.proofs.Common.{◌≡◌, ◌<◌, ◌+◌, ℕ, List, [], ◌∷◌, ◌++◌, map, take, length, get_or, ap}
use Rattle.std.proofs.lemmas.List.{map-append, take_more}

-- the entry that is pushed is what is known of the next calculator
pub known-more : {X Y Z : Type 0} (f : X → Y) (g : Y → Z) (xs : List X) (zs : List Z) (i : ℕ) (x : X) (z : Z) → zs ≡ map g (map f (take i xs)) → i < length xs → x ≡ get_or xs i x
    → z ≡ g (f x) → zs ++ z ∷ [] ≡ map g (map f (take (i + 1) xs))
known-more f g xs zs i x z so_far below item same =
    let inner = map-append f (take i xs) (get_or xs i x ∷ []) in
    let outer = map-append g (map f (take i xs)) (f (get_or xs i x) ∷ []) in
    let more = ap (λ ys. map g (map f ys)) (take_more xs i x below) in
    let joined = ap (map g) inner in
    let here = ap (λ y. g (f y)) item in
    cc

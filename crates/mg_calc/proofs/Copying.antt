-- Lists that are copied one element after the other.
use Rattle.std.proofs.Common.{◌≡◌, ℕ, ◌+◌, ◌<◌, List, [], ◌∷◌, ◌++◌, map, take, length, get_or, refl, sym, ap, ◌∙◌}
use Rattle.std.proofs.lemmas.List.{take_more, map-append}

-- what is pushed has the same image as the next element
pub map-take-more : {X Y : Type 0} (f : X → Y) (xs ys : List X) (i : ℕ) (x y : X) → map f ys ≡ map f (take i xs) → i < length xs → x ≡ get_or xs i x
    → f y ≡ f x → map f (ys ++ y ∷ []) ≡ map f (take (i + 1) xs)
map-take-more f xs ys i x y so_far below item same =
    let front = map-append f ys (y ∷ []) in
    let back = map-append f (take i xs) (get_or xs i x ∷ []) in
    let more = ap (map f) (take_more xs i x below) in
    let here = ap f item in
    cc

-- two maps, one after the other
pub map-then : {X Y Z : Type 0} (f : X → Y) (g : Y → Z) (xs : List X) → map (λ x. g (f x)) xs ≡ map g (map f xs)
map-then f g [] = refl
map-then f g (x ∷ xs) = ap (λ more. g (f x) ∷ more) (map-then f g xs)

pub same-map-then : {X Y Z : Type 0} (f : X → Y) (g : Y → Z) (xs ys : List X) → map f xs ≡ map f ys → map (λ x. g (f x)) xs ≡ map (λ x. g (f x)) ys
same-map-then f g xs ys same = map-then f g xs ∙ ap (map g) same ∙ sym (map-then f g ys)

-- Two lists that go side by side: one pair of places, and another one there.
use Rattle.std.proofs.Common.{◌≡◌, ℕ, zero, suc, ◌<◌, List, [], ◌∷◌, length, get_or, set, map, arith, refl, ap}
use Rattle.std.specs.List.{AllZip}

module _ {X Y : Type 0} (R : X → Y → Type 0) where
  pub zip_at : (xs : List X) (ys : List Y) (i : ℕ) (d : X) (e : Y) → AllZip R xs ys → i < length xs → R (get_or xs i d) (get_or ys i e)
  zip_at [] [] i d e z le = absurd (omega (arith, le))
  zip_at [] (y ∷ ys) i d e z le = absurd z
  zip_at (x ∷ xs) [] i d e z le = absurd z
  zip_at (x ∷ xs) (y ∷ ys) zero d e z le = z.0
  zip_at (x ∷ xs) (y ∷ ys) (suc i) d e z le = zip_at xs ys i d e z.1 (omega (arith, le))

  pub zip_set : (xs : List X) (ys : List Y) (i : ℕ) (x : X) (y : Y) → AllZip R xs ys → R x y → AllZip R (set xs i x) (set ys i y)
  zip_set [] [] i x y z r = z
  zip_set [] (v ∷ ys) i x y z r = absurd z
  zip_set (u ∷ xs) [] i x y z r = absurd z
  zip_set (u ∷ xs) (v ∷ ys) zero x y z r = (r, z.1)
  zip_set (u ∷ xs) (v ∷ ys) (suc i) x y z r = (z.0, zip_set xs ys i x y z.1 r)

  -- if only the left one changes
  pub zip_left : (xs : List X) (ys : List Y) (i : ℕ) (x : X) (e : Y) → AllZip R xs ys → i < length xs → R x (get_or ys i e) → AllZip R (set xs i x) ys
  zip_left [] [] i x e z le r = z
  zip_left [] (v ∷ ys) i x e z le r = absurd z
  zip_left (u ∷ xs) [] i x e z le r = absurd z
  zip_left (u ∷ xs) (v ∷ ys) zero x e z le r = (r, z.1)
  zip_left (u ∷ xs) (v ∷ ys) (suc i) x e z le r = (z.0, zip_left xs ys i x e z.1 (omega (arith, le)) r)

  pub zip_long : (xs : List X) (ys : List Y) → AllZip R xs ys → length xs ≡ length ys
  zip_long [] [] z = refl
  zip_long [] (y ∷ ys) z = absurd z
  zip_long (x ∷ xs) [] z = absurd z
  zip_long (x ∷ xs) (y ∷ ys) z = ap suc (zip_long xs ys z.1)

-- a map of a list with another entry
pub map-set : {X Y : Type 0} (f : X → Y) (xs : List X) (i : ℕ) (x : X) → map f (set xs i x) ≡ set (map f xs) i (f x)
map-set f [] i x = refl
map-set f (u ∷ xs) zero x = refl
map-set {X} {Y} f (u ∷ xs) (suc i) x = ap (λ (ys : List Y). f u ∷ ys) (map-set f xs i x)

-- a pair at a place, if there is one
pub zip_put : {X Y : Type 0} (R : X → Y → Type 0) (xs : List X) (ys : List Y) (i : ℕ) (x : X) (y : Y) → AllZip R xs ys → (i < length xs → R x y) → AllZip R (set xs i x) (set ys i y)
zip_put R [] [] i x y z r = z
zip_put R [] (v ∷ ys) i x y z r = absurd z
zip_put R (u ∷ xs) [] i x y z r = absurd z
zip_put R (u ∷ xs) (v ∷ ys) zero x y z r = (r (omega arith), z.1)
zip_put R (u ∷ xs) (v ∷ ys) (suc i) x y z r = (z.0, zip_put R xs ys i x y z.1 (λ le. r (omega (arith, le))))

-- both mapped
pub zip_both : {X Y : Type 0} (R : X → Y → Type 0) (f : X → X) (g : Y → Y) (xs : List X) (ys : List Y) → ((x : X) (y : Y) → R x y → R (f x) (g y)) → AllZip R xs ys → AllZip R (map f xs) (map g ys)
zip_both R f g [] [] w z = z
zip_both R f g [] (y ∷ ys) w z = absurd z
zip_both R f g (x ∷ xs) [] w z = absurd z
zip_both R f g (x ∷ xs) (y ∷ ys) w z = (w x y z.0, zip_both R f g xs ys w z.1)

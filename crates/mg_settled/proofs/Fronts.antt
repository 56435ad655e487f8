-- The first elements of a list that pass a test, if more elements come after the list and more of them pass.
use Rattle.std.proofs.Common.{◌≡◌, ℕ, zero, suc, ◌+◌, ◌≤◌, Bool, true, inl, inr, List, [], ◌∷◌, ◌++◌, map, take, drop, ap, ap₂, refl, arith}
use Rattle.std.specs.List.{prefix_len, take_while}
use Rattle.std.proofs.lemmas.Bool.{cases_Bool}

pub one_more : (n : ℕ) → 1 + n ≡ suc n
one_more n = omega arith

-- the first elements that pass a test are the first of those that pass a weaker test, whatever comes after the list
pub take_while_grows : {X : Type 0} (f g : X → Bool) (xs ys : List X) → ((x : X) → f x ≡ true → g x ≡ true) → take (prefix_len f xs) (take_while g (xs ++ ys)) ≡ take_while f xs
take_while_grows f g [] ys more = refl
take_while_grows {X} f g (x ∷ xs) ys more = elim (cases_Bool (f x)) [
  | inl passes ↦ rw (passes, more x passes, one_more (prefix_len f xs), one_more (prefix_len g (xs ++ ys))) (ap (λ (rest : List X). x ∷ rest) (take_while_grows f g xs ys more))
  | inr fails ↦ rw fails refl
]

-- functions that agree where the test passes map them alike
pub map_while_agree : {X Y : Type 0} (f : X → Bool) (h k : X → Y) (xs : List X) → ((x : X) → f x ≡ true → h x ≡ k x) → map h (take_while f xs) ≡ map k (take_while f xs)
map_while_agree f h k [] same = refl
map_while_agree {X} {Y} f h k (x ∷ xs) same = elim (cases_Bool (f x)) [
  | inl passes ↦ rw (passes, one_more (prefix_len f xs)) (ap₂ (λ (first : Y) (rest : List Y). first ∷ rest) (same x passes) (map_while_agree f h k xs same))
  | inr fails ↦ rw fails refl
]

-- without some of them the others are left
pub take_while-drop : {X : Type 0} (f : X → Bool) (k : ℕ) (xs : List X) → k ≤ prefix_len f xs → take_while f (drop k xs) ≡ drop k (take_while f xs)
take_while-drop f zero xs le = refl
take_while-drop f (suc k) [] le = refl
take_while-drop {X} f (suc k) (x ∷ xs) le = elim (cases_Bool (f x)) [
  | inl passes ↦ (let few : k ≤ prefix_len f xs = (let le' : suc k ≤ 1 + prefix_len f xs = rw passes at le in omega (arith, le')) in
      rw (passes, one_more (prefix_len f xs)) (take_while-drop f k xs few))
  | inr fails ↦ absurd (let le' : suc k ≤ 0 = rw fails at le in omega (arith, le'))
]

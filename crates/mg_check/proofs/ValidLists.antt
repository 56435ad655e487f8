-- Lists of numbered elements, and what holds of each element of lists that are joined.
use Rattle.std.proofs.Common.{ℕ, zero, suc, ◌+◌, ◌≡◌, List, [], ◌∷◌, ◌++◌, Option, None, Some, map, refl, sym, ap, ◌∙◌, subst, arith}
use Rattle.std.specs.Prelude.{slice_get, IfSome, option_map}
use Rattle.std.specs.List.{AllByRecursion, range_with_len, enumerate_from, flat_map, filter_map, cons_option}
use Rattle.std.specs.Option.{option_and_then}

-- numbers, and those that follow
pub range_joined : (a m n : ℕ) → range_with_len a m ++ range_with_len (a + m) n ≡ range_with_len a (m + n)
range_joined a zero n =
    let start : a + 0 ≡ a = omega arith in
    let count : 0 + n ≡ n = omega arith in
    ap (λ k. range_with_len k n) start ∙ sym (ap (range_with_len a) count)
range_joined a (suc m) n =
    let start : a + suc m ≡ (a + 1) + m = omega arith in
    let count : suc m + n ≡ suc (m + n) = omega arith in
    ap (λ k. a ∷ (range_with_len (a + 1) m ++ range_with_len k n)) start ∙ (ap (λ l. a ∷ l) (range_joined (a + 1) m n) ∙ sym (ap (range_with_len a) count))

-- what holds of each element of two lists, one after the other
pub both_parts : {X : Type 0} (P : X → Type 0) (xs ys : List X) → AllByRecursion P (xs ++ ys) → AllByRecursion P xs × AllByRecursion P ys
both_parts P [] ys all = (tt, all)
both_parts P (x ∷ xs) ys all = let rest = both_parts P xs ys all.1 in ((all.0, rest.0), rest.1)

pub joined : {X : Type 0} (P : X → Type 0) (xs ys : List X) → AllByRecursion P xs → AllByRecursion P ys → AllByRecursion P (xs ++ ys)
joined P [] ys first second = second
joined P (x ∷ xs) ys first second = (first.0, joined P xs ys first.1 second)

-- what holds of all pieces, if each piece comes from an element and its number
pieces_from : {X Y : Type 0} (P : Y → Type 0) (f : ℕ × X → List Y) (a : ℕ) (xs : List X) → ((k : ℕ) (x : X) → slice_get xs k ≡ Some x → AllByRecursion P (f (a + k, x))) → AllByRecursion P (flat_map f (enumerate_from a xs))
pieces_from P f a [] each = tt
pieces_from P f a (x ∷ xs) each =
    let start : a + 0 ≡ a = omega arith in
    joined P (f (a, x)) (flat_map f (enumerate_from (a + 1) xs)) (subst (λ k. AllByRecursion P (f (k, x))) start (each 0 x refl))
    (pieces_from P f (a + 1) xs (λ k y here.
    let next : a + suc k ≡ (a + 1) + k = omega arith in
    subst (λ n. AllByRecursion P (f (n, y))) next (each (suc k) y here)))

pub pieces : {X Y : Type 0} (P : Y → Type 0) (f : ℕ × X → List Y) (xs : List X) → ((k : ℕ) (x : X) → slice_get xs k ≡ Some x → AllByRecursion P (f (k, x))) → AllByRecursion P (flat_map f (enumerate_from 0 xs))
pieces P f xs each =
    pieces_from P f 0 xs (λ k x here.
    let start : 0 + k ≡ k = omega arith in
    subst (λ n. AllByRecursion P (f (n, x))) (sym start) (each k x here))

-- what holds of the element at a place, if there is one
pub place_if : {X : Type 0} (P : X → Type 0) (xs : List X) (k : ℕ) → AllByRecursion P xs → IfSome (slice_get xs k) P
place_if P [] k all = tt
place_if P (x ∷ xs) zero all = all.0
place_if P (x ∷ xs) (suc k) all = place_if P xs k all.1

-- of what elements give
pub all_given : {X Y : Type 0} (P : Y → Type 0) (f : X → Option Y) (xs : List X) → AllByRecursion (λ x. IfSome (f x) P) xs → AllByRecursion P (filter_map f xs)
all_given P f [] all = tt
all_given {Y = Y} P f (x ∷ xs) all = by (f x) all.0 (all_given P f xs all.1)
  where
    by : (o : Option Y) → IfSome o P → AllByRecursion P (filter_map f xs) → AllByRecursion P (cons_option o (filter_map f xs))
    by None here rest = rest
    by (Some y) here rest = (here, rest)

pub given_all : {X Y : Type 0} (P : Y → Type 0) (f : X → Option Y) (xs : List X) → AllByRecursion P (filter_map f xs) → AllByRecursion (λ x. IfSome (f x) P) xs
given_all P f [] all = tt
given_all {Y = Y} P f (x ∷ xs) all = (here (f x) all, given_all P f xs (rest (f x) all))
  where
    here : (o : Option Y) → AllByRecursion P (cons_option o (filter_map f xs)) → IfSome o P
    here None known = tt
    here (Some y) known = known.0

    rest : (o : Option Y) → AllByRecursion P (cons_option o (filter_map f xs)) → AllByRecursion P (filter_map f xs)
    rest None known = known
    rest (Some y) known = known.1

-- of images
pub all_mapped : {X Y : Type 0} (P : Y → Type 0) (f : X → Y) (xs : List X) → AllByRecursion (λ x. P (f x)) xs → AllByRecursion P (map f xs)
all_mapped P f [] all = tt
all_mapped P f (x ∷ xs) all = (all.0, all_mapped P f xs all.1)

-- and what follows from it
pub all_so : {X : Type 0} (P Q : X → Type 0) (xs : List X) → ((x : X) → P x → Q x) → AllByRecursion P xs → AllByRecursion Q xs
all_so P Q [] so all = tt
all_so P Q (x ∷ xs) so all = (so x all.0, all_so P Q xs so all.1)

-- from two facts
pub all_both : {X : Type 0} (P Q R : X → Type 0) (xs : List X) → ((x : X) → P x → Q x → R x) → AllByRecursion P xs → AllByRecursion Q xs → AllByRecursion R xs
all_both P Q R [] so first second = tt
all_both P Q R (x ∷ xs) so first second = (so x first.0 second.0, all_both P Q R xs so first.1 second.1)

-- an option that is mapped
pub and_then_mapped : {X Y Z : Type 0} (f : X → Y) (g : Y → Option Z) (o : Option X) → option_and_then (λ x. g (f x)) o ≡ option_and_then g (option_map f o)
and_then_mapped f g None = refl
and_then_mapped f g (Some x) = refl

-- Numbers among others, their places, and lists side by side.
use Rattle.std.proofs.Common.{◌≡◌, ◌≢◌, ℕ, zero, suc, ◌+◌, ◌<◌, ◌≤◌, ◌⊎◌, Bool, true, false, cond, not, ◌==◌, List, [], ◌∷◌, ◌++◌, map, filter, length, length-append, slice_get, get_or, AllPairs, Contains, Some, refl, sym, ap, ap₂, ◌∙◌, subst, inl, inr, arith}
use Rattle.std.specs.List.{AllByRecursion, AllZip, range_with_len}
use Rattle.std.proofs.lemmas.Bool.{cases_Bool}
use Rattle.std.proofs.lemmas.Bool.Decides.{nat_tests, eqb_tells}
use Rattle.std.proofs.lemmas.List.{append_assoc}
use Rattle.std.proofs.lemmas.List.Kept.{AllPairs-cons}
use Rattle.mg_calc.proofs.Earlier.{some_same, get_or_some}
use Rattle.mg_free.specs.Core.{place_in}

-- a number stands among others
abbrev pub Among : ℕ → List ℕ → Type 0
Among n [] = ⊥
Among n (x ∷ xs) = (x ≡ n) ⊎ Among n xs

-- no number stands among those after it
abbrev pub AreApart : List ℕ → Type 0
AreApart [] = Unit {0}
AreApart (x ∷ xs) = ¬ (Among x xs) × AreApart xs

-- What is kept of a list, and what isn't.
pub filter_in : {X : Type 0} (p : X → Bool) (x : X) (xs : List X) → p x ≡ true → filter p (x ∷ xs) ≡ x ∷ filter p xs
filter_in p x xs t = ap (λ b. cond b (x ∷ filter p xs) (filter p xs)) t

pub filter_out : {X : Type 0} (p : X → Bool) (x : X) (xs : List X) → p x ≡ false → filter p (x ∷ xs) ≡ filter p xs
filter_out p x xs f = ap (λ b. cond b (x ∷ filter p xs) (filter p xs)) f

pub filter-length : {X : Type 0} (p : X → Bool) (xs : List X) → length (filter p xs) ≤ length xs
filter-length p [] = omega arith
filter-length {X} p (x ∷ xs) =
    let rest = filter-length p xs in
    elim (cases_Bool (p x)) [
      | inl t ↦ (let e = ap (λ (l : List X). length l) (filter_in p x xs t) in omega (arith, rest, e))
      | inr f ↦ (let e = ap (λ (l : List X). length l) (filter_out p x xs f) in omega (arith, rest, e))
    ]

pub filter-both : {X : Type 0} (p : X → Bool) (xs ys : List X) → filter p (xs ++ ys) ≡ filter p xs ++ filter p ys
filter-both p [] ys = refl
filter-both {X} p (x ∷ xs) ys = elim (cases_Bool (p x)) [
  | inl t ↦ filter_in p x (xs ++ ys) t ∙ (ap (λ (l : List X). x ∷ l) (filter-both p xs ys) ∙ sym (ap (λ (l : List X). l ++ filter p ys) (filter_in p x xs t)))
  | inr f ↦ filter_out p x (xs ++ ys) f ∙ (filter-both p xs ys ∙ sym (ap (λ (l : List X). l ++ filter p ys) (filter_out p x xs f)))
]

-- Places.
pub place_here : (x n : ℕ) (xs : List ℕ) → (x == n) ≡ true → place_in (x ∷ xs) n ≡ 0
place_here x n xs t = ap (λ b. cond (not b) (1 + place_in xs n) 0) t

pub place_later : (x n : ℕ) (xs : List ℕ) → (x == n) ≡ false → place_in (x ∷ xs) n ≡ suc (place_in xs n)
place_later x n xs f = ap (λ b. cond (not b) (1 + place_in xs n) 0) f ∙ (let e : 1 + place_in xs n ≡ suc (place_in xs n) = omega arith in e)

-- what stands among others has a place
pub found : (n : ℕ) (xs : List ℕ) → Among n xs → place_in xs n < length xs
found n [] a = absurd a
found n (x ∷ xs) a = elim (eqb_tells x n) [
  | inl (t, same) ↦ (let e = place_here x n xs t in omega (arith, e))
  | inr (f, other) ↦ (let e = place_later x n xs f in elim a [ inl same ↦ absurd (other same) | inr later ↦ (let r = found n xs later in omega (arith, e, r)) ])
]

-- and stands there
pub at_its_place : (n : ℕ) (xs : List ℕ) → place_in xs n < length xs → slice_get xs (place_in xs n) ≡ Some n
at_its_place n [] le = absurd (omega (arith, le))
at_its_place n (x ∷ xs) le = elim (eqb_tells x n) [
  | inl (t, same) ↦ subst (λ (i : ℕ). slice_get (x ∷ xs) i ≡ Some n) (sym (place_here x n xs t)) (ap (λ (m : ℕ). Some m) same)
  | inr (f, other) ↦ (let e = place_later x n xs f in subst (λ (i : ℕ). slice_get (x ∷ xs) i ≡ Some n) (sym e) (at_its_place n xs (omega (arith, le, e))))
]

-- so a number with the place of a number of the list is that number
pub same_place : (x y : ℕ) (xs : List ℕ) → Among x xs → place_in xs x ≡ place_in xs y → x ≡ y
same_place x y xs a e =
    let l = found x xs a in
    some_same x y (sym (at_its_place x xs l) ∙ (ap (λ (i : ℕ). slice_get xs i) e ∙ at_its_place y xs (omega (arith, l, e))))

pub among_at : (xs : List ℕ) (i n : ℕ) → slice_get xs i ≡ Some n → Among n xs
among_at [] i n e = absurd cc
among_at (x ∷ xs) zero n e = inl (some_same x n e)
among_at (x ∷ xs) (suc i) n e = inr (among_at xs i n e)

pub place_of_among : (n : ℕ) (xs : List ℕ) → Among n xs → (i : ℕ) × (slice_get xs i ≡ Some n)
place_of_among n [] a = absurd a
place_of_among n (x ∷ xs) (inl same) = (0, ap (λ (m : ℕ). Some m) same)
place_of_among n (x ∷ xs) (inr later) = (let r = place_of_among n xs later in (suc r.0, r.1))

pub contains_among : (n : ℕ) (xs : List ℕ) → Among n xs → Contains xs n
contains_among n [] a = absurd a
contains_among n (x ∷ xs) (inl same) = (0, omega arith, same)
contains_among n (x ∷ xs) (inr later) = (let r = contains_among n xs later in (let l = r.1 in (suc r.0, omega (arith, l), r.2)))

pub among_contained : (n : ℕ) (xs : List ℕ) → Contains xs n → Among n xs
among_contained n xs c = among_at xs c.0 n (get_or_some xs c.0 n c.1 c.2)

among_got : (xs : List ℕ) (k d : ℕ) → k < length xs → Among (get_or xs k d) xs
among_got [] k d le = absurd (omega (arith, le))
among_got (x ∷ xs) zero d le = inl refl
among_got (x ∷ xs) (suc k) d le = inr (among_got xs k d (omega (arith, le)))

pub among_below : (P : ℕ → Type 0) (n : ℕ) (xs : List ℕ) → AllByRecursion P xs → Among n xs → P n
among_below P n [] all a = absurd a
among_below P n (x ∷ xs) all (inl same) = subst P same all.0
among_below P n (x ∷ xs) all (inr later) = among_below P n xs all.1 later

-- what holds of each that stands among others
pub all_among : (P : ℕ → Type 0) (xs : List ℕ) → ((n : ℕ) → Among n xs → P n) → AllByRecursion P xs
all_among P [] each = tt
all_among P (x ∷ xs) each = (each x (inl refl), all_among P xs (λ n a. each n (inr a)))

-- Numbers that are apart.
pub apart_from_pairs : (xs : List ℕ) → AllPairs ◌≢◌ xs → AreApart xs
apart_from_pairs [] h = tt
apart_from_pairs (x ∷ xs) h = (
  (λ a. let c = contains_among x xs a in let l = c.1 in h 0 (suc c.0) x (omega arith) (omega (arith, l)) (sym c.2)),
  apart_from_pairs xs (λ i j d less within. h (suc i) (suc j) d (omega (arith, less)) (omega (arith, within))),
)

pub pairs_from_apart : (xs : List ℕ) → AreApart xs → AllPairs ◌≢◌ xs
pairs_from_apart [] a = λ i j d less within. absurd (omega (arith, within))
pairs_from_apart (x ∷ xs) a = AllPairs-cons ◌≢◌ x xs (λ k d le e. a.0 (subst (λ (n : ℕ). Among n xs) (sym e) (among_got xs k d le))) (pairs_from_apart xs a.1)

among_back : (n : ℕ) (xs ys : List ℕ) → Among n ys → Among n (xs ++ ys)
among_back n [] ys a = a
among_back n (x ∷ xs) ys a = inr (among_back n xs ys a)

apart_front : (y : ℕ) (xs ys : List ℕ) → AreApart (xs ++ ys) → Among y ys → ¬ (Among y xs)
apart_front y [] ys a among = λ none. absurd none
apart_front y (x ∷ xs) ys a among = λ here. elim here [
  | inl same ↦ a.0 (subst (λ (n : ℕ). Among n (xs ++ ys)) (sym same) (among_back y xs ys among))
  | inr later ↦ apart_front y xs ys a.1 among later
]

-- the place of a number that isn't in the first of two lists
pub place_behind : (n : ℕ) (xs ys : List ℕ) → ¬ (Among n xs) → place_in (xs ++ ys) n ≡ length xs + place_in ys n
place_behind n [] ys none = (let e : place_in ys n ≡ 0 + place_in ys n = omega arith in e)
place_behind n (x ∷ xs) ys none = elim (eqb_tells x n) [
  | inl (t, same) ↦ absurd (none (inl same))
  | inr (f, other) ↦ (let e = place_later x n (xs ++ ys) f in let r = place_behind n xs ys (λ a. none (inr a)) in omega (arith, e, r))
]

-- the places of numbers that are apart are the numbers in order
pub places_from : (front xs : List ℕ) → AreApart (front ++ xs) → map (place_in (front ++ xs)) xs ≡ range_with_len (length front) (length xs)
places_from front [] apart = refl
places_from front (x ∷ xs) apart =
    let again : (front ++ x ∷ []) ++ xs ≡ front ++ x ∷ xs = append_assoc front (x ∷ []) xs in
    let long : length (front ++ x ∷ []) ≡ length front + 1 = length-append front (x ∷ []) in
    let e = place_behind x front (x ∷ xs) (apart_front x front (x ∷ xs) apart (inl refl)) in
    let none : place_in (x ∷ xs) x ≡ 0 = place_here x x xs (grind (arith, nat_tests)) in
    let first : place_in (front ++ x ∷ xs) x ≡ length front = omega (arith, e, none) in
    let rest = places_from (front ++ x ∷ []) xs (subst AreApart (sym again) apart) in
    let rest_here : map (place_in (front ++ x ∷ xs)) xs ≡ range_with_len (length front + 1) (length xs) =
    subst (λ (l : List ℕ). map (place_in l) xs ≡ range_with_len (length front + 1) (length xs)) again (subst (λ (n : ℕ). map (place_in ((front ++ x ∷ []) ++ xs)) xs ≡ range_with_len n (length xs)) long rest) in
    ap₂ (λ (n : ℕ) (l : List ℕ). n ∷ l) first rest_here

-- How many times a number stands in a list.
abbrev pub times : ℕ → List ℕ → ℕ
times n [] = 0
times n (x ∷ xs) = cond {A = ℕ} (x == n) 1 0 + times n xs

pub times-append : (n : ℕ) (xs ys : List ℕ) → times n (xs ++ ys) ≡ times n xs + times n ys
times-append n [] ys = (let e : times n ys ≡ 0 + times n ys = omega arith in e)
times-append n (x ∷ xs) ys = (let r = times-append n xs ys in omega (arith, r))

pub times_among : (n : ℕ) (xs : List ℕ) → 1 ≤ times n xs → Among n xs
times_among n [] le = absurd (omega (arith, le))
times_among n (x ∷ xs) le = elim (eqb_tells x n) [
  | inl (t, same) ↦ inl same
  | inr (f, other) ↦ (let e : cond {A = ℕ} (x == n) 1 0 ≡ 0 = ap (λ b. cond {A = ℕ} b 1 0) f in inr (times_among n xs (omega (arith, le, e))))
]

pub among_times : (n : ℕ) (xs : List ℕ) → Among n xs → 1 ≤ times n xs
among_times n [] a = absurd a
among_times n (x ∷ xs) (inl same) = (let e : cond {A = ℕ} (x == n) 1 0 ≡ 1 = grind (arith, nat_tests) in omega (arith, e))
among_times n (x ∷ xs) (inr later) = (let r = among_times n xs later in omega (arith, r))

pub apart_by_times : (xs : List ℕ) → ((n : ℕ) → times n xs ≤ 1) → AreApart xs
apart_by_times [] most = tt
apart_by_times (x ∷ xs) most = (
  (λ a. let r = among_times x xs a in let e : cond {A = ℕ} (x == x) 1 0 ≡ 1 = grind (arith, nat_tests) in let m = most x in absurd (omega (arith, r, e, m))),
  apart_by_times xs (λ n. let m = most n in omega (arith, m)),
)

-- of the numbers from one on
range_low : (n a c : ℕ) → n < a → times n (range_with_len a c) ≡ 0
range_low n a zero le = refl
range_low n a (suc c) le =
    let r = range_low n (a + 1) c (omega (arith, le)) in
    let e : cond {A = ℕ} (a == n) 1 0 ≡ 0 = grind (arith, nat_tests) in
    omega (arith, r, e)

pub range_in : (n a c : ℕ) → a ≤ n → n < a + c → times n (range_with_len a c) ≡ 1
range_in n a zero le lt = absurd (omega (arith, le, lt))
range_in n a (suc c) le lt = elim (eqb_tells a n) [
  | inl (t, same) ↦ (let e : cond {A = ℕ} (a == n) 1 0 ≡ 1 = ap (λ b. cond {A = ℕ} b 1 0) t in let r = range_low n (a + 1) c (omega (arith, same)) in omega (arith, r, e))
  | inr (f, other) ↦ (let e : cond {A = ℕ} (a == n) 1 0 ≡ 0 = ap (λ b. cond {A = ℕ} b 1 0) f in
      let more : a + 1 ≤ n = grind (arith, nat_tests) in
      let r = range_in n (a + 1) c more (omega (arith, lt)) in omega (arith, r, e))
]

pub range_past : (n a c : ℕ) → a + c ≤ n → times n (range_with_len a c) ≡ 0
range_past n a zero le = refl
range_past n a (suc c) le =
    let r = range_past n (a + 1) c (omega (arith, le)) in
    let e : cond {A = ℕ} (a == n) 1 0 ≡ 0 = grind (arith, nat_tests) in
    omega (arith, r, e)

-- Lists side by side.
pub zipped_long : {X Y : Type 0} (R : X → Y → Type 0) (xs : List X) (ys : List Y) → AllZip R xs ys → length xs ≡ length ys
zipped_long R [] [] z = refl
zipped_long R [] (y ∷ ys) z = absurd z
zipped_long R (x ∷ xs) [] z = absurd z
zipped_long R (x ∷ xs) (y ∷ ys) z = ap suc (zipped_long R xs ys z.1)

pub zipped_both : {X Y : Type 0} (R : X → Y → Type 0) (us : List X) (vs : List Y) (ws : List X) (zs : List Y) → AllZip R us vs → AllZip R ws zs → AllZip R (us ++ ws) (vs ++ zs)
zipped_both R [] [] ws zs z w = w
zipped_both R [] (v ∷ vs) ws zs z w = absurd z
zipped_both R (u ∷ us) [] ws zs z w = absurd z
zipped_both R (u ∷ us) (v ∷ vs) ws zs z w = (z.0, zipped_both R us vs ws zs z.1 w)

pub zipped_parts : {X Y : Type 0} (R : X → Y → Type 0) (us : List X) (vs : List Y) (ws : List X) (zs : List Y) → length us ≡ length vs → AllZip R (us ++ ws) (vs ++ zs) → AllZip R us vs × AllZip R ws zs
zipped_parts R [] [] ws zs e z = (tt, z)
zipped_parts R [] (v ∷ vs) ws zs e z = absurd (omega (arith, e))
zipped_parts R (u ∷ us) [] ws zs e z = absurd (omega (arith, e))
zipped_parts R (u ∷ us) (v ∷ vs) ws zs e z = (let r = zipped_parts R us vs ws zs (omega (arith, e)) z.1 in ((z.0, r.0), r.1))

pub zipped_at : {X Y : Type 0} (R : X → Y → Type 0) (xs : List X) (ys : List Y) (i : ℕ) (y : Y) → AllZip R xs ys → slice_get ys i ≡ Some y → (x : X) × (slice_get xs i ≡ Some x) × R x y
zipped_at R xs [] i y z e = absurd cc
zipped_at R [] (b ∷ ys) i y z e = absurd z
zipped_at R (x ∷ xs) (b ∷ ys) zero y z e = (x, refl, subst (R x) (some_same b y e) z.0)
zipped_at R (x ∷ xs) (b ∷ ys) (suc i) y z e = zipped_at R xs ys i y z.1 e

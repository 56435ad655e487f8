-- Lists of flags, and the places whose flags are set.
use Rattle.std.proofs.Common.{ℕ, suc, zero, ◌+◌, ◌<◌, ◌≤◌, ◌≡◌, List, [], ◌∷◌, ◌++◌, Bool, true, false, ◌||◌, ◌==◌, refl, sym, ap, ◌∙◌, length, arith, subst, get_or}
use Rattle.std.specs.Prelude.{slice_set, replicate}
use Rattle.std.proofs.lemmas.Bool.{false≢true}
use Rattle.std.proofs.lemmas.Bool.Decides.{nat_tests}
use Rattle.std.proofs.lemmas.List.Folds.{list_any-append, list_any_at}
use Rattle.mg_subgraph.specs.Code.Places.{listed, flag_at, set_count}

same_after : (a b : ℕ) → (suc a == suc b) ≡ (a == b)
same_after a b = grind (arith, nat_tests)

-- a flag more
pub flag_at-set : (flags : List Bool) (place other : ℕ) → place < length flags → flag_at (slice_set flags place true) other ≡ ((other == place) || flag_at flags other)
flag_at-set [] place other inside = absurd (omega arith)
flag_at-set (flag ∷ flags) zero zero inside = refl
flag_at-set (flag ∷ flags) zero (suc other) inside = ap (λ b. b || flag_at flags other) (let apart : (suc other == 0) ≡ false = grind (arith, nat_tests) in sym apart)
flag_at-set (flag ∷ flags) (suc place) zero inside = ap (λ b. b || flag) (let apart : (0 == suc place) ≡ false = grind (arith, nat_tests) in sym apart)
flag_at-set (flag ∷ flags) (suc place) (suc other) inside = flag_at-set flags place other (omega arith) ∙ ap (λ b. b || flag_at flags other) (sym (same_after other place))

pub set_count-set : (flags : List Bool) (place : ℕ) → place < length flags → flag_at flags place ≡ false → set_count (slice_set flags place true) ≡ set_count flags + 1
set_count-set [] place inside unset = absurd (omega arith)
set_count-set (flag ∷ flags) zero inside unset = let here : flag ≡ false = unset in rw here (omega arith)
set_count-set (flag ∷ flags) (suc place) inside unset = let rest = set_count-set flags place (omega arith) unset in omega (arith, rest)

pub set_count-le-length : (flags : List Bool) → set_count flags ≤ length flags
set_count-le-length [] = omega arith
set_count-le-length (true ∷ flags) = omega (arith, set_count-le-length flags)
set_count-le-length (false ∷ flags) = omega (arith, set_count-le-length flags)

-- no flags
pub flag_at-none : (count place : ℕ) → flag_at (replicate count false) place ≡ false
flag_at-none zero place = refl
flag_at-none (suc count) zero = refl
flag_at-none (suc count) (suc place) = flag_at-none count place

pub set_count-none : (count : ℕ) → set_count (replicate count false) ≡ 0
set_count-none zero = refl
set_count-none (suc count) = omega (arith, set_count-none count)

-- a flag that is set stands in the list
pub flag_within : (flags : List Bool) (place : ℕ) → flag_at flags place ≡ true → place < length flags
flag_within [] place set = absurd (false≢true set)
flag_within (flag ∷ flags) zero set = omega arith
flag_within (flag ∷ flags) (suc place) set = omega (arith, flag_within flags place set)

-- places more
pub listed-append : (place : ℕ) (first second : List ℕ) → listed place (first ++ second) ≡ (listed place first || listed place second)
listed-append place first second = list_any-append (λ other. place == other) first second

swapped : (a b : Bool) → (a || (b || false)) ≡ (b || a)
swapped true true = refl
swapped true false = refl
swapped false true = refl
swapped false false = refl

pub listed-push : (places : List ℕ) (place other : ℕ) → listed other (places ++ place ∷ []) ≡ ((other == place) || listed other places)
listed-push places place other = listed-append other places (place ∷ []) ∙ swapped (listed other places) (other == place)

-- a flag that is set already changes nothing
absorbed_test : (a b : Bool) → (a ≡ true → b ≡ true) → (a || b) ≡ b
absorbed_test true b next = sym (next refl)
absorbed_test false b next = refl

pub set_already : (flags : List Bool) (place other : ℕ) → flag_at flags place ≡ true → ((other == place) || flag_at flags other) ≡ flag_at flags other
set_already flags place other set =
    absorbed_test (other == place) (flag_at flags other) (λ same. let equal : place ≡ other = grind (arith, nat_tests) in subst (λ o. flag_at flags o ≡ true) equal set)

-- a place that is read from a list is listed
pub listed_at : (places : List ℕ) (i : ℕ) (place : ℕ) → i < length places → place ≡ get_or places i place → listed place places ≡ true
listed_at places i place inside here = list_any_at (λ other. place == other) places i place inside (subst (λ p. (place == p) ≡ true) here (let same : (place == place) ≡ true = grind (arith, nat_tests) in same))

pub read_within : (flags : List Bool) (places : List ℕ) (i place : ℕ) → ((p : ℕ) → listed p places ≡ flag_at flags p) → i < length places → place ≡ get_or places i place → place < length flags
read_within flags places i place same inside here = flag_within flags place (sym (same place) ∙ listed_at places i place inside here)

pub read_set : (flags : List Bool) (places : List ℕ) (i place : ℕ) → ((p : ℕ) → listed p places ≡ flag_at flags p) → i < length places → place ≡ get_or places i place → flag_at flags place ≡ true
read_set flags places i place same inside here = sym (same place) ∙ listed_at places i place inside here

pub listed_at0 : (places : List ℕ) (i : ℕ) → i < length places → listed (get_or places i 0) places ≡ true
listed_at0 places i inside = list_any_at (λ other. get_or places i 0 == other) places i 0 inside (let same : (get_or places i 0 == get_or places i 0) ≡ true = grind (arith, nat_tests) in same)

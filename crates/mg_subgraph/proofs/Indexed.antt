-- Tables of texts, and places in lists.
use Rattle.std.proofs.Common.{ℕ, suc, zero, ◌≡◌, List, [], ◌∷◌, Option, None, Some, Bool, true, false, ◌||◌, ◌==◌, if◌then◌else◌, refl, sym, ap, ◌∙◌, ⊎_elim, arith, length, subst, map}
use Rattle.std.specs.Prelude.{position, option_map, slice_get, find}
use Rattle.std.specs.List.{list_any}
use Rattle.std.specs.Str.{bytes_eq}
use Rattle.std.proofs.lemmas.Bool.{cases_Bool, cond-true, cond-false, false≢true}
use Rattle.std.proofs.lemmas.Bool.Decides.{nat_tests}
use Rattle.std.proofs.lemmas.Slice.Eq.{bytes_eq-Decides}
use Rattle.mg_index.specs.Places.{place_again}
use Rattle.mg_index.specs.declared.name_table.NameTable.{NameTable}
use Rattle.mg_index.proofs.Placing.{position-cons}
use Rattle.mg_subgraph.specs.Names.{names}
use Rattle.mg_subgraph.specs.Code.Index.{is_name, IsIndex}
use Rattle.mg_subgraph.specs.Refusals.{first_twice}
use Rattle.mg_subgraph.proofs.Joins.{or_right, absent_later}

-- places in a list of what is made of each element
pub position-map : {X Y : Type 0} (p : Y → Bool) (f : X → Y) (xs : List X) → position p (map f xs) ≡ position (λ x. p (f x)) xs
position-map p f [] = refl
position-map p f (x ∷ xs) =
    position-cons p (f x) (map f xs)
    ∙ (ap (λ o. if p (f x) then Some 0 else option_map suc o) (position-map p f xs) ∙ sym (position-cons (λ y. p (f y)) x xs))

not_zero : (found : Option ℕ) → option_map suc found ≡ Some 0 → ⊥
not_zero None known = cc
not_zero (Some k) known = let none : suc k ≡ 0 = cc in absurd (omega arith)

one_less : (found : Option ℕ) (i : ℕ) → option_map suc found ≡ Some (suc i) → found ≡ Some i
one_less None i known = cc
one_less (Some k) i known = let same : suc k ≡ suc i = cc in ap Some (omega arith)

none_later : (found : Option ℕ) → option_map suc found ≡ None → found ≡ None
none_later None known = refl
none_later (Some k) known = cc

-- the place of what is found first
later_none : {X : Type 0} (p : X → Bool) (x : X) (xs : List X) → option_map suc (position p xs) ≡ Some 0 → ⊥
later_none p x xs known = not_zero (position p xs) known

pub place_found : {X : Type 0} (p : X → Bool) (xs : List X) (i : ℕ) → position p xs ≡ Some i → (x : X) × (slice_get xs i ≡ Some x) × (find p xs ≡ Some x) × (p x ≡ true)
place_found p [] i known = cc
place_found p (x ∷ xs) zero known =
    ⊎_elim
    (λ passes. (x, refl, cond-true (p x) (Some x) (find p xs) passes, passes))
    (λ fails. absurd (later_none p x xs (sym (cond-false (p x) (Some 0) (option_map suc (position p xs)) fails) ∙ (sym (position-cons p x xs) ∙ known))))
    (cases_Bool (p x))
place_found p (x ∷ xs) (suc i) known =
    ⊎_elim
    (λ passes.
    let here : Some 0 ≡ Some (suc i) = sym (cond-true (p x) (Some 0) (option_map suc (position p xs)) passes) ∙ (sym (position-cons p x xs) ∙ known) in
    let none : 0 ≡ suc i = cc in
    absurd (omega arith))
    (λ fails.
    let later = one_less (position p xs) i (sym (cond-false (p x) (Some 0) (option_map suc (position p xs)) fails) ∙ (sym (position-cons p x xs) ∙ known)) in
    let rest = place_found p xs i later in
    (rest.0, rest.1, cond-false (p x) (Some x) (find p xs) fails ∙ rest.2, rest.3))
    (cases_Bool (p x))

pub place_none : {X : Type 0} (p : X → Bool) (xs : List X) → position p xs ≡ None → find p xs ≡ None
place_none p [] known = refl
place_none p (x ∷ xs) known =
    ⊎_elim
    (λ passes.
    let here : Some 0 ≡ None = sym (cond-true (p x) (Some 0) (option_map suc (position p xs)) passes) ∙ (sym (position-cons p x xs) ∙ known) in
    cc)
    (λ fails.
    cond-false (p x) (Some x) (find p xs) fails
    ∙ place_none p xs (none_later (position p xs) (sym (cond-false (p x) (Some 0) (option_map suc (position p xs)) fails) ∙ (sym (position-cons p x xs) ∙ known))))
    (cases_Bool (p x))

-- two texts that one text names
pub same_text : (text other : List ℕ) → names text other ≡ true → (text ≡ other) × (bytes_eq text [] ≡ false)
same_text [] other known = absurd (false≢true known)
same_text (b ∷ bs) other known = ((bytes_eq-Decides (b ∷ bs) other).0 known, refl)

same_name : (text first second : List ℕ) → names text first ≡ true → names text second ≡ true → names first second ≡ true
same_name text first second one two = subst (λ t. names t second ≡ true) (same_text text first one).0 two

any_of_map : {X Y : Type 0} (p : Y → Bool) (f : X → Y) (xs : List X) (i : ℕ) (x : X) → slice_get xs i ≡ Some x → p (f x) ≡ true → list_any p (map f xs) ≡ true
any_of_map p f [] i x here known = cc
any_of_map p f (y ∷ xs) zero x here known =
    let same : y ≡ x = cc in
    ap (λ b. b || list_any p (map f xs)) (subst (λ z. p (f z) ≡ true) (sym same) known)
any_of_map p f (y ∷ xs) (suc i) x here known = or_right (p (f y)) (list_any p (map f xs)) (any_of_map p f xs i x here known)

-- a name that stands again
pub twice_found : (texts : List (List ℕ)) (i : ℕ) → place_again is_name texts ≡ Some i → (text : List ℕ) × (slice_get texts i ≡ Some text) × (first_twice texts ≡ Some text)
twice_found [] i known = cc
twice_found (text ∷ texts) zero known =
    ⊎_elim
    (λ again. (text, refl, cond-true (list_any (names text) texts) (Some text) (first_twice texts) again))
    (λ once. absurd (not_zero (place_again is_name texts) (sym (cond-false (list_any (names text) texts) (Some 0) (option_map suc (place_again is_name texts)) once) ∙ known)))
    (cases_Bool (list_any (names text) texts))
twice_found (text ∷ texts) (suc i) known =
    ⊎_elim
    (λ again.
    let here : Some 0 ≡ Some (suc i) = sym (cond-true (list_any (names text) texts) (Some 0) (option_map suc (place_again is_name texts)) again) ∙ known in
    let none : 0 ≡ suc i = cc in
    absurd (omega arith))
    (λ once.
    let rest = twice_found texts i (one_less (place_again is_name texts) i (sym (cond-false (list_any (names text) texts) (Some 0) (option_map suc (place_again is_name texts)) once) ∙ known)) in
    (rest.0, rest.1, cond-false (list_any (names text) texts) (Some text) (first_twice texts) once ∙ rest.2))
    (cases_Bool (list_any (names text) texts))

pub twice_none : (texts : List (List ℕ)) → place_again is_name texts ≡ None → first_twice texts ≡ None
twice_none [] known = refl
twice_none (text ∷ texts) known =
    ⊎_elim
    (λ again.
    let here : Some 0 ≡ None = sym (cond-true (list_any (names text) texts) (Some 0) (option_map suc (place_again is_name texts)) again) ∙ known in
    cc)
    (λ once.
    cond-false (list_any (names text) texts) (Some text) (first_twice texts) once
    ∙ twice_none texts (none_later (place_again is_name texts) (sym (cond-false (list_any (names text) texts) (Some 0) (option_map suc (place_again is_name texts)) once) ∙ known)))
    (cases_Bool (list_any (names text) texts))

-- No name stands twice, so a name stands at one place.
pub one_place : {X : Type 0} (f : X → List ℕ) (xs : List X) (text : List ℕ) → first_twice (map f xs) ≡ None → (i : ℕ) (x : X) → slice_get xs i ≡ Some x → names text (f x) ≡ true → position (λ y. names text (f y)) xs ≡ Some i
one_place f [] text once i x here known = cc
one_place f (y ∷ xs) text once zero x here known =
    let same : y ≡ x = cc in
    position-cons (λ z. names text (f z)) y xs ∙ cond-true (names text (f y)) (Some 0) (option_map suc (position (λ z. names text (f z)) xs)) (subst (λ z. names text (f z) ≡ true) (sym same) known)
one_place f (y ∷ xs) text once (suc i) x here known =
    ⊎_elim
    (λ again.
    let both : names (f y) (f x) ≡ true = same_name text (f y) (f x) again known in
    let stands : list_any (names (f y)) (map f xs) ≡ true = any_of_map (names (f y)) f xs i x here both in
    let some : Some (f y) ≡ None = sym (cond-true (list_any (names (f y)) (map f xs)) (Some (f y)) (first_twice (map f xs)) stands) ∙ once in
    cc)
    (λ other.
    let rest : first_twice (map f xs) ≡ None = absent_later (list_any (names (f y)) (map f xs)) (f y) (first_twice (map f xs)) once in
    position-cons (λ z. names text (f z)) y xs
    ∙ (cond-false (names text (f y)) (Some 0) (option_map suc (position (λ z. names text (f z)) xs)) other ∙ ap (option_map suc) (one_place f xs text rest i x here known)))
    (cases_Bool (names text (f y)))

-- a text without bytes
pub empty_bytes : (text : List ℕ) → (length text == 0) ≡ true → bytes_eq text [] ≡ true
empty_bytes [] empty = refl
empty_bytes (b ∷ bs) empty = let none : suc (length bs) ≡ 0 = grind (arith, nat_tests) in absurd (omega arith)

pub some_bytes : (text : List ℕ) → (length text == 0) ≡ false → bytes_eq text [] ≡ false
some_bytes [] some = let none : (0 == 0) ≡ true = refl in absurd (false≢true (sym some ∙ none))
some_bytes (b ∷ bs) some = refl

-- what a table says of names that stand twice
pub index_once : (table : NameTable) (texts : List (List ℕ)) → IsIndex table texts → None ≡ table.again → first_twice texts ≡ None
index_once table texts known none = twice_none texts (sym (none ∙ known.again))

pub index_twice : (table : NameTable) (texts : List (List ℕ)) (i : ℕ) → IsIndex table texts → Some i ≡ table.again → (text : List ℕ) × (slice_get texts i ≡ Some text) × (first_twice texts ≡ Some text)
index_twice table texts i known some = twice_found texts i (sym (some ∙ known.again))

-- The table of a graph's names.
use Rattle.std.proofs.Common.{ℕ, suc, zero, ◌+◌, ◌<◌, ◌≡◌, List, [], ◌∷◌, ◌++◌, take, length-take-le, get_or, Option, None, Some, Bool, true, false, cond, if◌then◌else◌, refl, sym, ap, ◌∙◌, subst, ⊎_elim, is_some, arith, length, nat_lt, filter, option_map, unwrap_or}
use Rattle.std.specs.Prelude.{slice_get}
use Rattle.std.specs.Borrow.{Bor}
use Rattle.std.proofs.lemmas.List.{length-map}
use Rattle.mg_kinds.specs.Kinds.{names_of}
use Rattle.mg_subgraph.proofs.Reached.{take_next}
use Rattle.mg_subgraph.proofs.Steps.{got_map}
use Rattle.mg_check.specs.declared.fault.CheckFault.TheVariants.{TwoProducers}
use Rattle.std.specs.List.{position_or_len}
use Rattle.std.specs.Option.{option_and_then}
use Rattle.std.specs.Str.{bytes_eq}
use Rattle.std.proofs.lemmas.Bool.{cases_Bool, cond-true, cond-false}
use Rattle.std.proofs.lemmas.Bool.Decides.{nat_tests}
use Rattle.mg_index.specs.Places.{is_text, place_again}
use Rattle.mg_index.specs.Tables.{kept_place, kept_names, IsTable}
use Rattle.mg_index.specs.declared.name_table.NameTable.{NameTable}
use Rattle.mg_names.proofs.Standing.{any_has_place}
use Rattle.mg_check.specs.Names.{is_name_among, first_again, number_among}

-- the first name that stands again, by its place
stands_by : (test : Bool) (name : List ℕ) (names : List (List ℕ)) (found : Option ℕ) (later : Option (List ℕ)) → later ≡ option_and_then (slice_get names) found
    → (if test then Some name else later) ≡ option_and_then (slice_get (name ∷ names)) (if test then Some 0 else option_map suc found)
stands_by true name names found later known = refl
stands_by false name names None later known = known
stands_by false name names (Some place) later known = known

pub again_stands : (names : List (List ℕ)) → first_again names ≡ option_and_then (slice_get names) (place_again is_text names)
again_stands [] = refl
again_stands (name ∷ names) = stands_by (is_name_among names name) name names (place_again is_text names) (first_again names) (again_stands names)

is_within : (names : List (List ℕ)) (place : ℕ) → place_again is_text names ≡ Some place → place < length names
is_within [] place known = cc
is_within (name ∷ names) place known = by_test (is_name_among names name) (place_again is_text names) (λ n is. is_within names n is) known
  where
    by_test : (test : Bool) (found : Option ℕ) → ((n : ℕ) → found ≡ Some n → n < length names) → (if test then Some 0 else option_map suc found) ≡ Some place → place < suc (length names)
    by_test true found later here = let same : 0 ≡ place = cc in omega arith
    by_test false None later here = cc
    by_test false (Some n) later here = let same : suc n ≡ place = cc in let inside = later n refl in omega arith

pub again_within : (table : NameTable) (names : List (List ℕ)) (place : ℕ) → IsTable is_text table names → Some place ≡ table.again → place < length names
again_within table names place known some = is_within names place (sym (some ∙ known.again))

pub again_some : (table : NameTable) (names : List (List ℕ)) (place : ℕ) → IsTable is_text table names → Some place ≡ table.again → first_again names ≡ slice_get names place
again_some table names place known some = again_stands names ∙ ap (option_and_then (slice_get names)) (sym (some ∙ known.again))

pub again_none : (table : NameTable) (names : List (List ℕ)) → IsTable is_text table names → table.again ≡ None → first_again names ≡ None
again_none table names known none = again_stands names ∙ ap (option_and_then (slice_get names)) (sym known.again ∙ none)

-- a text that is read
get_at : {X : Type 0} (xs : List X) (i : ℕ) (d : X) → i < length xs → slice_get xs i ≡ Some (get_or xs i d)
get_at [] i d inside = absurd (omega arith)
get_at (x ∷ xs) zero d inside = refl
get_at (x ∷ xs) (suc i) d inside = get_at xs i d (omega arith)

name_at : (texts : List (Bor (List ℕ))) (i : ℕ) (d : Bor (List ℕ)) → i < length texts → slice_get (names_of texts) i ≡ Some (get_or texts i d).now
name_at texts i d inside = got_map (λ n. n.now) texts i (get_or texts i d) (get_at texts i d inside)

pub table_more : (old new : NameTable) (texts : List (Bor (List ℕ))) (i : ℕ) (d : Bor (List ℕ)) → i < length texts
    → ((all : List (List ℕ)) → length all ≡ i → IsTable is_text old all → IsTable is_text new (all ++ (get_or texts i d).now ∷ []))
    → IsTable is_text old (take i (names_of texts)) → IsTable is_text new (take (i + 1) (names_of texts))
table_more old new texts i d inside step known =
    let long : length (take i (names_of texts)) ≡ i = length-take-le i (names_of texts) (omega (arith, length-map texts (λ n. n.now))) in
    subst (IsTable is_text new) (sym (take_next (names_of texts) i (get_or texts i d).now (name_at texts i d inside))) (step (take i (names_of texts)) long known)

-- the refusal of a name that stands again
pub again_refused : (table : NameTable) (texts : List (Bor (List ℕ))) (place : ℕ) (d : Bor (List ℕ)) (name : List ℕ) → place < length texts → IsTable is_text table (names_of texts) → Some place ≡ table.again
    → name ≡ (get_or texts place d).now → option_map TwoProducers (first_again (names_of texts)) ≡ Some (TwoProducers name)
again_refused table texts place d name inside known some is =
    ap (option_map TwoProducers) (again_some table (names_of texts) place known some ∙ name_at texts place d inside) ∙ ap (λ n. Some (TwoProducers n)) (sym is)

-- the names in the table's order are the texts, if none stands again
all_texts : (names : List (List ℕ)) → filter is_text names ≡ names
all_texts [] = refl
all_texts (name ∷ names) = ap (λ l. name ∷ l) (all_texts names)

pub names_kept : (table : NameTable) (names : List (List ℕ)) → IsTable is_text table names → table.again ≡ None → kept_names table ≡ names
names_kept table names known none = known.in_order (sym known.again ∙ none) ∙ all_texts names

pub own_table : (table : NameTable) (names : List (List ℕ)) → IsTable is_text table names → table.again ≡ None → IsTable is_text table (kept_names table)
own_table table names known none = subst (IsTable is_text table) (sym (names_kept table names known none)) known

-- whether a name stands among names, and where
pub has_among : (table : NameTable) (names : List (List ℕ)) (name : List ℕ) (found : Option ℕ) → IsTable is_text table names → found ≡ kept_place table name → is_some found ≡ is_name_among names name
has_among table names name found known is = ap is_some (is ∙ known.first name) ∙ sym (any_has_place (bytes_eq name) names)

within_by : (n count i : ℕ) → Some i ≡ cond (nat_lt n count) (Some n) None → i < count
within_by n count i known = ⊎_elim
    (λ less.
    let is : Some i ≡ Some n = known ∙ cond-true (nat_lt n count) (Some n) None less in
    let same : i ≡ n = cc in
    let below : n < count = grind (arith, nat_tests) in
    omega arith)
    (λ more. let is : Some i ≡ None = known ∙ cond-false (nat_lt n count) (Some n) None more in cc)
    (cases_Bool (nat_lt n count))

pub place_within : (table : NameTable) (names : List (List ℕ)) (name : List ℕ) (i : ℕ) → IsTable is_text table names → Some i ≡ kept_place table name → i < length names
place_within table names name i known is = within_by (position_or_len (bytes_eq name) names) (length names) i (is ∙ known.first name)

pub number_found : (table : NameTable) (names : List (List ℕ)) (name : List ℕ) (i : ℕ) → IsTable is_text table names → Some i ≡ kept_place table name → i ≡ number_among names name
number_found table names name i known is = ap (λ o. unwrap_or o 0) (is ∙ known.first name)

pub number_missing : (table : NameTable) (names : List (List ℕ)) (name : List ℕ) → IsTable is_text table names → None ≡ kept_place table name → 0 ≡ number_among names name
number_missing table names name known is = ap (λ o. unwrap_or o 0) (is ∙ known.first name)

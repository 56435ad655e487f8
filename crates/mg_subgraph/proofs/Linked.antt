-- Links between places, and which files nodes use.
use Rattle.std.proofs.Common.{ℕ, suc, zero, ◌<◌, ◌≡◌, inl, inr, ⊎_elim, List, [], ◌∷◌, ◌++◌, Option, None, Some, Bool, true, false, ◌||◌, ◌==◌, if◌then◌else◌, refl, sym, ap, ◌∙◌, length, arith, subst, filter}
use Rattle.std.specs.Prelude.{slice_get, find, position, option_map}
use Rattle.std.specs.Option.{option_map_or, option_and_then}
use Rattle.std.proofs.lemmas.Bool.{cases_Bool, false≢true, cond-true, cond-false}
use Rattle.std.proofs.lemmas.Bool.Decides.{nat_tests}
use Rattle.std.proofs.lemmas.List.Folds.{list_any-append}
use Rattle.mg_config.specs.Config.{NodeView, GraphView}
use Rattle.mg_subgraph.specs.Library.{is_of, uses, uses_file, used_files, is_recursive}
use Rattle.mg_subgraph.specs.Code.Places.{listed, flag_at, uses_at, reaches_at, AreLinks, IsReach, AreWithin, AreClosed, IsCyclic, IsFirstCycle}
use Rattle.mg_subgraph.specs.Code.Judged.{flagged}
use Rattle.mg_subgraph.specs.Refusals.{types_of, first_twice, type_twice, recursive}
use Rattle.mg_subgraph.specs.declared.fault.ExpandFault.TheVariants.{TypeTwice, Recursive}
use Rattle.mg_subgraph.proofs.Steps.{got_push, got_within}
use Rattle.mg_subgraph.proofs.Indexed.{one_place, place_found, place_none}
use Rattle.mg_subgraph.proofs.Reaching.{used_directly, used_on, least_used}
use Rattle.mg_subgraph.proofs.Joins.{or_false, none_mapped, absent_here, absent_later}

-- a place that is found has a file
pub file_at : (library : List GraphView) (place : ℕ) (test : GraphView → Bool) → option_map_or test (slice_get library place) false ≡ true → (file : GraphView) × (slice_get library place ≡ Some file) × (test file ≡ true)
file_at library place test known = found (slice_get library place) refl known
  where
    found : (here : Option GraphView) → slice_get library place ≡ here → option_map_or test here false ≡ true → (file : GraphView) × (slice_get library place ≡ Some file) × (test file ≡ true)
    found None here known = absurd (false≢true known)
    found (Some file) here known = (file, here, known)

pub at_file : (library : List GraphView) (place : ℕ) (file : GraphView) (test : GraphView → Bool) → slice_get library place ≡ Some file → option_map_or test (slice_get library place) false ≡ test file
at_file library place file test here = ap (λ o. option_map_or test o false) here

pub same_tests : (a b : Bool) → (a ≡ true → b ≡ true) → (b ≡ true → a ≡ true) → a ≡ b
same_tests true b right left = sym (right refl)
same_tests false true right left = left refl
same_tests false false right left = refl

pub list_beside : (library : List GraphView) (links : List (List ℕ)) (i : ℕ) (file : GraphView) → length links ≡ length library → slice_get library i ≡ Some file → (list : List ℕ) × (slice_get links i ≡ Some list)
list_beside [] links i file same here = cc
list_beside (f ∷ library) [] i file same here = absurd (omega arith)
list_beside (f ∷ library) (list ∷ links) zero file same here = (list, refl)
list_beside (f ∷ library) (list ∷ links) (suc i) file same here = list_beside library links i file (omega arith) here

pub filter_keeps : {X : Type 0} (q : X → Bool) (x : X) (xs : List X) → q x ≡ true → filter q (x ∷ xs) ≡ x ∷ filter q xs
filter_keeps q x xs passes = ap (λ b. if b then x ∷ filter q xs else filter q xs) passes

pub filter_drops : {X : Type 0} (q : X → Bool) (x : X) (xs : List X) → q x ≡ false → filter q (x ∷ xs) ≡ filter q xs
filter_drops q x xs fails = ap (λ b. if b then x ∷ filter q xs else filter q xs) fails

-- The walk along the links of a library finds the files that are used.
pub walked_is_used : (library : List GraphView) (nodes : List NodeView) (links : List (List ℕ)) (start : List ℕ) (flags : List Bool)
    → AreLinks library links → ((place : ℕ) → listed place start ≡ uses_at library nodes place) → IsReach links start flags → (place : ℕ) → flag_at flags place ≡ reaches_at library nodes place
walked_is_used library nodes links start flags linked begun walked place =
    same_tests (flag_at flags place) (reaches_at library nodes place)
    (walked.least (reaches_at library nodes)
    (λ p known.
    let file = file_at library p (uses nodes) (sym (begun p) ∙ known) in
    at_file library p file.0 (uses_file library nodes) file.1 ∙ used_directly library nodes file.0 file.2)
    (λ p list other known at stands.
    let file = file_at library p (uses_file library nodes) known in
    let next = file_at library other (uses file.0.nodes) (sym (linked.linked p file.0 list file.1 at other) ∙ stands) in
    at_file library other next.0 (uses_file library nodes) next.1 ∙ used_on library nodes p other file.0 next.0 file.1 next.1 file.2 next.2)
    place)
    (λ known.
    let file = file_at library place (uses_file library nodes) known in
    least_used library nodes (flag_at flags)
    (λ i f here used. walked.started i (begun i ∙ (at_file library i f (uses nodes) here ∙ used)))
    (λ i j first second at_first at_second set used.
    let list = list_beside library links i first linked.same at_first in
    walked.closed i list.0 j set list.1 (linked.linked i first list.0 at_first list.1 j ∙ (at_file library j second (uses first.nodes) at_second ∙ used)))
    place file.0 file.1 file.2)

pub no_type_twice : (library : List GraphView) → type_twice library ≡ None → first_twice (types_of library) ≡ None
no_type_twice library once = none_mapped TypeTwice (first_twice (types_of library)) once

-- one node uses the one file that its calculator names
found_here : (library : List GraphView) (node : NodeView) (place : ℕ) → type_twice library ≡ None → position (is_of node.calculator) library ≡ Some place → (other : ℕ) → uses_at library (node ∷ []) other ≡ (other == place)
found_here library node place once found other =
    same_tests (uses_at library (node ∷ []) other) (other == place)
    (λ known.
    let file = file_at library other (uses (node ∷ [])) known in
    let here = one_place (λ f. f.type_name) library node.calculator (no_type_twice library once) other file.0 file.1 (sym (or_false (is_of node.calculator file.0)) ∙ file.2) in
    let both : Some other ≡ Some place = sym here ∙ found in
    let same : other ≡ place = cc in
    grind (arith, nat_tests))
    (λ known.
    let same : place ≡ other = grind (arith, nat_tests) in
    let here = place_found (is_of node.calculator) library place found in
    let P : ℕ → Type 0 = λ n. slice_get library n ≡ Some here.0 in
    at_file library other here.0 (uses (node ∷ [])) (subst P same here.1) ∙ (or_false (is_of node.calculator here.0) ∙ here.3))

pub find_none_at : {X : Type 0} (p : X → Bool) (xs : List X) → find p xs ≡ None → (i : ℕ) (x : X) → slice_get xs i ≡ Some x → p x ≡ false
find_none_at p [] none i x here = cc
find_none_at p (y ∷ xs) none zero x here =
    let same : y ≡ x = cc in
    subst (λ z. p z ≡ false) same (absent_here (p y) y (find p xs) none)
find_none_at p (y ∷ xs) none (suc i) x here = find_none_at p xs (absent_later (p y) y (find p xs) none) i x here

place_none_at : {X : Type 0} (p : X → Bool) (xs : List X) → position p xs ≡ None → (i : ℕ) (x : X) → slice_get xs i ≡ Some x → p x ≡ false
place_none_at p xs none i x here = find_none_at p xs (place_none p xs none) i x here

found_nowhere : (library : List GraphView) (node : NodeView) → position (is_of node.calculator) library ≡ None → (other : ℕ) → uses_at library (node ∷ []) other ≡ false
found_nowhere library node none other = by_test (uses_at library (node ∷ []) other) refl
  where
    by_test : (test : Bool) → uses_at library (node ∷ []) other ≡ test → test ≡ false
    by_test false known = refl
    by_test true known =
        let file = file_at library other (uses (node ∷ [])) known in
        absurd (false≢true (sym (place_none_at (is_of node.calculator) library none other file.0 file.1) ∙ (sym (or_false (is_of node.calculator file.0)) ∙ file.2)))

uses_more : (library : List GraphView) (nodes : List NodeView) (node : NodeView) (place : ℕ) → uses_at library (nodes ++ node ∷ []) place ≡ (uses_at library (node ∷ []) place || uses_at library nodes place)
uses_more library nodes node place = by_file (slice_get library place)
  where
    turned : (a b : Bool) → (a || (b || false)) ≡ ((b || false) || a)
    turned true true = refl
    turned true false = refl
    turned false true = refl
    turned false false = refl

    by_file : (here : Option GraphView) → option_map_or (uses (nodes ++ node ∷ [])) here false ≡ (option_map_or (uses (node ∷ [])) here false || option_map_or (uses nodes) here false)
    by_file None = refl
    by_file (Some file) = list_any-append (λ n. is_of n.calculator file) nodes (node ∷ []) ∙ turned (uses nodes file) (is_of node.calculator file)

-- a node more, which uses a file or none
pub link_more : (library : List GraphView) (nodes more : List NodeView) (node : NodeView) (old new : List Bool) (place : ℕ) → type_twice library ≡ None → more ≡ nodes ++ node ∷ []
    → position (is_of node.calculator) library ≡ Some place → ((other : ℕ) → flag_at new other ≡ ((other == place) || flag_at old other))
    → ((other : ℕ) → flag_at old other ≡ uses_at library nodes other) → (other : ℕ) → flag_at new other ≡ uses_at library more other
link_more library nodes more node old new place once longer found added known other =
    added other
    ∙ (ap (λ b. (other == place) || b) (known other)
    ∙ (ap (λ b. b || uses_at library nodes other) (sym (found_here library node place once found other))
    ∙ (sym (uses_more library nodes node other) ∙ ap (λ l. uses_at library l other) (sym longer))))

pub link_same : (library : List GraphView) (nodes more : List NodeView) (node : NodeView) (flags : List Bool) → more ≡ nodes ++ node ∷ []
    → position (is_of node.calculator) library ≡ None → ((other : ℕ) → flag_at flags other ≡ uses_at library nodes other) → (other : ℕ) → flag_at flags other ≡ uses_at library more other
link_same library nodes more node flags longer none known other =
    known other
    ∙ (ap (λ b. b || uses_at library nodes other) (sym (found_nowhere library node none other))
    ∙ (sym (uses_more library nodes node other) ∙ ap (λ l. uses_at library l other) (sym longer)))

-- the links of one more file
abbrev pub AreLinked : List GraphView → List (List ℕ) → Type 0
AreLinked library links = (place : ℕ) (file : GraphView) (list : List ℕ) → slice_get library place ≡ Some file → slice_get links place ≡ Some list → (other : ℕ) → listed other list ≡ uses_at library file.nodes other

pub links_more : (library : List GraphView) (links : List (List ℕ)) (place : ℕ) (file : GraphView) (list : List ℕ) → length links ≡ place → slice_get library place ≡ Some file
    → ((other : ℕ) → listed other list ≡ uses_at library file.nodes other) → AreLinked library links → AreLinked library (links ++ list ∷ [])
links_more library links place file list count here linked known p f l at_f at_l other =
    elim (got_push links list p l at_l) [
      | inl before ↦ known p f l at_f before other
      | inr last ↦
          let same : slice_get library p ≡ slice_get library place = ap (slice_get library) (last.0 ∙ count) in
          let files : Some f ≡ Some file = sym at_f ∙ (same ∙ here) in
          let one : f ≡ file = cc in
          ap (listed other) (sym last.1) ∙ (linked other ∙ ap (λ g. uses_at library g.nodes other) (sym one))
    ]

-- the links of a library lead to places in it
pub links_closed : (library : List GraphView) (links : List (List ℕ)) → AreLinks library links → AreClosed links
links_closed library links linked place list at other known =
    let file = file_beside library links place list linked.same at in
    let next = file_at library other (uses file.0.nodes) (sym (linked.linked place file.0 list file.1 at other) ∙ known) in
    let inside = got_within library other next.0 next.1 in
    omega (arith, linked.same)
  where
    file_beside : (library : List GraphView) (links : List (List ℕ)) (i : ℕ) (list : List ℕ) → length links ≡ length library → slice_get links i ≡ Some list → (file : GraphView) × (slice_get library i ≡ Some file)
    file_beside library [] i list same here = cc
    file_beside [] (l ∷ links) i list same here = absurd (omega arith)
    file_beside (f ∷ library) (l ∷ links) zero list same here = (f, refl)
    file_beside (f ∷ library) (l ∷ links) (suc i) list same here = file_beside library links i list (omega arith) here

-- the places that nodes use are in the library
pub start_within : (library : List GraphView) (links : List (List ℕ)) (nodes : List NodeView) (start : List ℕ) → AreLinks library links → ((place : ℕ) → listed place start ≡ uses_at library nodes place) → AreWithin links start
start_within library links nodes start linked begun place known =
    let file = file_at library place (uses nodes) (sym (begun place) ∙ known) in
    let inside = got_within library place file.0 file.1 in
    omega (arith, linked.same)

-- whether a file uses itself, by a walk from its links
pub cycle_is_recursive : (library : List GraphView) (links : List (List ℕ)) (place : ℕ) (file : GraphView) (cyclic : Bool) → AreLinks library links → slice_get library place ≡ Some file → IsCyclic links place cyclic → is_recursive library file ≡ cyclic
cycle_is_recursive library links place file cyclic linked here cycle =
    let list = list_beside library links place file linked.same here in
    let walk = cycle list.0 list.1 in
    sym (at_file library place file (uses_file library file.nodes) here)
    ∙ (sym (walked_is_used library file.nodes links list.0 walk.0 linked (linked.linked place file list.0 here list.1) walk.1 place) ∙ walk.2)

-- the first file of those that pass one test to pass another
pub find_filter : {X : Type 0} (p q : X → Bool) (xs : List X) (i : ℕ) (x : X) → slice_get xs i ≡ Some x → q x ≡ true → p x ≡ true
    → ((j : ℕ) (y : X) → j < i → slice_get xs j ≡ Some y → q y ≡ true → p y ≡ false) → find p (filter q xs) ≡ Some x
find_filter p q [] i x here first second before = cc
find_filter p q (y ∷ xs) zero x here first second before =
    let same : y ≡ x = cc in
    let passes : q y ≡ true = subst (λ z. q z ≡ true) (sym same) first in
    let found : p y ≡ true = subst (λ z. p z ≡ true) (sym same) second in
    ap (find p) (filter_keeps q y xs passes) ∙ (cond-true (p y) (Some y) (find p (filter q xs)) found ∙ ap Some same)
find_filter p q (y ∷ xs) (suc i) x here first second before =
    let rest = find_filter p q xs i x here first second (λ j z less at passes. before (suc j) z (omega arith) at passes) in
    ⊎_elim
    (λ passes. ap (find p) (filter_keeps q y xs passes) ∙ (cond-false (p y) (Some y) (find p (filter q xs)) (before 0 y (omega arith) refl passes) ∙ rest))
    (λ fails. ap (find p) (filter_drops q y xs fails) ∙ rest)
    (cases_Bool (q y))

pub find_filter_none : {X : Type 0} (p q : X → Bool) (xs : List X) → ((j : ℕ) (y : X) → slice_get xs j ≡ Some y → q y ≡ true → p y ≡ false) → find p (filter q xs) ≡ None
find_filter_none p q [] none = refl
find_filter_none p q (y ∷ xs) none =
    let rest = find_filter_none p q xs (λ j z at passes. none (suc j) z at passes) in
    ⊎_elim
    (λ passes. ap (find p) (filter_keeps q y xs passes) ∙ (cond-false (p y) (Some y) (find p (filter q xs)) (none 0 y refl passes) ∙ rest))
    (λ fails. ap (find p) (filter_drops q y xs fails) ∙ rest)
    (cases_Bool (q y))

-- the first used file that uses itself, by the first cycle
pub first_cycle : (library : List GraphView) (nodes : List NodeView) (links : List (List ℕ)) (flags : List Bool) (found : Option ℕ) → AreLinks library links
    → ((place : ℕ) → flag_at flags place ≡ reaches_at library nodes place) → IsFirstCycle links flags found
    → find (is_recursive library) (filter (uses_file library nodes) library) ≡ option_and_then (slice_get library) found
first_cycle library nodes links flags None linked used none =
    find_filter_none (is_recursive library) (uses_file library nodes) library
    (λ j file here known. cycle_is_recursive library links j file false linked here (none j (used j ∙ (at_file library j file (uses_file library nodes) here ∙ known))))
first_cycle library nodes links flags (Some place) linked used first =
    let here = file_at library place (uses_file library nodes) (sym (used place) ∙ first.1) in
    find_filter (is_recursive library) (uses_file library nodes) library place here.0 here.1 here.2
    (cycle_is_recursive library links place here.0 true linked here.1 first.2)
    (λ j file less at known. cycle_is_recursive library links j file false linked at (first.3 j less (used j ∙ (at_file library j file (uses_file library nodes) at ∙ known))))
    ∙ sym here.1

-- the files whose flags are set are those that are used
pub flagged_used : (flags : List Bool) (test : GraphView → Bool) (files : List GraphView) → ((i : ℕ) → flag_at flags i ≡ option_map_or test (slice_get files i) false) → length flags ≡ length files → flagged flags files ≡ filter test files
flagged_used [] test [] used same = refl
flagged_used [] test (file ∷ files) used same = absurd (omega arith)
flagged_used (flag ∷ flags) test [] used same = refl
flagged_used (flag ∷ flags) test (file ∷ files) used same =
    let rest = flagged_used flags test files (λ i. used (suc i)) (omega arith) in
    let head : flag ≡ test file = used 0 in
    ⊎_elim
    (λ passes. ap (λ b. if b then file ∷ flagged flags files else flagged flags files) (head ∙ passes) ∙ (ap (λ l. file ∷ l) rest ∙ sym (filter_keeps test file files passes)))
    (λ fails. ap (λ b. if b then file ∷ flagged flags files else flagged flags files) (head ∙ fails) ∙ (rest ∙ sym (filter_drops test file files fails)))
    (cases_Bool (test file))

-- what a walk along the links of a library says of the files that nodes use
pub walked_files : (library : List GraphView) (main : GraphView) (links : List (List ℕ)) (start : List ℕ) (flags : List Bool) → AreLinks library links
    → ((place : ℕ) → listed place start ≡ uses_at library main.nodes place) → IsReach links start flags → length flags ≡ length links → flagged flags library ≡ used_files main library
walked_files library main links start flags linked begun walked same =
    flagged_used flags (uses_file library main.nodes) library (walked_is_used library main.nodes links start flags linked begun walked) (same ∙ linked.same)

pub walked_cycle : (library : List GraphView) (main : GraphView) (links : List (List ℕ)) (start : List ℕ) (flags : List Bool) (found : Option ℕ) → AreLinks library links
    → ((place : ℕ) → listed place start ≡ uses_at library main.nodes place) → IsReach links start flags → IsFirstCycle links flags found
    → recursive main library ≡ option_map (λ file. Recursive file.type_name) (option_and_then (slice_get library) found)
walked_cycle library main links start flags found linked begun walked first =
    ap (option_map (λ file. Recursive file.type_name)) (first_cycle library main.nodes links flags found linked (walked_is_used library main.nodes links start flags linked begun walked) first)

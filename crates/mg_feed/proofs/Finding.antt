-- The place of a name, by the number of the first entry that has it.
use Rattle.std.proofs.Common.{◌≡◌, ◌+◌, ◌<◌, ℕ, suc, List, [], ◌∷◌, ◌++◌, Bool, true, false, Option, None, Some, length, take, length-take-le, get_or, map, refl, sym, ◌∙◌, ap, subst, cond, arith}
use Rattle.std.specs.Prelude.{option_map, slice_get}
use Rattle.std.specs.Cmp.Lexicographic.{nat_list_eq_equiv}
use Rattle.std.specs.Option.{option_and_then}
use Rattle.std.specs.Str.{bytes_eq}
use Rattle.std.proofs.lemmas.List.{take_more, map-append, length-map}
use Rattle.mg_index.specs.Places.{is_text, is_same, place_of as first_place}
use Rattle.mg_index.specs.Tables.{kept_place, IsTable}
use Rattle.mg_index.specs.declared.name_table.NameTable.{NameTable}
use Rattle.mg_index.proofs.Placing.{position-cons}
use Rattle.mg_feed.specs.Graph.{place_of}
use Rattle.mg_feed.specs.Code.Places.{Finds}
use Rattle.mg_feed.specs.declared.places.Placed.{Placed}

-- the place of an entry
abbrev place_at : List Placed → ℕ → Option ℕ
place_at ps number = option_map (λ p. p.place) (slice_get ps number)

found_by : (here : Bool) (p : Placed) (ps : List Placed) (found later : Option ℕ) → later ≡ option_and_then (place_at ps) found
    → cond here (Some p.place) later ≡ option_and_then (place_at (p ∷ ps)) (cond here (Some 0) (option_map suc found))
found_by true p ps found later known = refl
found_by false p ps None later known = known
found_by false p ps (Some n) later known = known

place_by_number : (ps : List Placed) (name : List ℕ) → place_of ps name ≡ option_and_then (place_at ps) (first_place is_text (map (λ p. p.name) ps) name)
place_by_number [] name = refl
place_by_number (p ∷ ps) name =
    ap (λ b. cond b (Some p.place) (place_of ps name)) (nat_list_eq_equiv.symm p.name name)
    ∙ (found_by (bytes_eq name p.name) p ps (first_place is_text (map (λ p. p.name) ps) name) (place_of ps name) (place_by_number ps name)
    ∙ ap (option_and_then (place_at (p ∷ ps))) (sym (position-cons (is_same is_text name) p.name (map (λ p. p.name) ps))))

pub place_there : (names : NameTable) (ps : List Placed) (name : List ℕ) (number : ℕ) (place : Option ℕ) → Finds names ps → Some number ≡ kept_place names name → place ≡ option_map (λ p. p.place) (slice_get ps number) → place ≡ place_of ps name
place_there names ps name number place known found is = is ∙ sym (place_by_number ps name ∙ ap (option_and_then (place_at ps)) (sym (found ∙ known.first name)))

pub place_missing : (names : NameTable) (ps : List Placed) (name : List ℕ) → Finds names ps → None ≡ kept_place names name → None ≡ place_of ps name
place_missing names ps name known missing = sym (place_by_number ps name ∙ ap (option_and_then (place_at ps)) (sym (missing ∙ known.first name)))

-- a table over the first entries, and over one more
pub finds_more : (old new : NameTable) (entries : List Placed) (i : ℕ) (entry : Placed) (name : List ℕ) → i < length entries → name ≡ (get_or entries i entry).name
    → ((is_name : List ℕ → Bool) (texts : List (List ℕ)) → is_name name ≡ true → length texts ≡ i → IsTable is_name old texts → IsTable is_name new (texts ++ name ∷ []))
    → Finds old (take i entries) → Finds new (take (i + 1) entries)
finds_more old new entries i entry name inside is step known =
    let front = take i entries in
    let long : length (map (λ p. p.name) front) ≡ i = length-map front (λ p. p.name) ∙ length-take-le i entries (omega (arith, inside)) in
    let more : map (λ p. p.name) (take (i + 1) entries) ≡ map (λ p. p.name) front ++ name ∷ [] =
    ap (map (λ p. p.name)) (take_more entries i entry inside)
    ∙ (map-append (λ p. p.name) front (get_or entries i entry ∷ []) ∙ ap (λ n. map (λ p. p.name) front ++ n ∷ []) (sym is)) in
    subst (IsTable is_text new) (sym more) (step is_text (map (λ p. p.name) front) refl long known)

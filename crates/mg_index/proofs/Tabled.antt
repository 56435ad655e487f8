-- Tables of texts, one more text at the end.
use Rattle.std.proofs.Common.{ℕ, ◌≡◌, List, [], ◌∷◌, ◌++◌, Option, None, Some, Bool, true, false, ◌&&◌, cond, if◌then◌else◌, refl, sym, ap, ◌∙◌, subst, ⊎_elim, length, map, filter}
use Rattle.std.specs.Cow.{cow_str_bytes}
use Rattle.std.specs.declared.borrow.CowStr.{CowStr}
use Rattle.std.specs.Str.{bytes_eq}
use Rattle.std.specs.Cmp.Lexicographic.{nat_list_eq_equiv}
use Rattle.std.specs.Map.{lookup, IsKeyTest, AreApart, KeepsOthers}
use Rattle.std.proofs.lemmas.Bool.{cases_Bool, cond-true, cond-false}
use Rattle.std.proofs.lemmas.List.{map-append}
use Rattle.std.proofs.lemmas.List.Elements.{filter-append}
use Rattle.std.proofs.lemmas.Slice.Eq.{bytes_eq-Decides}
use Rattle.indexmap.specs.IndexMap.{IndexMap, get_by, UpdatesBy}
use Rattle.mg_index.specs.Places.{is_same, place_of, place_again, earlier}
use Rattle.mg_index.specs.Tables.{kept_place, kept_names, IsTable}
use Rattle.std.specs.declared.alloc.Global.{Global}
use Rattle.mg_index.specs.declared.name_table.NameTable.{NameTable}
use Rattle.mg_index.proofs.Placing.{pushed, position-push, pushed_past, nowhere, both_off, no_name, again-push, earlier_none, earlier_some}

apart : (bs cs ks : List ℕ) → bytes_eq bs cs ≡ false → bytes_eq bs ks ≡ true → bytes_eq cs ks ≡ false
apart bs cs ks n y = nat_list_eq_equiv.symm cs ks ∙ sym (nat_list_eq_equiv.congr bs ks cs y) ∙ n

other_entries : {K X : Type 0} (eq : K → K → Bool) (test : K → Bool) (old new : List (K × X)) → KeepsOthers eq test old new → (other : K → Bool) → IsKeyTest eq other → AreApart test other → lookup other new ≡ lookup other old
unfolding KeepsOthers
other_entries eq test old new h = h

by_bytes : {W : Type 0} (f g : List ℕ → W) (bs : List ℕ) (w : W) → g bs ≡ w → ((cs : List ℕ) → bytes_eq bs cs ≡ false → g cs ≡ f cs) → (cs : List ℕ) → g cs ≡ cond (bytes_eq bs cs) w (f cs)
by_bytes f g bs w here other cs =
    ⊎_elim
    (λ same. subst (λ l. g l ≡ w) ((bytes_eq-Decides bs cs).0 same) here ∙ sym (cond-true (bytes_eq bs cs) w (f cs) same))
    (λ differs. other cs differs ∙ sym (cond-false (bytes_eq bs cs) w (f cs) differs))
    (cases_Bool (bytes_eq bs cs))

-- the value at a name
abbrev at_name : {X S Z : Type 0} → IndexMap (CowStr Z) X S → List ℕ → Option X
at_name m name = get_by (λ key. bytes_eq name (cow_str_bytes key)) m

pub updates_at : {X S Z : Type 0} (m n : IndexMap (CowStr Z) X S) (key : CowStr Z) (w : Option X) → UpdatesBy (λ x y. bytes_eq (cow_str_bytes x) (cow_str_bytes y)) (λ k. bytes_eq (cow_str_bytes key) (cow_str_bytes k)) m n w
    → (name : List ℕ) → at_name n name ≡ cond (bytes_eq (cow_str_bytes key) name) w (at_name m name)
updates_at m n key w h =
    by_bytes (at_name m) (at_name n) (cow_str_bytes key) w h.1
    (λ cs differs. other_entries _ _ _ _ h.3 _ (λ x y. nat_list_eq_equiv.congr cs (cow_str_bytes x) (cow_str_bytes y)) (λ k. apart (cow_str_bytes key) cs (cow_str_bytes k) differs))

-- the names in entries
abbrev names_in : {X Z : Type 0} → List (CowStr Z × X) → List (List ℕ)
names_in entries = map (λ entry. cow_str_bytes entry.0) entries

-- a name that is new
pub name_new : (is_name : List ℕ → Bool) (old new : NameTable) (texts : List (List ℕ)) (key : CowStr Global) (name : List ℕ) (place : ℕ) → cow_str_bytes key ≡ name → is_name name ≡ true → length texts ≡ place
    → kept_place old name ≡ None
    → ((other : List ℕ) → kept_place new other ≡ cond (bytes_eq name other) (Some place) (kept_place old other))
    → new.again ≡ old.again → new.places.entries ≡ old.places.entries ++ (key, place) ∷ []
    → IsTable is_name old texts → IsTable is_name new (texts ++ name ∷ [])
name_new is_name old new texts key name place is named count none kept again behind known =
    let absent : place_of is_name texts name ≡ None = sym (known.first name) ∙ none in
    let stays : place_again is_name (texts ++ name ∷ []) ≡ place_again is_name texts = again-push is_name texts name ∙ (ap (earlier (place_again is_name texts)) absent ∙ earlier_none (place_again is_name texts)) in
    record {
      first = λ other.
          kept other
          ∙ (⊎_elim
          (λ same.
          let P : List ℕ → Type 0 = λ o. cond (bytes_eq name o) (Some place) (kept_place old o) ≡ pushed (place_of is_name texts o) (is_same is_name o name) (length texts) in
          let own : bytes_eq name name ≡ true = subst (λ o. bytes_eq name o ≡ true) (sym ((bytes_eq-Decides name other).0 same)) same in
          let passes : is_same is_name name name ≡ true = ap (λ b. b && bytes_eq name name) named ∙ own in
          subst P ((bytes_eq-Decides name other).0 same)
          (cond-true (bytes_eq name name) (Some place) (kept_place old name) own
          ∙ (ap Some (sym count) ∙ sym (ap (λ o. pushed o (is_same is_name name name) (length texts)) absent ∙ ap (λ b. if b then Some (length texts) else None) passes))))
          (λ differs.
          let fails : is_same is_name other name ≡ false = both_off (is_name other) (bytes_eq other name) (nat_list_eq_equiv.symm other name ∙ differs) in
          cond-false (bytes_eq name other) (Some place) (kept_place old other) differs
          ∙ (known.first other ∙ sym (ap (λ b. pushed (place_of is_name texts other) b (length texts)) fails ∙ pushed_past (place_of is_name texts other) (length texts))))
          (cases_Bool (bytes_eq name other))
          ∙ sym (position-push (is_same is_name other) texts name));
      again = again ∙ (known.again ∙ sym stays);
      in_order = λ once.
          ap names_in behind ∙ (map-append (λ entry. cow_str_bytes entry.0) old.places.entries ((key, place) ∷ [])
          ∙ (ap (λ n. kept_names old ++ n ∷ []) is
          ∙ ap (λ l. l ++ name ∷ []) (known.in_order (sym stays ∙ once))
          ∙ sym (filter-append is_name texts (name ∷ []) ∙ ap (λ b. filter is_name texts ++ cond b (name ∷ []) []) named)));
    }

-- a name that stands already
pub name_seen : (is_name : List ℕ → Bool) (old new : NameTable) (texts : List (List ℕ)) (name : List ℕ) (first : ℕ)
    → kept_place old name ≡ Some first → ((other : List ℕ) → kept_place new other ≡ kept_place old other) → new.again ≡ earlier old.again (Some first)
    → IsTable is_name old texts → IsTable is_name new (texts ++ name ∷ [])
name_seen is_name old new texts name first stands kept again known =
    let there : place_of is_name texts name ≡ Some first = sym (known.first name) ∙ stands in
    let later : place_again is_name (texts ++ name ∷ []) ≡ earlier (place_again is_name texts) (Some first) = again-push is_name texts name ∙ ap (earlier (place_again is_name texts)) there in
    record {
      first = λ other.
          kept other ∙ (known.first other
          ∙ sym (position-push (is_same is_name other) texts name
          ∙ ⊎_elim
          (λ same.
          let one : name ≡ other = sym ((bytes_eq-Decides other name).0 same) in
          let found : place_of is_name texts other ≡ Some first = subst (λ o. place_of is_name texts o ≡ Some first) one there in
          ap (λ o. pushed o (is_same is_name other name) (length texts)) found ∙ sym found)
          (λ differs.
          ap (λ b. pushed (place_of is_name texts other) b (length texts)) (both_off (is_name other) (bytes_eq other name) differs)
          ∙ pushed_past (place_of is_name texts other) (length texts))
          (cases_Bool (bytes_eq other name))));
      again = again ∙ (ap (λ o. earlier o (Some first)) known.again ∙ sym later);
      in_order = λ once. let clash : None ≡ Some first = earlier_some (place_again is_name texts) first (sym later ∙ once) in cc;
    }

-- a text that is no name
pub name_none : (is_name : List ℕ → Bool) (table : NameTable) (texts : List (List ℕ)) (text : List ℕ) → is_name text ≡ false → IsTable is_name table texts → IsTable is_name table (texts ++ text ∷ [])
name_none is_name table texts text none known =
    let absent : place_of is_name texts text ≡ None = nowhere (is_same is_name text) (λ other. no_name is_name text other none) texts in
    let stays : place_again is_name (texts ++ text ∷ []) ≡ place_again is_name texts = again-push is_name texts text ∙ (ap (earlier (place_again is_name texts)) absent ∙ earlier_none (place_again is_name texts)) in
    record {
      first = λ other.
          known.first other
          ∙ sym (position-push (is_same is_name other) texts text
          ∙ (ap (λ b. pushed (place_of is_name texts other) b (length texts)) (fails other) ∙ pushed_past (place_of is_name texts other) (length texts)));
      again = known.again ∙ sym stays;
      in_order = λ once.
          known.in_order (sym stays ∙ once)
          ∙ sym (filter-append is_name texts (text ∷ []) ∙ (ap (λ b. filter is_name texts ++ cond b (text ∷ []) []) none ∙ nothing_behind (filter is_name texts)));
    }
  where
    fails : (other : List ℕ) → is_same is_name other text ≡ false
    fails other =
        ⊎_elim
        (λ same. let one : text ≡ other = sym ((bytes_eq-Decides other text).0 same) in no_name is_name other text (subst (λ o. is_name o ≡ false) one none))
        (λ differs. both_off (is_name other) (bytes_eq other text) differs)
        (cases_Bool (bytes_eq other text))

    nothing_behind : (xs : List (List ℕ)) → xs ++ [] ≡ xs
    nothing_behind [] = refl
    nothing_behind (x ∷ xs) = ap (λ l. x ∷ l) (nothing_behind xs)

-- The part of a list or a record that is written next: it nests less deep, and goes after the part that is written.
use Rattle.std.proofs.Common.{◌≡◌, ℕ, zero, suc, ◌+◌, ◌<◌, ◌≤◌, List, [], ◌∷◌, map, take, length, get_or, add-one, Less, Greater, refl, ap, subst, ◌∙◌, arith}
use Rattle.std.proofs.lemmas.Cmp.{nat_list_cmp_total}
use Rattle.std.specs.Cmp.Lexicographic.{slice_cmp}
use Rattle.std.specs.Ordering.{nat_cmp, ordering_reverse}
use Rattle.std.specs.List.{AllByRecursion}
use Rattle.std.specs.List.Sorted.{IsStrictlySortedBy}
use Rattle.serde_json.specs.Data as json
use Rattle.mg_value.specs.declared.payload.Payload.{Payload}
use Rattle.mg_value.specs.declared.record_list.Entry.{Entry}
use Rattle.mg_value.specs.Plain.{depth, items_of, items_depth, entries_of, entries_depth, NumbersFit, ItemsFit, EntriesFit}
use Rattle.mg_value.specs.Payload.{plain, plain_entry, KeysAscend}
use Rattle.mg_json.specs.Json.{json_of, json_members}

pub item_within : (ps : List Payload) (i : ℕ) (d : Payload) → i < length ps → depth (plain (get_or ps i d)) ≤ items_depth (items_of (map plain ps))
item_within [] i d h = absurd (omega arith)
item_within (p ∷ ps) zero d h = omega arith
item_within (p ∷ ps) (suc i) d h = omega (arith, item_within ps i d (omega arith))

pub entry_within : (es : List Entry) (i : ℕ) (d : Entry) → i < length es → depth (plain (get_or es i d).value) ≤ entries_depth (entries_of (map plain_entry es))
entry_within [] i d h = absurd (omega arith)
entry_within (e ∷ es) zero d h = omega arith
entry_within (e ∷ es) (suc i) d h = omega (arith, entry_within es i d (omega arith))

abbrev keys : List Entry → List (List ℕ)
keys es = map (λ e. e.key) (map plain_entry es)

below_later : (k : List ℕ) (es : List Entry) (i : ℕ) (d : Entry) → AllByRecursion (λ l. slice_cmp nat_cmp k l ≡ Less) (keys es) → i < length es → slice_cmp nat_cmp k (get_or es i d).key ≡ Less
below_later k [] i d h within = absurd (omega arith)
below_later k (e ∷ es) zero d h within = h.0
below_later k (e ∷ es) (suc i) d h within = below_later k es i d h.1 (omega arith)

-- the members that the first so many entries say
abbrev pub members_before : ℕ → List Entry → json.Members
members_before i es = json_members (entries_of (map plain_entry (take i es)))

put_next : (es : List Entry) (i : ℕ) (d : Entry) → KeysAscend (map plain_entry es) → i < length es
    → json.put (get_or es i d).key (json_of (plain (get_or es i d).value)) (members_before i es) ≡ members_before (suc i) es
unfolding IsStrictlySortedBy
put_next [] i d h within = absurd (omega arith)
put_next (e ∷ es) zero d h within = refl
put_next (e ∷ es) (suc i) d h within =
    let next = get_or es i d in
    let above : slice_cmp nat_cmp next.key e.key ≡ Greater =
    nat_list_cmp_total.antisymm next.key e.key ∙ ap ordering_reverse (below_later e.key es i d h.0 (omega arith)) in
    rw above (ap (json.member e.key (json_of (plain e.value))) (put_next es i d h.1 (omega arith)))

-- what is put at an entry's key makes the members of one entry more
pub entry_written : (es : List Entry) (i : ℕ) (e : Entry) (key : List ℕ) (value : json.Data) (ms : json.Members) → KeysAscend (map plain_entry es) → i < length es → e ≡ get_or es i e
    → key ≡ e.key → value ≡ json_of (plain e.value) → ms ≡ members_before i es → json.put key value ms ≡ members_before (i + 1) es
entry_written es i e key value ms h within is keyed said before =
    rw (keyed ∙ ap (λ x. x.key) is, said ∙ ap (λ x. json_of (plain x.value)) is, before, add-one) (put_next es i e h within)

-- with one more that fits, they fit
pub items_fit_next : (ps : List Payload) (i : ℕ) (p : Payload) → i < length ps → p ≡ get_or ps i p → ItemsFit (items_of (map plain (take i ps))) → NumbersFit (plain p) → ItemsFit (items_of (map plain (take (i + 1) ps)))
items_fit_next ps i p within is before fit = rw add-one (at ps i p within before (subst (λ x. NumbersFit (plain x)) is fit))
  where
    at : (qs : List Payload) (j : ℕ) (d : Payload) → j < length qs → ItemsFit (items_of (map plain (take j qs))) → NumbersFit (plain (get_or qs j d)) → ItemsFit (items_of (map plain (take (suc j) qs)))
    at [] j d within before fit = absurd (omega arith)
    at (q ∷ qs) zero d within before fit = (fit, tt)
    at (q ∷ qs) (suc j) d within before fit = (before.0, at qs j d (omega arith) before.1 fit)

pub entries_fit_next : (es : List Entry) (i : ℕ) (e : Entry) → i < length es → e ≡ get_or es i e → EntriesFit (entries_of (map plain_entry (take i es))) → NumbersFit (plain e.value) → EntriesFit (entries_of (map plain_entry (take (i + 1) es)))
entries_fit_next es i e within is before fit = rw add-one (at es i e within before (subst (λ x. NumbersFit (plain x.value)) is fit))
  where
    at : (fs : List Entry) (j : ℕ) (d : Entry) → j < length fs → EntriesFit (entries_of (map plain_entry (take j fs))) → NumbersFit (plain (get_or fs j d).value) → EntriesFit (entries_of (map plain_entry (take (suc j) fs)))
    at [] j d within before fit = absurd (omega arith)
    at (f ∷ fs) zero d within before fit = (fit, tt)
    at (f ∷ fs) (suc j) d within before fit = (before.0, at fs j d (omega arith) before.1 fit)

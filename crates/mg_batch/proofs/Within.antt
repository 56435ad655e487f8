-- What lies inside a list or a record of payloads, and how deep it nests.
use Rattle.std.proofs.Common.{◌≡◌, ℕ, zero, suc, ◌+◌, ◌<◌, ◌≤◌, true, false, nat_le, List, [], ◌∷◌, ◌++◌, map, take, length, get_or, sym, subst, arith}
use Rattle.std.proofs.lemmas.Bool.Decides.{nat_tests}
use Rattle.std.proofs.lemmas.List.{take_more}
use Rattle.mg_value.specs.declared.payload.Payload.{Payload}
use Rattle.mg_value.specs.declared.record_list.Entry.{Entry}
use Rattle.mg_value.specs.Plain.{depth, items_of, items_depth, entries_of, entries_depth}
use Rattle.mg_value.specs.Payload.{plain, plain_entry}

pub item_within : (ps : List Payload) (i : ℕ) (d : Payload) → i < length ps → depth (plain (get_or ps i d)) ≤ items_depth (items_of (map plain ps))
item_within [] i d h = absurd (omega arith)
item_within (p ∷ ps) zero d h = omega arith
item_within (p ∷ ps) (suc i) d h = omega (arith, item_within ps i d (omega arith))

pub entry_within : (es : List Entry) (i : ℕ) (d : Entry) → i < length es → depth (plain (get_or es i d).value) ≤ entries_depth (entries_of (map plain_entry es))
entry_within [] i d h = absurd (omega arith)
entry_within (e ∷ es) zero d h = omega arith
entry_within (e ∷ es) (suc i) d h = omega (arith, entry_within es i d (omega arith))

-- how deep the first of them nest
shallower : (levels n : ℕ) → nat_le levels n ≡ false → n < levels
shallower levels n e = grind (arith, nat_tests)

deeper : (levels n m : ℕ) → true ≡ nat_le levels n → n ≤ m → true ≡ nat_le levels m
deeper levels n m e le = grind (arith, nat_tests)

pub items_next : (levels : ℕ) (ps : List Payload) (i : ℕ) (p : Payload) → i < length ps → p ≡ get_or ps i p → nat_le levels (depth (plain p)) ≡ false
    → items_depth (items_of (map plain (take i ps))) < levels → items_depth (items_of (map plain (take (i + 1) ps))) < levels
items_next levels ps i p below item shallow before =
    subst (λ (qs : List Payload). items_depth (items_of (map plain qs)) < levels) (sym (take_more ps i p below))
    (items_push levels (take i ps) (get_or ps i p) before (subst (λ (q : Payload). depth (plain q) < levels) item (shallower levels (depth (plain p)) shallow)))
  where
    items_push : (levels : ℕ) (ps : List Payload) (p : Payload) → items_depth (items_of (map plain ps)) < levels → depth (plain p) < levels → items_depth (items_of (map plain (ps ++ p ∷ []))) < levels
    items_push levels [] p before here = omega (arith, before, here)
    items_push levels (q ∷ qs) p before here = (
        let rest : items_depth (items_of (map plain qs)) < levels = omega (arith, before) in
        let more = items_push levels qs p rest here in
        omega (arith, before, more)
        )

pub items_here : (levels : ℕ) (ps : List Payload) (i : ℕ) (p : Payload) → i < length ps → p ≡ get_or ps i p → true ≡ nat_le levels (depth (plain p)) → true ≡ nat_le levels (items_depth (items_of (map plain ps)))
items_here levels ps i p below item deep =
    deeper levels (depth (plain p)) (items_depth (items_of (map plain ps))) deep (subst (λ (q : Payload). depth (plain q) ≤ items_depth (items_of (map plain ps))) (sym item) (item_within ps i p below))

pub entries_next : (levels : ℕ) (es : List Entry) (i : ℕ) (e : Entry) → i < length es → e ≡ get_or es i e → nat_le levels (depth (plain e.value)) ≡ false
    → entries_depth (entries_of (map plain_entry (take i es))) < levels → entries_depth (entries_of (map plain_entry (take (i + 1) es))) < levels
entries_next levels es i e below item shallow before =
    subst (λ (qs : List Entry). entries_depth (entries_of (map plain_entry qs)) < levels) (sym (take_more es i e below))
    (entries_push levels (take i es) (get_or es i e) before (subst (λ (q : Entry). depth (plain q.value) < levels) item (shallower levels (depth (plain e.value)) shallow)))
  where
    entries_push : (levels : ℕ) (es : List Entry) (e : Entry) → entries_depth (entries_of (map plain_entry es)) < levels → depth (plain e.value) < levels → entries_depth (entries_of (map plain_entry (es ++ e ∷ []))) < levels
    entries_push levels [] e before here = omega (arith, before, here)
    entries_push levels (q ∷ qs) e before here = (
        let rest : entries_depth (entries_of (map plain_entry qs)) < levels = omega (arith, before) in
        let more = entries_push levels qs e rest here in
        omega (arith, before, more)
        )

pub entries_here : (levels : ℕ) (es : List Entry) (i : ℕ) (e : Entry) → i < length es → e ≡ get_or es i e → true ≡ nat_le levels (depth (plain e.value)) → true ≡ nat_le levels (entries_depth (entries_of (map plain_entry es)))
entries_here levels es i e below item deep =
    deeper levels (depth (plain e.value)) (entries_depth (entries_of (map plain_entry es))) deep (subst (λ (q : Entry). depth (plain q.value) ≤ entries_depth (entries_of (map plain_entry es))) (sym item) (entry_within es i e below))

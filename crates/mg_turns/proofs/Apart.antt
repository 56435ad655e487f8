-- The words of the parts stand eight apart in the table. What holds of a step on the words of the parts alone holds of one there.
use Rattle.mg_calc.specs.Rules.{Laws}
use Rattle.std.proofs.Common.{◌≡◌, ℕ, zero, suc, ◌+◌, ◌*◌, ◌/◌, ◌%◌, ◌<◌, ◌≤◌, ◌==◌, Bool, true, false, MatchBool, List, [], ◌∷◌, map, length, drop, replicate, get_or, set, sym, refl, ap, ◌∙◌, subst, arith, Option, Some, None, IfSome, bit_or, length-set, length-drop, get_or-set_other}
use Rattle.std.proofs.lemmas.Bool.{eqb-true, eqb-false}
use Rattle.std.proofs.lemmas.List.{get_or-drop, length-replicate}
use mathlib.Core.Option as maybe
use Rattle.atomic_table.specs.Table.{opening, Allows, Splits, Joins, Final, Seen, step, carried_after, homes_after, rest}
use Rattle.mg_turns.specs.Parts.{PartView, LayoutView, Follows}
use Rattle.mg_turns.specs.Rule.{Ready, first_view, has_turn, word_of, Ruled, each_eighth, parts_alone, RuledApart}
use Rattle.mg_turns.specs.Sights.{kept_after, handed, joined}
use Rattle.mg_turns.specs.Code.Plays.{Sat, HasTurn, Returns, GivesTurnBack, with_miss, tried_at, tried, looked_at, looked, spent_view}
use Rattle.mg_turns.specs.declared.view.View.{View}
use Rattle.mg_turns.proofs.Keeps.{starts, tries, looks, gives_at}
use Rattle.mg_turns.proofs.Ends.{Settled, settled, splits, joins}
use Rattle.mg_turns.proofs.Shares.{no_words}

drop_set : (k i j : ℕ) (ws : List ℕ) (x : ℕ) → j ≡ k + i → drop k (set ws j x) ≡ set (drop k ws) i x
drop_set zero i j ws x e = let same : j ≡ i = omega (arith, e) in ap (λ (n : ℕ). set ws n x) same
drop_set (suc k) i j [] x e = refl
drop_set (suc k) i zero (w ∷ ws) x e = absurd (omega (arith, e))
drop_set (suc k) i (suc j) (w ∷ ws) x e = drop_set k i j ws x (omega (arith, e))

eighth_at : (n i : ℕ) (ws : List ℕ) → i < n → get_or (each_eighth n ws) i 0 ≡ get_or ws (8 * i) 0
eighth_at zero i ws h = absurd (omega (arith, h))
eighth_at (suc n) zero ws h = refl
eighth_at (suc n) (suc i) ws h =
    let same : 8 + 8 * i ≡ 8 * suc i = omega arith in
    eighth_at n i (drop 8 ws) (omega (arith, h)) ∙ (get_or-drop 8 ws (8 * i) 0 ∙ ap (λ (k : ℕ). get_or ws k 0) same)

eighth_set : (n i x : ℕ) (ws : List ℕ) → i < n → 8 * n ≤ length ws → each_eighth n (set ws (8 * i) x) ≡ set (each_eighth n ws) i x
eighth_set zero i x ws h long = absurd (omega (arith, h))
eighth_set (suc n) zero x [] h long = absurd (omega (arith, long))
eighth_set (suc n) zero x (w ∷ ws) h long = refl
eighth_set (suc n) (suc i) x ws h long =
    let first : get_or (set ws (8 * suc i) x) 0 0 ≡ get_or ws 0 0 = get_or-set_other ws (8 * suc i) 0 x 0 (λ e. omega (arith, e)) in
    let behind : drop 8 (set ws (8 * suc i) x) ≡ set (drop 8 ws) (8 * i) x = drop_set 8 (8 * i) (8 * suc i) ws x (omega arith) in
    ap (λ (y : ℕ). y ∷ each_eighth n (drop 8 (set ws (8 * suc i) x))) first
    ∙ ap (λ (l : List ℕ). get_or ws 0 0 ∷ l) (ap (each_eighth n) behind ∙ eighth_set n i x (drop 8 ws) (omega (arith, h)) (omega (arith, long, length-drop 8 ws)))

eighth_zero : (n : ℕ) (ws : List ℕ) → ((i : ℕ) → get_or ws i 0 ≡ zero) → each_eighth n ws ≡ replicate n zero
eighth_zero zero ws h = refl
eighth_zero (suc n) ws h =
    ap (λ (y : ℕ). y ∷ each_eighth n (drop 8 ws)) (h 0)
    ∙ ap (λ (l : List ℕ). zero ∷ l) (eighth_zero n (drop 8 ws) (λ i. get_or-drop 8 ws i 0 ∙ h (8 + i)))

zero_at : (m i : ℕ) → get_or (replicate m zero) i 0 ≡ zero
zero_at zero i = refl
zero_at (suc m) zero = refl
zero_at (suc m) (suc i) = zero_at m i

pub eighth_word : (word : ℕ) → 8 * word / 8 ≡ word
eighth_word word = omega arith

pub starts_apart : {laws : Laws} (key : LayoutView) (ws : List ℕ) (xs : List (Option PartView)) → ws ≡ replicate (8 * length key.parts) zero → xs ≡ map Some key.parts → Ready key → RuledApart laws key (opening ws xs (first_view key))
starts_apart {laws} key ws xs words slots ready =
    let n : ℕ = length key.parts in
    let free : each_eighth n ws ≡ replicate n zero = ap (each_eighth n) words ∙ eighth_zero n (replicate (8 * n) zero) (zero_at (8 * n)) in
    (ap length words ∙ length-replicate (8 * n) zero, starts key (each_eighth n ws) xs (free ∙ no_words key.parts) slots ready)

allows_apart : {laws : Laws} (key : LayoutView) (n id : ℕ) (m : Sat) (i : ℕ) (f : ℕ → ℕ) (then : ℕ → Sat → Type 0) → i < n → Allows (Ruled laws key) n id m i f then → Allows (RuledApart laws key) n id m (8 * i) f then
allows_apart {laws} key n id m i f then inside does s ro long me small =
    let k : ℕ = length key.parts in
    let near : i < k = omega (arith, inside, long, ro.1.0.long) in
    let here : get_or (each_eighth k s.words) i 0 ≡ get_or s.words (8 * i) 0 = eighth_at k i s.words near in
    let r = does (parts_alone key s) ro.1 long me (subst (λ (x : ℕ). x < 18446744073709551616) (sym here) small) in
    let y : ℕ = f (get_or s.words (8 * i) 0) in
    let words : set (each_eighth k s.words) i (f (get_or (each_eighth k s.words) i 0)) ≡ each_eighth k (set s.words (8 * i) y) =
    ap (λ (x : ℕ). set (each_eighth k s.words) i (f x)) here ∙ sym (eighth_set k i y s.words near (omega (arith, ro.0))) in (
      r.0,
      r.1,
      r.2,
      (
        length-set s.words (8 * i) y ∙ ro.0,
        subst (λ (l : List ℕ). Ruled laws key (record { words = l; homes = homes_after s.homes m.1 r.1; views = set s.views id r.0 })) words r.3,
      ),
      subst (λ (x : ℕ). then x (r.0, carried_after m.1 r.1)) here r.4,
    )

pub tries_apart : {laws : Laws} (key : LayoutView) (n id : ℕ) (m : Sat) (i : ℕ) → i < n → 0 < m.0.portion → has_turn i m.0 ≡ 0 → Allows (RuledApart laws key) n id m (8 * i) (λ y. bit_or y 1) (tried laws (step n (8 * i) 1 0 maybe.none) m)
tries_apart {laws} key n id m i inside alive free =
    subst (λ (word : ℕ). Allows (RuledApart laws key) n id m (8 * i) (λ y. bit_or y 1) (tried_at laws word m)) (sym (eighth_word i))
    (allows_apart key n id m i (λ y. bit_or y 1) (tried_at laws i m) inside (tries key n id m i inside alive free))

pub looks_apart : {laws : Laws} (key : LayoutView) (n id : ℕ) (m : Sat) (i : ℕ) → i < n → 0 < m.0.portion → Allows (RuledApart laws key) n id m (8 * i) (λ y. y) (looked (step n (8 * i) 0 0 maybe.none) m)
looks_apart {laws} key n id m i inside alive =
    subst (λ (word : ℕ). Allows (RuledApart laws key) n id m (8 * i) (λ y. y) (looked_at word m)) (sym (eighth_word i))
    (allows_apart key n id m i (λ y. y) (looked_at i m) inside (looks key n id m i inside alive))

pub gives_apart : {laws : Laws} (key : LayoutView) (n id : ℕ) (m : Sat) (w : View) (i new : ℕ) (p : PartView) → i < n → new ≡ word_of m.0.key i p → HasTurn m.0 i p → Returns m.0 i p w → GivesTurnBack m.0 i p w → Follows laws m.0.key i p → m.1 ≡ (i, Some p) ∷ rest m.1
    → Allows (RuledApart laws key) n id m (8 * i) (λ _. new) (λ _ m'. m' ≡ (w, rest m.1))
gives_apart {laws} key n id m w i new p inside word has-turn returns kind follows e =
    allows_apart key n id m i (λ _. new) (λ _ m'. m' ≡ (w, rest m.1)) inside (gives_at key n id m w i new p inside word has-turn returns kind follows e)

pub splits_apart : {laws : Laws} (key : LayoutView) (id n : ℕ) (v : View) → 0 < n → n < v.portion → Splits (RuledApart laws key) id v (kept_after n v) (handed n v)
splits_apart {laws} key id n v some-part less s ro me = (ro.0, splits key id n v some-part less (parts_alone key s) ro.1 me)

pub joins_apart : {laws : Laws} (key : LayoutView) (id other : ℕ) (v w : View) → 0 < v.portion → length w.turns ≡ 0 → IfSome w.work (λ _. v.work ≡ None) → Joins (RuledApart laws key) id v other w (joined v w) spent_view
joins_apart {laws} key id other v w alive idle one s ro me apart them = (ro.0, joins key id other v w alive idle one (parts_alone key s) ro.1 me apart them)

pub settled_apart : {laws : Laws} (key : LayoutView) (id : ℕ) (v : View) (ws : List ℕ) (xs : List (Option PartView)) → v.portion ≡ 4294967296 → length v.turns ≡ 0 → v.work ≡ None → Final (Seen (RuledApart laws key) id v) ws xs → Settled laws key v xs
settled_apart {laws} key id v ws xs all idle workless end =
    settled key id v (each_eighth (length key.parts) ws) xs all idle workless
    (parts_alone key end.0, (end.1.0.1, end.1.1), ap (each_eighth (length key.parts)) end.2, end.3, end.4)

-- what a step tells, at the word of the part
pub tried_word : {laws : Laws} (word : ℕ) (m : Sat) (r : ℕ) (n : Sat) → tried laws (step 0 (8 * word) 1 0 maybe.none) m r n → tried_at laws word m r n
tried_word {laws} word m r n = subst (λ (x : ℕ). tried_at laws x m r n) (eighth_word word)

pub looked_word : (word : ℕ) (m : Sat) (r : ℕ) (n : Sat) → looked (step 0 (8 * word) 0 0 maybe.none) m r n → looked_at word m r n
looked_word word m r n = subst (λ (x : ℕ). looked_at x m r n) (eighth_word word)

what_by : (word : ℕ) (m n : Sat) (r : ℕ) (odd : Bool) → (r % 2 == 1) ≡ odd → looked_at word m r n → MatchBool odd (n ≡ (with_miss m.0 word, m.1)) (n ≡ m)
what_by word m n r true is h = h.1 (eqb-true (r % 2) 1 is)
what_by word m n r false is h = (let ne = eqb-false (r % 2) 1 is in h.0 (omega (arith, ne)))

pub what_was_seen : (word : ℕ) (m n : Sat) (r : ℕ) → looked_at word m r n → MatchBool (r % 2 == 1) (n ≡ (with_miss m.0 word, m.1)) (n ≡ m)
what_was_seen word m n r h = what_by word m n r (r % 2 == 1) refl h

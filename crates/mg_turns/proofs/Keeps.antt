-- Each step keeps the rule.
use Rattle.mg_calc.specs.Rules.{Laws}
use Rattle.std.proofs.Common.{◌≡◌, ℕ, zero, suc, ◌+◌, ◌*◌, ◌/◌, ◌%◌, ◌<◌, ◌≢◌, eqb, cond, List, [], ◌∷◌, map, length, get_or, set, slice_get, sym, refl, ap, ◌∙◌, subst, inl, inr, ◌⊎◌, ⊎_elim, arith, Option, Some, bit_or, length-set, get_or-set_same, get_or-set_other}
use Rattle.std.proofs.lemmas.List.{length-map}
use Rattle.std.proofs.lemmas.Option.{none-some}
use Rattle.std.specs.Int.Bits.{or_step, or_zero_r}
use mathlib.Core.Logic.{dite}
use native.Mathlib.Decide.{ℕ_discrete}
use lib.Seq.{set-get_or}
use mathlib.Core.Option as maybe
use mathlib.Core.Option.{none, some, some-injective, some-ne-none}
use lib.ListN.{get_elem?}
use Rattle.atomic_table.specs.Table.{State, opening, keeps, takes, Allows, rest}
use Rattle.atomic_table.specs.Table as table
use Rattle.atomic_table.proofs.Lists.{at_snoc, at_set, set_here, set_else}
use Rattle.mg_node.specs.Views.{WorkView}
use Rattle.mg_turns.specs.Parts.{PartView, LayoutView, at, nodes_in, owner_in, tally_of, PartGrows, IsKind, Follows, AgreeParts, IsMissingIn, source_at, JoinedParts}
use Rattle.mg_turns.specs.Turns.{Turn, Sight}
use Rattle.mg_turns.specs.Rule.{total, view, doubled, word_of, Sights, Lies, is_turn_of, has_turn, first_view, InSlot, Noted, Shown, Ready, Orderly, Linked, Ruled}
use Rattle.mg_turns.specs.Code.Plays.{Sat, turning, with_miss, left, HasTurn, Returns, Alike, Plainly, Lays, ClaimsInTurn, BringsInTurn, GivesTurnBack, turn_of_word, tried_at, looked_at}
use Rattle.mg_turns.proofs.Sums.{total-set, term_le, terms_le}
use Rattle.mg_turns.proofs.Words.{nothing_past, no_word_of}
use Rattle.mg_turns.proofs.Grows.{part_same, sights_further}
use Rattle.mg_turns.proofs.Links.{same_slot, is_of_yes, is_of_no, has, links_take, links_miss, links_plain, links_lay, links_claim, links_bring}
use Rattle.mg_turns.specs.declared.view.View.{View}

-- a list of one view has only that view
only : (u : View) (j : ℕ) (v : View) → get_elem? (u ∷ []) j ≡ some v → u ≡ v
only u j v e = ⊎_elim (λ (x : get_elem? [] j ≡ some v). absurd (some-ne-none v (sym x))) (λ (t : u ≡ v). t) (at_snoc [] u v j e)

no_word : (parts : List PartView) (i : ℕ) → (get_or (map no_word_of parts) i 0) ≡ zero
no_word [] i = refl
no_word (p ∷ ps) zero = refl
no_word (p ∷ ps) (suc i) = no_word ps i

even_word : (parts : List PartView) (i : ℕ) → get_or (map no_word_of parts) i 0 % 2 ≡ 0
even_word parts i = ap (λ (n : ℕ). n % 2) (no_word parts i)

-- nothing came or was laid yet
first_word : (key : LayoutView) (i : ℕ) → word_of key i (at key i) ≡ 0
first_word key i = ap doubled (nothing_past (tally_of key i (at key i)))

pub follows_self : {laws : Laws} (key : LayoutView) (i : ℕ) → IsKind (owner_in key i) (at key i) → i < length key.parts → Follows laws key i (at key i)
follows_self {laws} key i kind h = record { kind = kind; lawful = λ job fits. fits.parts i h; grows = part_same (at key i); gave_up = refl; first = refl; collector = λ _. refl }

abbrev layout_of : LayoutView → List PartView → LayoutView
layout_of key parts = record { plan = key.plan; parts = parts }

lies_at : (key : LayoutView) (parts : List PartView) (i : ℕ) → i < length parts → get_elem? (map some (map Some parts)) i ≡ some (some (Some (at (layout_of key parts) i)))
lies_at key [] i h = absurd (omega arith)
lies_at key (p ∷ ps) zero h = refl
lies_at key (p ∷ ps) (suc i) h = lies_at key ps i (omega arith)

part_at : (key : LayoutView) (parts : List PartView) (i : ℕ) (p : PartView) → get_elem? (map some (map Some parts)) i ≡ some (some (Some p)) → p ≡ at (layout_of key parts) i
part_at key [] i p e = absurd (some-ne-none (some (Some p)) (sym e))
part_at key (q ∷ qs) zero p e = sym (same_slot q p e)
part_at key (q ∷ qs) (suc i) p e = part_at key qs i p e

begins : (key : LayoutView) (xs : List (Option PartView)) → xs ≡ map Some key.parts → (i : ℕ) (d : PartView) → Shown (map some xs) (first_view key ∷ []) i d → d ≡ at key i
begins key xs slots i d shown = ⊎_elim
    (λ (x : InSlot (map some xs) i d). part_at key key.parts i d (ap (λ (l : List (Option PartView)). get_elem? (map some l) i) (sym slots) ∙ x))
    (λ (x : Noted (first_view key ∷ []) i d). absurd (some-ne-none x.3 (sym (ap (λ (v : View). get_elem? v.turns x.1) (only (first_view key) x.0 x.2 x.4) ∙ x.5))))
    shown

no_first : (key : LayoutView) (j : ℕ) (v : View) (w : WorkView) → get_elem? (first_view key ∷ []) j ≡ some v → v.work ≡ Some w → ⊥
no_first key j v w e has = none-some w (ap (λ (x : View). x.work) (only (first_view key) j v e) ∙ has)

pub starts : {laws : Laws} (key : LayoutView) (ws : List ℕ) (xs : List (Option PartView)) → ws ≡ map no_word_of key.parts → xs ≡ map Some key.parts → Ready key → Ruled laws key (opening ws xs (first_view key))
starts {laws} key ws xs words slots ready = let long : length xs ≡ length key.parts = ap length slots ∙ length-map key.parts Some in let begin = begins key xs slots in (
  record {
    wide = ap length words ∙ (length-map key.parts no_word_of ∙ (sym long ∙ sym (length-map xs some)));
    long = length-map xs some ∙ long;
    few = ready.few;
    edges = ready.edges;
    keyed = λ j v e _. ap (λ (x : View). x.key) (sym (only (first_view key) j v e));
    whole = refl;
    spent = λ j v e _. ap (λ (x : View). length x.turns) (sym (only (first_view key) j v e));
    free = λ i h _. let less : i < length key.parts = omega (arith, h, length-map xs some, long) in let t = lies_at key key.parts i less in
        (at key i, ap (λ (l : List (Option PartView)). get_elem? (map some l) i) slots ∙ t, ap (λ (l : List ℕ). get_or l i 0) words ∙ (no_word key.parts i ∙ sym (first_word key i)), follows_self key i (ready.kinds i less) less);
    taken = λ i h odd. absurd (omega (arith, ap (λ (l : List ℕ). get_or l i 0 % 2) words, even_word key.parts i));
    turns = λ i h. sym (ap (λ (l : List ℕ). get_or l i 0 % 2) words ∙ even_word key.parts i);
    tallies = λ j k v t e h. absurd (some-ne-none t (sym (ap (λ (x : View). get_elem? x.turns k) (only (first_view key) j v e) ∙ h)));
    seen_free = λ i p h _ at-i j v e. subst (λ (x : View). Sights i p x.seen) (only (first_view key) j v e) tt;
    seen_held = λ j k v t e h. absurd (some-ne-none t (sym (ap (λ (x : View). get_elem? x.turns k) (only (first_view key) j v e) ∙ h)));
  },
  record {
    joined = λ k e p q at-k sp sq. subst (λ (x : PartView). JoinedParts x e q) (sym (begin (source_at key.plan e) p sp)) (subst (λ (x : PartView). JoinedParts (at key (source_at key.plan e)) e x) (sym (begin (2 * e.node) q sq)) (ready.joined k e at-k));
    matched = λ n p q less sp sq. subst (λ (x : PartView). AgreeParts x q) (sym (begin (2 * n + 1) p sp)) (subst (λ (x : PartView). AgreeParts (at key (2 * n + 1)) x) (sym (begin (2 * n) q sq)) (ready.matched n less));
    within = λ j v w e has. absurd (no_first key j v w e has);
    out = λ j v w p e has sp. absurd (no_first key j v w e has);
    apart = λ j k v u w x ne e f has has' same. absurd (no_first key j v w e has);
    complete = λ n k p less sp with_miss. absurd (ready.none n k less (subst (λ (x : PartView). IsMissingIn x k) (begin (2 * n + 1) p sp) with_miss));
    idle = λ j v e _. ap (λ (x : View). x.work) (sym (only (first_view key) j v e));
  },
)

or_even : (n : ℕ) → n % 2 ≡ 0 → bit_or n 1 ≡ n + 1
or_even n e = omega (arith, or_step n 1, or_zero_r (n / 2))

or_odd : (n : ℕ) → n % 2 ≡ 1 → bit_or n 1 ≡ n
or_odd n e = omega (arith, or_step n 1, or_zero_r (n / 2))

-- one view has seen no more of a word's part than another
abbrev Less : View → View → ℕ → Type 0
Less w v r = (p : PartView) → Sights r p v.seen → Sights r p w.seen

-- a step on the word i by the seat j
changed : {laws : Laws} (key : LayoutView) (s : State (Option PartView) View) (o : Orderly laws key s) (i j new : ℕ) (v w : View) (hs : List (maybe.Option (Option PartView))) → get_elem? s.views j ≡ some v → i < length s.homes
    → w.key ≡ v.key → w.portion ≡ v.portion → 0 < v.portion
    → has_turn i w + get_or s.words i 0 % 2 ≡ has_turn i v + new % 2
    → ((r : ℕ) → r ≢ i → has_turn r w ≡ has_turn r v)
    → ((m : ℕ) (t : Turn) → get_elem? w.turns m ≡ some t → (get_or (set s.words i new) t.word 0 / 2 ≡ t.tally) × ((l : ℕ) (u : View) → get_elem? (set s.views j w) l ≡ some u → Sights t.word t.note u.seen))
    → ((k : ℕ) (u : View) → k ≢ j → get_elem? s.views k ≡ some u → 0 < has_turn i u → (get_or s.words i 0 / 2 ≡ new / 2) × Less w v i)
    → ((r : ℕ) → r ≢ i → Less w v r)
    → ((p : PartView) → new % 2 ≡ 0 → get_elem? hs i ≡ some (some (Some p)) → (l : ℕ) (u : View) → get_elem? (set s.views j w) l ≡ some u → Sights i p u.seen)
    → length hs ≡ length s.homes → ((r : ℕ) → r ≢ i → get_elem? hs r ≡ get_elem? s.homes r)
    → (new % 2 ≡ 0 → Lies laws key hs i new) → (new % 2 ≡ 1 → get_elem? hs i ≡ some none)
    → Orderly laws key (record { words = set s.words i new; homes = hs; views = set s.views j w })
changed {laws} key s o i j new v w hs me near same-key same-portion alive parity others mine theirs sights seen same-length same-homes shelf out =
    let wide = o.wide in
    let ws : List ℕ = set s.words i new in
    let here : get_or ws i 0 ≡ new = get_or-set_same s.words i new 0 (omega arith) in
    let there : (r : ℕ) → r ≢ i → get_or ws r 0 ≡ get_or s.words r 0 = λ r ne. get_or-set_other s.words i r new 0 ne in
    let within : (r : ℕ) → r < length hs → r < length s.homes = λ r l. subst (λ (n : ℕ). r < n) same-length l in
    record {
      wide = length-set s.words i new ∙ (o.wide ∙ sym same-length);
      long = same-length ∙ o.long;
      few = o.few;
      edges = o.edges;
      keyed = λ k u e some-left. ⊎_elim
          (λ (q : (k ≡ j) × (w ≡ u)). ap (λ (x : View). x.key) (sym q.1) ∙ (same-key ∙ o.keyed j v me alive))
          (λ (q : (k ≢ j) × (get_elem? s.views k ≡ some u)). o.keyed k u q.1 some-left)
          (at_set s.views j k w u e);
      whole = omega (arith, total-set (λ (x : View). x.portion) s.views j v w me, o.whole);
      spent = λ k u e none-left. ⊎_elim
          (λ (q : (k ≡ j) × (w ≡ u)). absurd (omega (arith, ap (λ (x : View). x.portion) q.1)))
          (λ (q : (k ≢ j) × (get_elem? s.views k ≡ some u)). o.spent k u q.1 none-left)
          (at_set s.views j k w u e);
      turns = λ r l. dite (ℕ_discrete r i)
          (λ e. subst (λ (x : ℕ). total (has_turn x) (set s.views j w) ≡ get_or ws x 0 % 2) (sym e) (omega (arith, here, parity, total-set (has_turn i) s.views j v w me, o.turns i near)))
          (λ ne. omega (arith, there r ne, others r ne, total-set (has_turn r) s.views j v w me, o.turns r (within r l)));
      tallies = λ k m u t e h. ⊎_elim
          (λ (q : (k ≡ j) × (w ≡ u)). (mine m t (ap (λ (x : View). get_elem? x.turns m) q.1 ∙ h)).0)
          (λ (q : (k ≢ j) × (get_elem? s.views k ≡ some u)). dite (ℕ_discrete t.word i)
          (λ z. ap (λ (x : ℕ). get_or ws x 0 / 2) z ∙ (ap (λ (x : ℕ). x / 2) here ∙ (sym (theirs k u q.0 q.1 (has i m u t h z)).0 ∙ (ap (λ (x : ℕ). get_or s.words x 0 / 2) (sym z) ∙ o.tallies k m u t q.1 h))))
          (λ ne. ap (λ (x : ℕ). x / 2) (there t.word ne) ∙ o.tallies k m u t q.1 h))
          (at_set s.views j k w u e);
      free = λ r l even. dite (ℕ_discrete r i)
          (λ z. subst (λ (x : ℕ). Lies laws key hs x (get_or ws x 0)) (sym z) (subst (Lies laws key hs i) (sym here) (shelf (omega (arith, ap (λ (x : ℕ). get_or ws x 0 % 2) z, here)))))
          (λ ne. let t = o.free r (within r l) (omega (arith, there r ne)) in (t.0, same-homes r ne ∙ t.1, there r ne ∙ t.2, t.3));
      taken = λ r l odd. dite (ℕ_discrete r i)
          (λ z. subst (λ (x : ℕ). get_elem? hs x ≡ some none) (sym z) (out (omega (arith, ap (λ (x : ℕ). get_or ws x 0 % 2) z, here))))
          (λ ne. same-homes r ne ∙ o.taken r (within r l) (omega (arith, there r ne)));
      seen_free = λ r p l even at-r k u e. dite (ℕ_discrete r i)
          (λ z. subst (λ (x : ℕ). Sights x p u.seen) (sym z) (seen p (omega (arith, ap (λ (x : ℕ). get_or ws x 0 % 2) z, here)) (ap (λ (x : ℕ). get_elem? hs x) (sym z) ∙ at-r) k u e))
          (λ ne.
          let old : (m : ℕ) (x : View) → get_elem? s.views m ≡ some x → Sights r p x.seen = λ m x. o.seen_free r p (within r l) (omega (arith, there r ne)) (sym (same-homes r ne) ∙ at-r) m x in
          ⊎_elim
          (λ (q : (k ≡ j) × (w ≡ u)). subst (λ (x : View). Sights r p x.seen) q.1 (sights r ne p (old j v me)))
          (λ (q : (k ≢ j) × (get_elem? s.views k ≡ some u)). old k u q.1)
          (at_set s.views j k w u e));
      seen_held = λ k m u t e h l x f. ⊎_elim
          (λ (q : (k ≡ j) × (w ≡ u)). (mine m t (ap (λ (y : View). get_elem? y.turns m) q.1 ∙ h)).1 l x f)
          (λ (q : (k ≢ j) × (get_elem? s.views k ≡ some u)).
          let less : Less w v t.word = dite (ℕ_discrete t.word i)
          (λ z. subst (λ (y : ℕ). Less w v y) (sym z) (theirs k u q.0 q.1 (has i m u t h z)).1)
          (λ ne. sights t.word ne) in
          ⊎_elim
          (λ (a : (l ≡ j) × (w ≡ x)). subst (λ (y : View). Sights t.word t.note y.seen) a.1 (less t.note (o.seen_held k m u t q.1 h j v me)))
          (λ (a : (l ≢ j) × (get_elem? s.views l ≡ some x)). o.seen_held k m u t q.1 h l x a.1)
          (at_set s.views j l w x f))
          (at_set s.views j k w u e);
    }

-- what the rule says of the sights holds if the seat j has another view that saw no more
kept : (s : State (Option PartView) View) (j : ℕ) (v w : View) (r : ℕ) (b : PartView) → get_elem? s.views j ≡ some v → Less w v r → ((l : ℕ) (u : View) → get_elem? s.views l ≡ some u → Sights r b u.seen)
    → (l : ℕ) (u : View) → get_elem? (set s.views j w) l ≡ some u → Sights r b u.seen
kept s j v w r b me less old l u e = ⊎_elim
    (λ (a : (l ≡ j) × (w ≡ u)). subst (λ (y : View). Sights r b y.seen) a.1 (less b (old j v me)))
    (λ (a : (l ≢ j) × (get_elem? s.views l ≡ some u)). old l u a.1)
    (at_set s.views j l w u e)

abbrev Mine : State (Option PartView) View → ℕ → ℕ → ℕ → View → Turn → Type 0
Mine s i j new w t = (get_or (set s.words i new) t.word 0 / 2 ≡ t.tally) × ((l : ℕ) (u : View) → get_elem? (set s.views j w) l ≡ some u → Sights t.word t.note u.seen)

-- the turns of a seat that takes one more
mine : {laws : Laws} {key : LayoutView} (s : State (Option PartView) View) (o : Orderly laws key s) (i j new : ℕ) (v w : View) (t : Turn) → get_elem? s.views j ≡ some v → Mine s i j new w t → has_turn i v ≡ 0 → ((r : ℕ) → Less w v r)
    → (k : ℕ) (u : Turn) → get_elem? (t ∷ v.turns) k ≡ some u → Mine s i j new w u
mine {laws} s o i j new v w t me first free sights zero u at = subst (Mine s i j new w) (some-injective t u at) first
mine {laws} s o i j new v w t me first free sights (suc k) u at = dite (ℕ_discrete u.word i)
    (λ z. absurd (omega (arith, has i k v u at z)))
    (λ ne. (ap (λ (y : ℕ). y / 2) (get_or-set_other s.words i u.word new 0 ne) ∙ o.tallies j k v u me at, kept s j v w u.word u.note me (sights u.word) (o.seen_held j k v u me at)))

-- a step that leaves a word as it was, by a seat that may have counted a miss
unmoved : {laws : Laws} (key : LayoutView) (s : State (Option PartView) View) → Ruled laws key s → (i id misses : ℕ) (missed : Option ℕ) (v : View) → i < length s.homes → 0 < v.portion → get_elem? s.views id ≡ some v
    → Ruled laws key (record { words = set s.words i (get_or s.words i 0); homes = s.homes; views = set s.views id (view v.key v.portion misses v.splits missed v.turns v.work v.seen) })
unmoved {laws} key s ro i id misses missed v near alive me =
    let o : Orderly laws key s = ro.0 in let l : Linked key s.homes s.views = ro.1 in
    let x : ℕ = get_or s.words i 0 in
    let w : View = view v.key v.portion misses v.splits missed v.turns v.work v.seen in
    let same = set-get_or s.words i 0 in (
      changed key s o i id x v w s.homes me near refl refl alive refl (λ r _. refl)
          (λ k u at. (ap (λ (l : List ℕ). get_or l u.word 0 / 2) same ∙ o.tallies id k v u me at, kept s id v w u.word u.note me (λ q h. h) (o.seen_held id k v u me at)))
          (λ k u _ at some-turn. (refl, λ q h. h))
          (λ r _ q h. h)
          (λ q even at-i. kept s id v w i q me (λ p h. h) (o.seen_free i q near even at-i))
          refl (λ r _. refl) (λ even. o.free i near even) (λ odd. o.taken i near odd),
      links_miss key s.homes s.views l id v w me refl refl alive,
    )

pub looks : {laws : Laws} (key : LayoutView) (n id : ℕ) (m : Sat) (i : ℕ) → i < n → 0 < m.0.portion → Allows (Ruled laws key) n id m i (λ y. y) (looked_at i m)
looks {laws} key n id m i inside alive s ro long me _ =
    let near : i < length s.homes = omega arith in
    dite (ℕ_discrete (get_or s.words i 0 % 2) 0)
    (λ even. (m.0, keeps, tt, unmoved key s ro i id m.0.misses m.0.missed m.0 near alive me, (λ _. refl, λ odd. absurd (omega arith))))
    (λ ne. (with_miss m.0 i, keeps, tt, unmoved key s ro i id (m.0.misses + 1) (Some i) m.0 near alive me, (λ even. absurd (ne even), λ _. refl)))

pub tries : {laws : Laws} (key : LayoutView) (n id : ℕ) (m : Sat) (i : ℕ) → i < n → 0 < m.0.portion → has_turn i m.0 ≡ 0 → Allows (Ruled laws key) n id m i (λ y. bit_or y 1) (tried_at laws i m)
tries {laws} key n id m i inside alive free s ro long me _ =
    let o : Orderly laws key s = ro.0 in let l : Linked key s.homes s.views = ro.1 in
    let x : ℕ = get_or s.words i 0 in
    let near : i < length s.homes = omega arith in
    let wide = o.wide in
    let key-is : m.0.key ≡ key = o.keyed id m.0 me alive in
    dite (ℕ_discrete (x % 2) 0)
    (λ even.
    let lies = o.free i near even in
    let p : PartView = lies.0 in
    let t : Turn = turn_of_word m.0.key i p in
    let w : View = turning m.0 (t ∷ m.0.turns) in
    let hs : List (maybe.Option (Option PartView)) = set s.homes i none in
    let all = o.turns i near in
    let tally : x ≡ word_of m.0.key i p = lies.2 ∙ ap (λ (k : LayoutView). word_of k i p) (sym key-is) in
    let old = o.seen_free i p near even lies.1 in
    let below : (l : ℕ) (u : View) → get_elem? (set s.views id w) l ≡ some u → Sights i p u.seen = kept s id m.0 w i p me (λ q h. h) old in
    let here : get_or (set s.words i (x + 1)) i 0 ≡ x + 1 = get_or-set_same s.words i (x + 1) 0 (omega arith) in (
      w,
      takes i (Some p),
      lies.1,
      (
        subst (λ (y : ℕ). Orderly laws key (record { words = set s.words i y; homes = hs; views = set s.views id w })) (sym (or_even x even))
            (changed key s o i id (x + 1) m.0 w hs me near refl refl alive
            (omega (arith, is_of_yes i t refl))
            (λ r ne. omega (arith, is_of_no r t (λ e. ne (sym e))))
            (λ k u at. mine s o i id (x + 1) m.0 w t me (omega (arith, here, tally), below) free (λ r q h. h) k u at)
            (λ k u ne at some-turn. absurd (omega (arith, term_le (has_turn i) s.views k u at)))
            (λ r ne q h. h) (λ q e. absurd (omega arith))
            (length-set s.homes i none) (λ r ne. set_else s.homes i r none ne)
            (λ e. absurd (omega arith)) (λ _. set_here s.homes i none near)),
        links_take key s.homes s.views l id i m.0 w t p me near lies.1 refl refl refl refl alive,
      ),
      (
        λ _. (
          p,
          refl,
          record {
            follows = subst (λ (k : LayoutView). Follows laws k i p) (sym key-is) lies.3;
            sights = old id m.0 me;
            agree = λ r j u e less at-u is.
                l.matched r u.note p (subst (λ (k : LayoutView). r < nodes_in k) key-is less) (inr (id, j, m.0, u, me, at-u, is, refl))
                (inl (ap (λ (y : ℕ). get_elem? s.homes y) (sym e) ∙ lies.1));
            out = λ b had node. l.out id m.0 b p me had (inl (ap (λ (y : ℕ). get_elem? s.homes y) node ∙ lies.1));
            joined = λ k j e u at-k word-is at-u is.
                l.joined k e u.note p (ap (λ (f : LayoutView). slice_get f.plan.edges k) (sym key-is) ∙ at-k) (inr (id, j, m.0, u, me, at-u, is ∙ ap (λ (f : LayoutView). source_at f.plan e) key-is, refl))
                (inl (ap (λ (y : ℕ). get_elem? s.homes y) (sym word-is) ∙ lies.1));
          },
          tally,
        ),
        λ odd. absurd (omega arith),
      ),
    ))
    (λ ne.
    let odd : x % 2 ≡ 1 = omega arith in (
      with_miss m.0 i,
      keeps,
      tt,
      subst (λ (y : ℕ). Ruled laws key (record { words = set s.words i y; homes = s.homes; views = set s.views id (with_miss m.0 i) })) (sym (or_odd x odd))
          (unmoved key s ro i id (m.0.misses + 1) (Some i) m.0 near alive me),
      (λ even. absurd (ne even), λ _. refl),
    ))

alike_has : (ts us : List Turn) (r : ℕ) → Alike ts us → total (is_turn_of r) ts ≡ total (is_turn_of r) us
alike_has [] [] r a = refl
alike_has [] (u ∷ us) r a = absurd a
alike_has (t ∷ ts) [] r a = absurd a
alike_has (t ∷ ts) (u ∷ us) r a = let e : is_turn_of r t ≡ is_turn_of r u = ap {B = ℕ} (λ (x : ℕ). cond (eqb x r) 1 0) a.0 in omega (arith, e, alike_has ts us r a.3)

alike_at : (ts us : List Turn) → Alike ts us → (k : ℕ) (t : Turn) → get_elem? ts k ≡ some t → (u : Turn) × (get_elem? us k ≡ some u) × (t.word ≡ u.word) × (t.tally ≡ u.tally) × PartGrows u.note t.note
alike_at [] us a k t e = absurd (some-ne-none t (sym e))
alike_at (x ∷ xs) [] a k t e = absurd a
alike_at (x ∷ xs) (u ∷ us) a zero t e = let s = some-injective x t e in (u, refl, ap (λ (y : Turn). y.word) (sym s) ∙ a.0, ap (λ (y : Turn). y.tally) (sym s) ∙ a.1, subst (λ (y : Turn). PartGrows u.note y.note) s a.2)
alike_at (x ∷ xs) (u ∷ us) a (suc k) t e = alike_at xs us a.3 k t e

pub alike_same : (ts : List Turn) → Alike ts ts
alike_same [] = tt
alike_same (t ∷ ts) = (refl, refl, part_same t.note, alike_same ts)

-- if the seat saw one more part of the word i
less_else : (v w : View) (i : ℕ) (p : PartView) (r : ℕ) → w.seen ≡ record { word = i; part = p } ∷ v.seen → r ≢ i → Less w v r
less_else v w i p r e ne q h = subst (λ (l : List Sight). Sights r q l) (sym e) ((λ z. absurd (ne (sym z))), h)

pub gives : {laws : Laws} (key : LayoutView) (n id : ℕ) (v w : View) (i new : ℕ) (p : PartView) (more : List (ℕ × Option PartView)) → i < n → new ≡ word_of v.key i p → HasTurn v i p → Returns v i p w → GivesTurnBack v i p w → Follows laws v.key i p
    → Allows (Ruled laws key) n id (v, (i, Some p) ∷ more) i (λ _. new) (λ _ m. m ≡ (w, more))
gives {laws} key n id v w i new p more inside word has-turn returns kind follows s ro long me _ =
    let o : Orderly laws key s = ro.0 in let l : Linked key s.homes s.views = ro.1 in let wide = o.wide in
    let t : Turn = has-turn.0 in let mine = has-turn.2 in let is = has-turn.3 in
    let x : ℕ = get_or s.words i 0 in
    let near : i < length s.homes = omega arith in
    let all = o.turns i near in
    let part = term_le (has_turn i) s.views id v me in
    let yes = is_of_yes i t is in
    let alive : 0 < v.portion = dite (ℕ_discrete v.portion 0) (λ z. absurd (omega (arith, o.spent id v me z, ap length mine))) (λ nz. omega arith) in
    let key-is : v.key ≡ key = o.keyed id v me alive in
    let had : (r : ℕ) → has_turn r v ≡ is_turn_of r t + has_turn r w = λ r. ap (total (is_turn_of r)) mine ∙ omega (arith, alike_has w.turns (left v.turns) r returns.0, ap (λ (c : List Turn). total (is_turn_of r) (left c)) mine) in
    let none-left : has_turn i w ≡ 0 = omega (arith, had i) in
    let hs : List (maybe.Option (Option PartView)) = set s.homes i (some (Some p)) in
    let was : (k : ℕ) (u : View) → get_elem? s.views k ≡ some u → Sights i p u.seen = λ k u e.
    sights_further i t.note p u.seen (subst (λ (r : ℕ). Sights r t.note u.seen) is (o.seen_held id 0 v t me (ap (λ (c : List Turn). get_elem? c 0) mine) k u e)) has-turn.4 in
    let even : new % 2 ≡ 0 = omega arith in
    let same-length = length-set s.homes i (some (Some p)) in
    let o' : Orderly laws key (record { words = set s.words i new; homes = hs; views = set s.views id w }) = changed key s o i id new v w hs me near returns.1 returns.2 alive
    (omega (arith, had i))
    (λ r ne. omega (arith, had r, is_of_no r t (λ e. ne (sym e ∙ is))))
    (λ k u at-k. dite (ℕ_discrete u.word i)
    (λ z. absurd (omega (arith, has i k w u at-k z)))
    (λ ne. let b = alike_at w.turns (left v.turns) returns.0 k u at-k in
    let old : get_elem? v.turns (suc k) ≡ some b.0 = ap (λ (c : List Turn). get_elem? c (suc k)) mine ∙ (ap (λ (c : List Turn). get_elem? (left c) k) (sym mine) ∙ b.1) in (
      ap (λ (y : ℕ). y / 2) (get_or-set_other s.words i u.word new 0 ne) ∙ (ap (λ (y : ℕ). get_or s.words y 0 / 2) b.2 ∙ (o.tallies id (suc k) v b.0 me old ∙ sym b.3)),
      kept s id v w u.word u.note me (less_else v w i p u.word returns.3 ne)
          (λ y z f. sights_further u.word b.0.note u.note z.seen (subst (λ (r : ℕ). Sights r b.0.note z.seen) (sym b.2) (o.seen_held id (suc k) v b.0 me old y z f)) b.4),
    )))
    (λ k u ne at-k some-turn. absurd (omega (arith, had i, terms_le (has_turn i) s.views id k v u ne me at-k)))
    (λ r ne. less_else v w i p r returns.3 ne)
    (λ q _ at-i k u e.
    let same : p ≡ q = same_slot p q (sym (set_here s.homes i (some (Some p)) near) ∙ at-i) in
    subst (λ (y : PartView). Sights i y u.seen) same (⊎_elim
    (λ (a : (k ≡ id) × (w ≡ u)). subst (λ (y : View). Sights i p y.seen) a.1 (subst (λ (y : List Sight). Sights i p y) (sym returns.3) ((λ _. part_same p), was id v me)))
    (λ (a : (k ≢ id) × (get_elem? s.views k ≡ some u)). was k u a.1)
    (at_set s.views id k w u e)))
    same-length (λ r ne. set_else s.homes i r (some (Some p)) ne)
    (λ _. (p, set_here s.homes i (some (Some p)) near, word ∙ ap (λ (k : LayoutView). word_of k i p) key-is, subst (λ (k : LayoutView). Follows laws k i p) key-is follows))
    (λ odd. absurd (omega arith)) in
    let alive' : 0 < w.portion = omega (arith, returns.2) in (
      w,
      table.gives,
      tt,
      (
        o',
        ⊎_elim
            (λ (a : Plainly v i p w). links_plain key s o l id i new v w t has-turn.1 p me near mine is key-is alive' a)
            (λ (b : Lays v i p w ⊎ (ClaimsInTurn v i p w ⊎ BringsInTurn v i p w)). ⊎_elim
            (λ (a : Lays v i p w). links_lay key s o l id i new v w t has-turn.1 p me near mine is key-is alive' o' even (omega arith) (omega arith) a)
            (λ (d : ClaimsInTurn v i p w ⊎ BringsInTurn v i p w). ⊎_elim
            (λ (a : ClaimsInTurn v i p w). links_claim key s o l id i new v w t has-turn.1 p me near mine is key-is alive' o' even (omega arith) (omega arith) a)
            (λ (a : BringsInTurn v i p w). links_bring key s o l id i new v w t has-turn.1 p me near mine is key-is alive' o' even (omega arith) (omega arith) a)
            d)
            b)
            kind,
      ),
      refl,
    )

pub gives_at : {laws : Laws} (key : LayoutView) (n id : ℕ) (m : Sat) (w : View) (i new : ℕ) (p : PartView) → i < n → new ≡ word_of m.0.key i p → HasTurn m.0 i p → Returns m.0 i p w → GivesTurnBack m.0 i p w → Follows laws m.0.key i p → m.1 ≡ (i, Some p) ∷ rest m.1
    → Allows (Ruled laws key) n id m i (λ _. new) (λ _ m'. m' ≡ (w, rest m.1))
gives_at {laws} key n id m w i new p inside word has-turn returns kind follows e =
    subst (λ (l : List (ℕ × Option PartView)). Allows (Ruled laws key) n id (m.0, l) i (λ _. new) (λ _ m'. m' ≡ (w, rest l))) (sym e) (gives key n id m.0 w i new p (rest m.1) inside word has-turn returns kind follows)

-- Seats are split and joined, and the seat of the whole portion sees the last state.
use Rattle.std.proofs.Common.{◌≡◌, ℕ, zero, suc, ◌+◌, ◌<◌, ◌≢◌, List, [], ◌∷◌, ◌++◌, length, get_or, set, slice_get, sym, refl, ap, ◌∙◌, subst, inl, inr, ◌⊎◌, ⊎_elim, IfSome, ◌*◌, arith, Option, Some, None}
use Rattle.std.proofs.lemmas.Option.{none-some}
use Rattle.std.proofs.lemmas.List.{get_or_push, get_or_append_left}
use mathlib.Core.Logic.{dite}
use mathlib.Core.Option.{none, some, some-injective, some-ne-none}
use native.Mathlib.Decide.{ℕ_discrete}
use lib.ListN.{get_elem?}
use Rattle.atomic_table.specs.Table.{State, Splits, Joins, Final, Seen}
use Rattle.atomic_table.proofs.Lists.{at_snoc, at_set, set_else}
use Rattle.mg_node.specs.Views.{WorkView}
use Rattle.mg_turns.specs.Parts.{PartView, LayoutView, blank_part, at, nodes_in, Follows, AgreeParts, IsMissingIn, source_at, JoinedParts, EdgesFit}
use Rattle.mg_calc.specs.Rules.{Laws}
use Rattle.mg_calc.specs.declared.edge.Edge.{Edge}
use Rattle.mg_turns.specs.Turns.{Turn}
use Rattle.mg_turns.specs.Rule.{total, Sights, is_turn_of, has_turn, InSlot, Noted, Shown, WorksApart, Orderly, Linked, Ruled}
use Rattle.mg_turns.specs.Ends.{with_parts, Unshared}
use Rattle.mg_turns.proofs.Links.{SameWorks, same_part, linked_by, set_at, set_past}
use Rattle.mg_turns.proofs.Grows.{like_self, joins_self, sights_both}
use Rattle.mg_turns.specs.Code.Plays.{spent_view}
use Rattle.mg_turns.specs.Sights.{kept_after, handed, joined, either_work}
use Rattle.mg_turns.specs.declared.view.View.{View}
use Rattle.mg_turns.proofs.Sums.{total-set, total-append, terms_le}

abbrev St : Type 0
St = State (Option PartView) View

abbrev reseated : St → List View → St
reseated s vs = record { words = s.words; homes = s.homes; views = vs }

-- what the rule asks of one view: its turns stood in some view, and it saw no more than what no view had seen past
abbrev Fine : LayoutView → St → View → Type 0
Fine key s v = (0 < v.portion → v.key ≡ key) × (v.portion ≡ 0 → (length v.turns ≡ 0) × (v.work ≡ None))
    × ((k : ℕ) (t : Turn) → get_elem? v.turns k ≡ some t → (j : ℕ) × (m : ℕ) × (u : View) × (get_elem? s.views j ≡ some u) × (get_elem? u.turns m ≡ some t))
    × ((r : ℕ) (b : PartView) → ((j : ℕ) (u : View) → get_elem? s.views j ≡ some u → Sights r b u.seen) → Sights r b v.seen)

-- other views, with the same turns in all and the same portions and works
replaced : {laws : Laws} (key : LayoutView) (s : St) → Ruled laws key s → (vs : List View)
    → ((i : ℕ) → total (has_turn i) vs ≡ total (has_turn i) s.views)
    → total (λ (v : View). v.portion) vs ≡ 4294967296
    → SameWorks s.views vs
    → ((j : ℕ) (v : View) → get_elem? vs j ≡ some v → Fine key s v)
    → Ruled laws key (reseated s vs)
replaced {laws} key s ro vs turns whole works each = let o : Orderly laws key s = ro.0 in (
  record {
    wide = o.wide;
    long = o.long;
    few = o.few;
    edges = o.edges;
    keyed = λ j v e. (each j v e).0;
    whole = whole;
    spent = λ j v e z. ((each j v e).1 z).0;
    turns = λ i h. turns i ∙ o.turns i h;
    tallies = λ j k v t e at-k. let f = (each j v e).2 k t at-k in o.tallies f.0 f.1 f.2 t f.3 f.4;
    free = o.free;
    taken = o.taken;
    seen_free = λ i p h even at-i j v e. (each j v e).3 i p (o.seen_free i p h even at-i);
    seen_held = λ j k v t e at-k l u f. let h = (each j v e).2 k t at-k in (each l u f).3 t.word t.note (o.seen_held h.0 h.1 h.2 t h.3 h.4);
  },
  linked_by key s.homes s.homes s.views vs ro.1
      (λ r d shown. (
        d,
        ⊎_elim
            (λ (x : InSlot s.homes r d). inl x)
            (λ (x : Noted vs r d). let f = (each x.0 x.2 x.4).2 x.1 x.3 x.5 in inr (f.0, f.1, f.2, x.3, f.3, f.4, x.6, x.7))
            shown,
        like_self d,
      ))
      (λ r d shown. (
        d,
        ⊎_elim
            (λ (x : InSlot s.homes r d). inl x)
            (λ (x : Noted vs r d). let f = (each x.0 x.2 x.4).2 x.1 x.3 x.5 in inr (f.0, f.1, f.2, x.3, f.3, f.4, x.6, x.7))
            shown,
        joins_self d,
      ))
      works
      (λ j v e z. ((each j v e).1 z).1),
)

-- what the rule says of one view
fine : {laws : Laws} (key : LayoutView) (s : St) (ro : Ruled laws key s) (j : ℕ) (v : View) → get_elem? s.views j ≡ some v → Fine key s v
fine {laws} key s ro j v e = let o : Orderly laws key s = ro.0 in let l : Linked key s.homes s.views = ro.1 in (o.keyed j v e, (λ z. (o.spent j v e z, l.idle j v e z)), (λ k t at-k. (j, k, v, e, at-k)), λ r b h. h j v e)

none_of : (i : ℕ) (l : List Turn) → length l ≡ 0 → total (is_turn_of i) l ≡ 0
none_of i [] h = refl
none_of i (x ∷ xs) h = absurd (omega arith)

pub has_none : (i : ℕ) (v : View) → length v.turns ≡ 0 → has_turn i v ≡ 0
has_none i v = none_of i v.turns

at_left : (l : List View) (b : View) (k : ℕ) (u : View) → get_elem? l k ≡ some u → get_elem? (l ++ b ∷ []) k ≡ some u
at_left [] b k u e = absurd (some-ne-none u (sym e))
at_left (x ∷ xs) b zero u e = e
at_left (x ∷ xs) b (suc k) u e = at_left xs b k u e

-- the views after a split
module _ (views : List View) (id : ℕ) (v a b : View) (me : get_elem? views id ≡ some v) (same : a.work ≡ v.work) (none : b.work ≡ None) where
  split_there : (j : ℕ) (u : View) (x : WorkView) → get_elem? (set views id a ++ b ∷ []) j ≡ some u → u.work ≡ Some x → (y : View) × (get_elem? views j ≡ some y) × (y.work ≡ Some x)
  split_there j u x e had = ⊎_elim
      (λ (h : get_elem? (set views id a) j ≡ some u). ⊎_elim
      (λ (q : (j ≡ id) × (a ≡ u)). (v, ap (λ (i : ℕ). get_elem? views i) q.0 ∙ me, sym same ∙ (ap (λ (z : View). z.work) q.1 ∙ had)))
      (λ (q : (j ≢ id) × (get_elem? views j ≡ some u)). (u, q.1, had))
      (at_set views id j a u h))
      (λ (h : b ≡ u). absurd (none-some x (sym none ∙ (ap (λ (z : View). z.work) h ∙ had))))
      (at_snoc (set views id a) b u j e)

  split_works : WorksApart views → SameWorks views (set views id a ++ b ∷ [])
  split_works apart = record {
    origin = λ j u x e had. let o = split_there j u x e had in (j, o.0, o.1, o.2);
    apart = λ j k u u' x x' ne e e' had had'. let o = split_there j u x e had in let o' = split_there k u' x' e' had' in apart j k o.0 o'.0 x x' ne o.1 o'.1 o.2 o'.2;
    kept = λ n k h. dite (ℕ_discrete h.0 id)
        (λ z.
        let is : h.1 ≡ v = some-injective h.1 v (sym h.3 ∙ (ap (λ (i : ℕ). get_elem? views i) z ∙ me)) in
        (id, a, h.2, at_left (set views id a) b id a (set_at views id v a me), same ∙ (ap (λ (x : View). x.work) (sym is) ∙ h.4), h.5, h.6))
        (λ ne. (h.0, h.1, h.2, at_left (set views id a) b h.0 h.1 (set_past views id h.0 a h.1 ne h.3), h.4, h.5, h.6));
  }

pub splits : {laws : Laws} (key : LayoutView) (id n : ℕ) (v : View) → 0 < n → n < v.portion → Splits (Ruled laws key) id v (kept_after n v) (handed n v)
splits {laws} key id n v some-part less s ro me =
    let o : Orderly laws key s = ro.0 in let l : Linked key s.homes s.views = ro.1 in
    let a : View = kept_after n v in let b : View = handed n v in let vs : List View = set s.views id a in
    let mine = fine key s ro id v me in
    replaced key s ro (vs ++ b ∷ [])
    (λ i. omega (arith, total-append (has_turn i) vs (b ∷ []), total-set (has_turn i) s.views id v a me))
    (omega (arith, total-append (λ (x : View). x.portion) vs (b ∷ []), total-set (λ (x : View). x.portion) s.views id v a me, o.whole))
    (split_works s.views id v a b me refl refl l.apart)
    (λ j u e. ⊎_elim
    (λ (x : get_elem? vs j ≡ some u). ⊎_elim
    (λ (q : (j ≡ id) × (a ≡ u)). subst (Fine key s) q.1 ((λ _. mine.0 (omega arith)), (λ z. absurd (omega arith)), mine.2, mine.3))
    (λ (q : (j ≢ id) × (get_elem? s.views j ≡ some u)). fine key s ro j u q.1)
    (at_set s.views id j a u x))
    (λ (x : b ≡ u). subst (Fine key s) x ((λ _. mine.0 (omega arith)), (λ _. (refl, refl)), (λ k t at. absurd (some-ne-none t (sym at))), mine.3))
    (at_snoc vs b u j e))

either_some : (a b : Option WorkView) (x : WorkView) → either_work a b ≡ Some x → (a ≡ Some x) ⊎ (b ≡ Some x)
either_some None b x e = inr e
either_some (Some a) b x e = inl e

either_first : (a b : Option WorkView) (x : WorkView) → a ≡ Some x → either_work a b ≡ Some x
either_first None b x e = absurd (none-some x e)
either_first (Some a) b x e = e

either_second : (a b : Option WorkView) (x : WorkView) → a ≡ None → b ≡ Some x → either_work a b ≡ Some x
either_second None b x free e = e
either_second (Some a) b x free e = absurd (none-some a (sym free))

if_some : (b : Option WorkView) (x : WorkView) (P : Type 0) → b ≡ Some x → IfSome b (λ _. P) → P
if_some None x P e h = absurd (none-some x e)
if_some (Some y) x P e h = h

-- the views after a join
module _ (views : List View) (id other : ℕ) (v w a : View) (me : get_elem? views id ≡ some v) (them : get_elem? views other ≡ some w) (ne : other ≢ id) (either : a.work ≡ either_work v.work w.work) (one : IfSome w.work (λ _. v.work ≡ None)) where
  abbrev Joined : List View
  Joined = set (set views id a) other spent_view

  abbrev Origin : ℕ → WorkView → Type 0
  Origin j x = (k : ℕ) × (y : View) × (get_elem? views k ≡ some y) × (y.work ≡ Some x) × ((k ≡ j) ⊎ ((k ≡ other) × (j ≡ id))) × (j ≢ other)

  join_there : (j : ℕ) (u : View) (x : WorkView) → get_elem? Joined j ≡ some u → u.work ≡ Some x → Origin j x
  join_there j u x e had = ⊎_elim
      (λ (q : (j ≡ other) × (spent_view ≡ u)). absurd (none-some x (ap (λ (z : View). z.work) q.1 ∙ had)))
      (λ (q : (j ≢ other) × (get_elem? (set views id a) j ≡ some u)). ⊎_elim
      (λ (r : (j ≡ id) × (a ≡ u)). ⊎_elim
      (λ (first : v.work ≡ Some x). (j, v, ap (λ (i : ℕ). get_elem? views i) r.0 ∙ me, first, inl refl, q.0))
      (λ (second : w.work ≡ Some x). (other, w, them, second, inr (refl, r.0), q.0))
      (either_some v.work w.work x (sym either ∙ (ap (λ (z : View). z.work) r.1 ∙ had))))
      (λ (r : (j ≢ id) × (get_elem? views j ≡ some u)). (j, u, r.1, had, inl refl, q.0))
      (at_set views id j a u q.1))
      (at_set (set views id a) other j spent_view u e)

  two_apart : (j k : ℕ) (x y : WorkView) → j ≢ k → (o : Origin j x) → (p : Origin k y) → o.0 ≢ p.0
  two_apart j k x y apart o p e = ⊎_elim
      (λ (z : o.0 ≡ j). ⊎_elim
      (λ (z' : p.0 ≡ k). apart (sym z ∙ (e ∙ z')))
      (λ (z' : (p.0 ≡ other) × (k ≡ id)). o.5 (sym z ∙ (e ∙ z'.0)))
      p.4)
      (λ (z : (o.0 ≡ other) × (j ≡ id)). ⊎_elim
      (λ (z' : p.0 ≡ k). p.5 (sym z' ∙ (sym e ∙ z.0)))
      (λ (z' : (p.0 ≡ other) × (k ≡ id)). apart (z.1 ∙ sym z'.1))
      p.4)
      o.4

  mine_now : get_elem? Joined id ≡ some a
  mine_now = set_past (set views id a) other id spent_view a (λ e. ne (sym e)) (set_at views id v a me)

  join_works : WorksApart views → SameWorks views Joined
  join_works apart = record {
    origin = λ j u x e had. let o = join_there j u x e had in (o.0, o.1, o.2, o.3);
    apart = λ j k u u' x x' differ e e' had had'. let o = join_there j u x e had in let p = join_there k u' x' e' had' in apart o.0 p.0 o.1 p.1 x x' (two_apart j k x x' differ o p) o.2 p.2 o.3 p.3;
    kept = λ n k h. dite (ℕ_discrete h.0 id)
        (λ z.
        let is : h.1 ≡ v = some-injective h.1 v (sym h.3 ∙ (ap (λ (i : ℕ). get_elem? views i) z ∙ me)) in
        (id, a, h.2, mine_now, either ∙ either_first v.work w.work h.2 (ap (λ (x : View). x.work) (sym is) ∙ h.4), h.5, h.6))
        (λ not-id. dite (ℕ_discrete h.0 other)
        (λ z.
        let is : h.1 ≡ w = some-injective h.1 w (sym h.3 ∙ (ap (λ (i : ℕ). get_elem? views i) z ∙ them)) in
        let has : w.work ≡ Some h.2 = ap (λ (x : View). x.work) (sym is) ∙ h.4 in
        (id, a, h.2, mine_now, either ∙ either_second v.work w.work h.2 (if_some w.work h.2 (v.work ≡ None) has one) has, h.5, h.6))
        (λ not-other. (h.0, h.1, h.2, set_past (set views id a) other h.0 spent_view h.1 not-other (set_past views id h.0 a h.1 not-id h.3), h.4, h.5, h.6)));
  }

pub joins : {laws : Laws} (key : LayoutView) (id other : ℕ) (v w : View) → 0 < v.portion → length w.turns ≡ 0 → IfSome w.work (λ _. v.work ≡ None) → Joins (Ruled laws key) id v other w (joined v w) spent_view
joins {laws} key id other v w alive idle one s ro me apart them =
    let o : Orderly laws key s = ro.0 in let l : Linked key s.homes s.views = ro.1 in
    let a : View = joined v w in let vs : List View = set s.views id a in
    let mine = fine key s ro id v me in
    let there : get_elem? s.views other ≡ some w = sym (set_else s.views id other a apart) ∙ them in
    let theirs = fine key s ro other w there in
    let both : (g : View → ℕ) → total g (set vs other spent_view) + g w + g v ≡ total g s.views + g a + g spent_view = λ g. omega (arith, total-set g s.views id v a me, total-set g vs other w spent_view them) in
    replaced key s ro (set vs other spent_view)
    (λ i. omega (arith, both (has_turn i), has_none i w idle))
    (omega (arith, both (λ (x : View). x.portion), o.whole))
    (join_works s.views id other v w a me there apart refl one l.apart)
    (λ j u e. ⊎_elim
    (λ (q : (j ≡ other) × (spent_view ≡ u)). subst (Fine key s) q.1 ((λ h. absurd (omega arith)), (λ _. (refl, refl)), (λ k t at. absurd (some-ne-none t (sym at))), λ r b h. tt))
    (λ (q : (j ≢ other) × (get_elem? vs j ≡ some u)). ⊎_elim
    (λ (r : (j ≡ id) × (a ≡ u)). subst (Fine key s) r.1 ((λ _. mine.0 alive), (λ z. absurd (omega arith)), mine.2, λ r b h. sights_both r b v.seen w.seen (mine.3 r b h) (theirs.3 r b h)))
    (λ (r : (j ≢ id) × (get_elem? s.views j ≡ some u)). fine key s ro j u r.1)
    (at_set s.views id j a u q.1))
    (at_set vs other j spent_view u e))

none_held : (f : View → ℕ) (vs : List View) → ((j : ℕ) (v : View) → get_elem? vs j ≡ some v → f v ≡ 0) → total f vs ≡ 0
none_held f [] h = refl
none_held f (v ∷ vs) h = omega (arith, h zero v refl, none_held f vs (λ j u e. h (suc j) u e))

abbrev pub Home : Laws → LayoutView → List (Option PartView) → ℕ → Type 0
Home laws key xs i = (p : PartView) × (get_elem? xs i ≡ some (Some p)) × Follows laws key i p

abbrev pub Found : List (Option PartView) → ℕ → PartView → Type 0
Found xs i p = get_elem? xs i ≡ some (Some p)

-- the seat of the whole portion has no turn and no work, so each part is in its slot
pub record Settled (laws : Laws) (key : LayoutView) (v : View) (xs : List (Option PartView)) : Type 0 where
  pub count : length xs ≡ length key.parts
  pub homes : (i : ℕ) → i < length key.parts → Home laws key xs i
  pub sights : (i : ℕ) (p : PartView) → i < length key.parts → Found xs i p → Sights i p v.seen
  pub few : 2 * nodes_in key < length key.parts
  pub edges : EdgesFit key
  pub matched : (n : ℕ) (p q : PartView) → n < nodes_in key → Found xs (2 * n + 1) p → Found xs (2 * n) q → AgreeParts p q
  pub none : (n number : ℕ) (p : PartView) → n < nodes_in key → Found xs (2 * n + 1) p → IsMissingIn p number → ⊥
  pub joined : (k : ℕ) (e : Edge) (p q : PartView) → slice_get key.plan.edges k ≡ Some e → Found xs (source_at key.plan e) p → Found xs (2 * e.node) q → JoinedParts p e q

pub settled : {laws : Laws} (key : LayoutView) (id : ℕ) (v : View) (ws : List ℕ) (xs : List (Option PartView)) → v.portion ≡ 4294967296 → length v.turns ≡ 0 → v.work ≡ None → Final (Seen (Ruled laws key) id v) ws xs → Settled laws key v xs
settled {laws} key id v ws xs all idle workless end =
    let s : St = end.0 in let o : Orderly laws key s = end.1.0.0 in let l : Linked key s.homes s.views = end.1.0.1 in let me : get_elem? s.views id ≡ some v = end.1.1 in
    let long = o.long in let same = end.3 in
    let mine : (j : ℕ) (u : View) → get_elem? s.views j ≡ some u → j ≡ id → u ≡ v = λ j u e z. some-injective u v (sym e ∙ (ap (λ (k : ℕ). get_elem? s.views k) z ∙ me)) in
    let spent : (j : ℕ) (u : View) → get_elem? s.views j ≡ some u → j ≢ id → u.portion ≡ 0 = λ j u e ne. omega (arith, terms_le (λ (x : View). x.portion) s.views id j v u ne me e, o.whole) in
    let empty : (i j : ℕ) (u : View) → get_elem? s.views j ≡ some u → has_turn i u ≡ 0 = λ i j u e. dite (ℕ_discrete j id)
    (λ z. has_none i u (ap (λ (x : View). length x.turns) (mine j u e z) ∙ idle))
    (λ ne. has_none i u (o.spent j u e (spent j u e ne))) in
    let no-work : (j : ℕ) (u : View) → get_elem? s.views j ≡ some u → u.work ≡ None = λ j u e. dite (ℕ_discrete j id)
    (λ z. ap (λ (x : View). x.work) (mine j u e z) ∙ workless)
    (λ ne. l.idle j u e (spent j u e ne)) in
    let back : (i : ℕ) → i < length key.parts → (p : PartView) × (get_elem? s.homes i ≡ some (some (Some p))) × Follows laws key i p = λ i h.
    let near : i < length s.homes = omega arith in
    let t = o.free i near (omega (arith, o.turns i near, none_held (has_turn i) s.views (empty i))) in (t.0, t.1, t.3) in
    let shown : (i : ℕ) → i < length key.parts → (p : PartView) → get_elem? xs i ≡ some (Some p) → Shown s.homes s.views i p = λ i h p e.
    let b = back i h in let is : b.0 ≡ p = same_part b.0 p (some-injective (Some b.0) (Some p) (sym (end.4 i (Some b.0) b.1) ∙ e)) in
    inl (subst (λ (x : PartView). get_elem? s.homes i ≡ some (some (Some x))) is b.1) in
    record {
      count = omega arith;
      homes = λ i h. let b = back i h in (b.0, end.4 i (Some b.0) b.1, b.2);
      sights = λ i p h e. let b = back i h in let is : b.0 ≡ p = same_part b.0 p (some-injective (Some b.0) (Some p) (sym (end.4 i (Some b.0) b.1) ∙ e)) in
          subst (λ (x : PartView). Sights i x v.seen) is (o.seen_free i b.0 (omega (arith, h, long)) (omega (arith, o.turns i (omega (arith, h, long)), none_held (has_turn i) s.views (empty i))) b.1 id v me);
      few = o.few;
      edges = o.edges;
      matched = λ n p q less e f. l.matched n p q less (shown (2 * n + 1) (omega (arith, o.few, less)) p e) (shown (2 * n) (omega (arith, o.few, less)) q f);
      joined = λ k e p q at-k f f'. l.joined k e p q at-k (shown (source_at key.plan e) (o.edges.sources k e at-k).within p f) (shown (2 * e.node) (omega (arith, o.few, o.edges.consumers k e at-k)) q f');
      none = λ n number p less e missing. let w = l.complete n number p less (shown (2 * n + 1) (omega (arith, o.few, less)) p e) missing in none-some w.2 (sym (no-work w.0 w.1 w.3) ∙ w.4);
    }

pub not_none : {laws : Laws} (key : LayoutView) (xs xs' : List (Option PartView)) (i : ℕ) (r : Option PartView) → Home laws key xs i → xs' ≡ xs → get_elem? xs' i ≡ some r → r ≡ None → ⊥
not_none {laws} key xs xs' i r home same at-i e =
    let is : Some home.0 ≡ r = some-injective (Some home.0) r (sym home.1 ∙ (ap (λ (l : List (Option PartView)). get_elem? l i) (sym same) ∙ at-i)) in none-some home.0 (sym (is ∙ e))

-- the parts that are out of their slots, with one more of them
pub one_more : (key : LayoutView) (ps ps' : List PartView) (i : ℕ) (xs xs' : List (Option PartView)) (r : Option PartView) (p : PartView) → xs' ≡ xs → get_elem? xs' i ≡ some r → r ≡ Some p → ps' ≡ ps ++ p ∷ [] → length ps ≡ i
    → ((k : ℕ) → k < i → get_elem? xs k ≡ some (Some (at (with_parts key ps) k))) → (k : ℕ) → k < i + 1 → get_elem? xs k ≡ some (Some (at (with_parts key ps') k))
one_more key ps ps' i xs xs' r p same at-i is after long before k h =
    dite (ℕ_discrete k i)
    (λ z. let here : p ≡ at (with_parts key ps') i = sym (ap (λ (l : List PartView). get_or l i blank_part) after ∙ get_or_push ps p blank_part i long) in
    subst (λ (n : ℕ). get_elem? xs n ≡ some (Some (at (with_parts key ps') n))) (sym z) (ap (λ (l : List (Option PartView)). get_elem? l i) (sym same) ∙ (at-i ∙ ap some (is ∙ ap (λ (x : PartView). Some x) here))))
    (λ ne. before k (omega arith) ∙ ap (λ (x : PartView). some (Some x)) (sym (ap (λ (l : List PartView). get_or l k blank_part) after ∙ get_or_append_left ps (p ∷ []) blank_part k (omega arith))))

pub nil : {A : Type 0} (l : List A) → length l ≡ 0 → l ≡ []
nil [] h = refl
nil (x ∷ xs) h = absurd (omega arith)

-- the parts that were taken out are those that were shared, with what became of them
pub came_back : {laws : Laws} (key : LayoutView) (v : View) (xs : List (Option PartView)) (ps : List PartView) → Settled laws key v xs → length ps ≡ length key.parts
    → ((k : ℕ) → k < length key.parts → get_elem? xs k ≡ some (Some (at (with_parts key ps) k))) → Unshared laws key v ps
came_back {laws} key v xs ps h long each = record {
  count = long;
  follows = λ i less. let a = h.homes i less in subst (Follows laws key i) (same_part a.0 (at (with_parts key ps) i) (some-injective (Some a.0) (Some (at (with_parts key ps) i)) (sym a.1 ∙ each i less))) a.2;
  sights = λ i less. h.sights i (at (with_parts key ps) i) less (each i less);
  matched = λ n less. h.matched n (at (with_parts key ps) (2 * n + 1)) (at (with_parts key ps) (2 * n)) less (each (2 * n + 1) (omega (arith, h.few, less))) (each (2 * n) (omega (arith, h.few, less)));
  joined = λ k e at-k. h.joined k e (at (with_parts key ps) (source_at key.plan e)) (at (with_parts key ps) (2 * e.node)) at-k (each (source_at key.plan e) (h.edges.sources k e at-k).within) (each (2 * e.node) (omega (arith, h.few, h.edges.consumers k e at-k)));
  none = λ n number less. h.none n number (at (with_parts key ps) (2 * n + 1)) less (each (2 * n + 1) (omega (arith, h.few, less)));
}

-- Facts between parts in different places.
use Rattle.std.proofs.Common.{◌≡◌, ℕ, zero, suc, ◌+◌, ◌*◌, ◌%◌, ◌<◌, ◌≢◌, ◌⊎◌, cond, List, [], ◌∷◌, length, get_or, set, slice_get, sym, refl, ap, ◌∙◌, subst, inl, inr, ⊎_elim, arith, Option, Some, None, get_or-set_same, length-set, eq-eqb, ne_eqb}
use Rattle.std.proofs.lemmas.Option.{none-some}
use mathlib.Core.Logic.{dite}
use mathlib.Core.Option.{none, some, some-injective, some-ne-none}
use native.Mathlib.Decide.{ℕ_discrete}
use lib.ListN.{get_elem?}
use Rattle.atomic_table.specs.Table.{State}
use Rattle.atomic_table.proofs.Lists.{at_set, set_here, set_else}
use Rattle.mg_node.specs.Views.{WorkView}
use Rattle.mg_turns.specs.Parts.{PartView, LayoutView, nodes_in, AgreeParts, IsOutIn, IsMissingIn, source_at, JoinedParts}
use Rattle.mg_calc.specs.Rules.{Laws}
use Rattle.mg_calc.specs.declared.edge.Edge.{Edge}
use Rattle.mg_turns.specs.Turns.{Turn}
use Rattle.mg_turns.specs.Rule.{is_turn_of, has_turn, Homes, InSlot, Noted, Shown, HasWork, Linked, Orderly}
use Rattle.mg_turns.specs.Code.Plays.{Like, Joins, Back, Goes, left, note_or, Plainly, Lays, ClaimsInTurn, BringsInTurn}
use Rattle.mg_turns.specs.declared.view.View.{View}
use Rattle.mg_turns.proofs.Sums.{term_le, terms_le}
use Rattle.mg_turns.proofs.Grows.{like_self, joins_self}
use Rattle.mg_turns.proofs.Words.{source_apart}

abbrev St : Type 0
St = State (Option PartView) View

abbrev WasBy : (PartView → PartView → Type 0) → Homes → List View → ℕ → PartView → Type 0
WasBy R homes views r d = (e : PartView) × Shown homes views r e × R e d

abbrev Was : Homes → List View → ℕ → PartView → Type 0
Was homes views r d = WasBy Like homes views r d

abbrev pub part_or : PartView → Option PartView → PartView
part_or p None = p
part_or p (Some q) = q

pub same_part : (p q : PartView) → Some p ≡ Some q → p ≡ q
same_part p q e = ap (part_or p) e

pub same_slot : (p q : PartView) → some (some (Some p)) ≡ some (some (Some q)) → p ≡ q
same_slot p q e = same_part p q (some-injective (Some p) (Some q) (some-injective (some (Some p)) (some (Some q)) e))

abbrev work_or : WorkView → Option WorkView → WorkView
work_or w None = w
work_or w (Some x) = x

pub same_work : (w x : WorkView) → Some w ≡ Some x → w ≡ x
same_work w x e = ap (work_or w) e

abbrev edge_or : Edge → Option Edge → Edge
edge_or e None = e
edge_or e (Some x) = x

some_edge : (e x : Edge) → Some e ≡ Some x → e ≡ x
some_edge e x is = ap (edge_or e) is

pub is_of_yes : (i : ℕ) (t : Turn) → t.word ≡ i → is_turn_of i t ≡ 1
is_of_yes i t e = ap (λ b. cond b 1 0) (eq-eqb t.word i e)

pub is_of_no : (i : ℕ) (t : Turn) → t.word ≢ i → is_turn_of i t ≡ 0
is_of_no i t n = ap (λ b. cond b 1 0) (ne_eqb t.word i n)

pub has : (i k : ℕ) (v : View) (t : Turn) → get_elem? v.turns k ≡ some t → t.word ≡ i → 0 < has_turn i v
has i k v t at e = omega (arith, is_of_yes i t e, term_le (is_turn_of i) v.turns k t at)

-- what is shown after a step of the seat j was shown before
pub carried : (R : PartView → PartView → Type 0) → ((d : PartView) → R d d) → (homes homes' : Homes) (views : List View) (j : ℕ) (w : View) (r : ℕ)
    → ((p : PartView) → get_elem? homes' r ≡ some (some (Some p)) → WasBy R homes views r p)
    → ((k : ℕ) (t : Turn) → get_elem? w.turns k ≡ some t → t.word ≡ r → WasBy R homes views r t.note)
    → (d : PartView) → Shown homes' (set views j w) r d → WasBy R homes views r d
carried R self homes homes' views j w r at-home own d shown = ⊎_elim
    (λ (x : InSlot homes' r d). at-home d x)
    (λ (x : Noted (set views j w) r d). ⊎_elim
    (λ (q : (x.0 ≡ j) × (w ≡ x.2)). subst (WasBy R homes views r) (sym x.7) (own x.1 x.3 (ap (λ (z : View). get_elem? z.turns x.1) q.1 ∙ x.5) x.6))
    (λ (q : (x.0 ≢ j) × (get_elem? views x.0 ≡ some x.2)). (d, inr (x.0, x.1, x.2, x.3, q.1, x.5, x.6, x.7), self d))
    (at_set views j x.0 w x.2 x.4))
    shown

-- the works of views are those of others
pub record SameWorks (views views' : List View) : Type 0 where
  pub origin : (j : ℕ) (v : View) (w : WorkView) → get_elem? views' j ≡ some v → v.work ≡ Some w → (k : ℕ) × (u : View) × (get_elem? views k ≡ some u) × (u.work ≡ Some w)
  pub apart : (j k : ℕ) (v u : View) (w x : WorkView) → j ≢ k → get_elem? views' j ≡ some v → get_elem? views' k ≡ some u → v.work ≡ Some w → u.work ≡ Some x → w.node ≡ x.node → w.number ≢ x.number
  pub kept : (n k : ℕ) → HasWork views n k → HasWork views' n k

pub linked_by : (key : LayoutView) (homes homes' : Homes) (views views' : List View) → Linked key homes views
    → ((r : ℕ) (d : PartView) → Shown homes' views' r d → Was homes views r d)
    → ((r : ℕ) (d : PartView) → Shown homes' views' r d → WasBy Joins homes views r d)
    → SameWorks views views'
    → ((j : ℕ) (v : View) → get_elem? views' j ≡ some v → v.portion ≡ 0 → v.work ≡ None)
    → Linked key homes' views'
linked_by key homes homes' views views' l was joins works idle = record {
  joined = λ k e p q at sp sq. let a = joins (source_at key.plan e) p sp in let b = joins (2 * e.node) q sq in b.2.to e p (a.2.from e b.0 (l.joined k e a.0 b.0 at a.1 b.1));
  matched = λ n p q less sp sq.
      let a = was (2 * n + 1) p sp in let b = was (2 * n) q sq in
      b.2.agree_there p (a.2.agree b.0 (l.matched n a.0 b.0 less a.1 b.1));
  within = λ j v w e has. let o = works.origin j v w e has in l.within o.0 o.1 w o.2 o.3;
  out = λ j v w p e has sp. let o = works.origin j v w e has in let a = was (2 * w.node + 1) p sp in a.2.out w (l.out o.0 o.1 w a.0 o.2 o.3 a.1);
  apart = works.apart;
  complete = λ n k p less sp missing. let a = was (2 * n + 1) p sp in works.kept n k (l.complete n k a.0 less a.1 (a.2.only k missing));
  idle = idle;
}

-- a part in its slot is what is shown
pub shown_home : {laws : Laws} (key : LayoutView) (s : St) → Orderly laws key s → (i : ℕ) (p : PartView) (d : PartView) → i < length s.homes → get_or s.words i 0 % 2 ≡ 0 → get_elem? s.homes i ≡ some (some (Some p)) → Shown s.homes s.views i d → d ≡ p
shown_home {laws} key s o i p d near even at-i shown = ⊎_elim
    (λ (x : InSlot s.homes i d). same_slot d p (sym x ∙ at-i))
    (λ (x : Noted s.views i d). absurd (omega (arith, o.turns i near, has i x.1 x.2 x.3 x.5 x.6, term_le (has_turn i) s.views x.0 x.2 x.4)))
    shown

-- the note of the seat that has a part's turn is what is shown of the part
pub shown_held : {laws : Laws} (key : LayoutView) (s : St) → Orderly laws key s → (i j k : ℕ) (v : View) (t : Turn) (d : PartView) → i < length s.homes → get_elem? s.views j ≡ some v → get_elem? v.turns k ≡ some t → t.word ≡ i → Shown s.homes s.views i d → d ≡ t.note
shown_held {laws} key s o i j k v t d near me at-k is shown =
    let one = o.turns i near in let mine = has i k v t at-k is in let part = term_le (has_turn i) s.views j v me in
    ⊎_elim
    (λ (x : InSlot s.homes i d). absurd (some-ne-none (Some d) (some-injective (some (Some d)) none (sym x ∙ o.taken i near (omega arith)))))
    (λ (x : Noted s.views i d). dite (ℕ_discrete x.0 j)
    (λ z.
    let same : x.2 ≡ v = some-injective x.2 v (sym x.4 ∙ (ap (λ (y : ℕ). get_elem? s.views y) z ∙ me)) in
    let at-x : get_elem? v.turns x.1 ≡ some x.3 = ap (λ (y : View). get_elem? y.turns x.1) (sym same) ∙ x.5 in
    dite (ℕ_discrete x.1 k)
    (λ e. x.7 ∙ ap (λ (y : Turn). y.note) (some-injective x.3 t (sym at-x ∙ (ap (λ (y : ℕ). get_elem? v.turns y) e ∙ at-k))))
    (λ ne. absurd (omega (arith, terms_le (is_turn_of i) v.turns k x.1 t x.3 ne at-k at-x, is_of_yes i t is, is_of_yes i x.3 x.6))))
    (λ ne. absurd (omega (arith, terms_le (has_turn i) s.views j x.0 v x.2 ne me x.4, has i x.1 x.2 x.3 x.5 x.6))))
    shown

pub none_at : (ts : List Turn) (m : ℕ) (u : Turn) → length ts ≡ 0 → get_elem? ts m ≡ some u → ⊥
none_at [] m u h e = some-ne-none u (sym e)
none_at (x ∷ xs) m u h e = absurd (omega arith)

only_one : (ts : List Turn) (a : Turn) (m : ℕ) (u : Turn) → ts ≡ a ∷ [] → get_elem? ts m ≡ some u → (a ≡ u → ⊥) → ⊥
only_one ts a zero u e at-m ne = ne (some-injective a u (sym (ap (λ (x : List Turn). get_elem? x 0) e) ∙ at-m))
only_one ts a (suc m) u e at-m ne = some-ne-none u (sym (sym (ap (λ (x : List Turn). get_elem? x (suc m)) e) ∙ at-m))

pub set_at : (l : List View) (j : ℕ) (v w : View) → get_elem? l j ≡ some v → get_elem? (set l j w) j ≡ some w
set_at [] j v w e = absurd (some-ne-none v (sym e))
set_at (x ∷ xs) zero v w e = refl
set_at (x ∷ xs) (suc j) v w e = set_at xs j v w e

pub set_past : (l : List View) (j k : ℕ) (w u : View) → k ≢ j → get_elem? l k ≡ some u → get_elem? (set l j w) k ≡ some u
set_past [] j k w u ne e = e
set_past (x ∷ xs) zero zero w u ne e = absurd (ne refl)
set_past (x ∷ xs) zero (suc k) w u ne e = e
set_past (x ∷ xs) (suc j) zero w u ne e = e
set_past (x ∷ xs) (suc j) (suc k) w u ne e = set_past xs j k w u (λ h. ne (ap suc h)) e

idle_after : (key : LayoutView) (homes : Homes) (views : List View) (l : Linked key homes views) (j : ℕ) (w : View) → 0 < w.portion → (k : ℕ) (u : View) → get_elem? (set views j w) k ≡ some u → u.portion ≡ 0 → u.work ≡ None
idle_after key homes views l j w alive k u e z = ⊎_elim
    (λ (q : (k ≡ j) × (w ≡ u)). absurd (omega (arith, ap (λ (x : View). x.portion) q.1)))
    (λ (q : (k ≢ j) × (get_elem? views k ≡ some u)). l.idle k u q.1 z)
    (at_set views j k w u e)

-- a view of the new list stood in the old one with the same work
same_there : (views : List View) (j : ℕ) (v w : View) → get_elem? views j ≡ some v → w.work ≡ v.work → (k : ℕ) (u : View) → get_elem? (set views j w) k ≡ some u → (x : View) × (get_elem? views k ≡ some x) × (u.work ≡ x.work)
same_there views j v w me same k u e = ⊎_elim
    (λ (q : (k ≡ j) × (w ≡ u)). (v, ap (λ (i : ℕ). get_elem? views i) q.0 ∙ me, ap (λ (x : View). x.work) (sym q.1) ∙ same))
    (λ (q : (k ≢ j) × (get_elem? views k ≡ some u)). (u, q.1, refl))
    (at_set views j k w u e)

pub works_set : (key : LayoutView) (homes : Homes) (views : List View) (l : Linked key homes views) (j : ℕ) (v w : View) → get_elem? views j ≡ some v → w.work ≡ v.work → SameWorks views (set views j w)
works_set key homes views l j v w me same = record {
  origin = λ k u x e has. let o = same_there views j v w me same k u e in (k, o.0, o.1, sym o.2 ∙ has);
  apart = λ a b u u' x x' ne e e' has has'.
      let o = same_there views j v w me same a u e in let o' = same_there views j v w me same b u' e' in
      l.apart a b o.0 o'.0 x x' ne o.1 o'.1 (sym o.2 ∙ has) (sym o'.2 ∙ has');
  kept = λ n k h. dite (ℕ_discrete h.0 j)
      (λ z.
      let is : h.1 ≡ v = some-injective h.1 v (sym h.3 ∙ (ap (λ (i : ℕ). get_elem? views i) z ∙ me)) in
      (j, w, h.2, set_at views j v w me, same ∙ (ap (λ (x : View). x.work) (sym is) ∙ h.4), h.5, h.6))
      (λ ne. (h.0, h.1, h.2, set_past views j h.0 w h.1 ne h.3, h.4, h.5, h.6));
}

own_turns : (R : PartView → PartView → Type 0) → ((d : PartView) → R d d) → (homes : Homes) (views : List View) (j i : ℕ) (v : View) (t : Turn) (p : PartView) → get_elem? views j ≡ some v → get_elem? homes i ≡ some (some (Some p)) → t.word ≡ i → t.note ≡ p
    → (k : ℕ) (u : Turn) (r : ℕ) → get_elem? (t ∷ v.turns) k ≡ some u → u.word ≡ r → WasBy R homes views r u.note
own_turns R self homes views j i v t p me at-i is noted zero u r at-k e =
    let same : t ≡ u = some-injective t u at-k in
    (p, inl (ap (λ (x : ℕ). get_elem? homes x) (sym e ∙ (ap (λ (x : Turn). x.word) (sym same) ∙ is)) ∙ at-i), subst (R p) (sym noted ∙ ap (λ (x : Turn). x.note) same) (self p))
own_turns R self homes views j i v t p me at-i is noted (suc k) u r at-k e = (u.note, inr (j, k, v, u, me, at-k, e, refl), self u.note)

-- the turn of the word i is taken, with the part p
pub links_take : (key : LayoutView) (homes : Homes) (views : List View) (l : Linked key homes views) (j i : ℕ) (v w : View) (t : Turn) (p : PartView) → get_elem? views j ≡ some v → i < length homes → get_elem? homes i ≡ some (some (Some p))
    → w.turns ≡ t ∷ v.turns → t.word ≡ i → t.note ≡ p → w.work ≡ v.work → 0 < w.portion → Linked key (set homes i none) (set views j w)
links_take key homes views l j i v w t p me near at-i turns is noted work alive =
    let was : (R : PartView → PartView → Type 0) → ((d : PartView) → R d d) → (r : ℕ) (d : PartView) → Shown (set homes i none) (set views j w) r d → WasBy R homes views r d = λ R self r. carried R self homes (set homes i none) views j w r
    (λ q at-r. dite (ℕ_discrete r i)
    (λ z. absurd (some-ne-none (Some q) (some-injective (some (Some q)) none (sym at-r ∙ (ap (λ (x : ℕ). get_elem? (set homes i none) x) z ∙ set_here homes i none near)))))
    (λ ne. (q, inl (sym (set_else homes i r none ne) ∙ at-r), self q)))
    (λ k u at-k e. own_turns R self homes views j i v t p me at-i is noted k u r (ap (λ (x : List Turn). get_elem? x k) (sym turns) ∙ at-k) e) in
    linked_by key homes (set homes i none) views (set views j w) l (was Like like_self) (was Joins joins_self)
    (works_set key homes views l j v w me work)
    (idle_after key homes views l j w alive)

-- a turn is missed
pub links_miss : (key : LayoutView) (homes : Homes) (views : List View) (l : Linked key homes views) (j : ℕ) (v w : View) → get_elem? views j ≡ some v → w.turns ≡ v.turns → w.work ≡ v.work → 0 < w.portion → Linked key homes (set views j w)
links_miss key homes views l j v w me turns work alive =
    let was : (R : PartView → PartView → Type 0) → ((d : PartView) → R d d) → (r : ℕ) (d : PartView) → Shown homes (set views j w) r d → WasBy R homes views r d = λ R self r. carried R self homes homes views j w r
    (λ q at-r. (q, inl at-r, self q))
    (λ k u at-k e. (u.note, inr (j, k, v, u, me, ap (λ (x : List Turn). get_elem? x k) (sym turns) ∙ at-k, e, refl), self u.note)) in
    linked_by key homes homes views (set views j w) l (was Like like_self) (was Joins joins_self)
    (works_set key homes views l j v w me work)
    (idle_after key homes views l j w alive)

module _ {laws : Laws} (key : LayoutView) (s : St) (o : Orderly laws key s) (l : Linked key s.homes s.views) (j i new : ℕ) (v w : View) (t : Turn) (ts : List Turn) (p : PartView) (me : get_elem? s.views j ≡ some v) (near : i < length s.homes)
    (turns : v.turns ≡ t ∷ ts) (is : t.word ≡ i) (key-is : v.key ≡ key) (alive : 0 < w.portion) where
  was_noted : (k : ℕ) (u : Turn) → get_elem? v.turns k ≡ some u → Shown s.homes s.views u.word u.note
  was_noted k u at-k = inr (j, k, v, u, me, at-k, refl, refl)

  first_is : get_elem? v.turns 0 ≡ some t
  first_is = ap (λ (x : List Turn). get_elem? x 0) turns

  note_is : note_or p v.turns ≡ t.note
  note_is = ap (note_or p) turns

  other_home : (R : PartView → PartView → Type 0) → ((d : PartView) → R d d) → (r : ℕ) → r ≢ i → (q : PartView) → get_elem? (set s.homes i (some (Some p))) r ≡ some (some (Some q)) → WasBy R s.homes s.views r q
  other_home R self r ne q at-r = (q, inl (sym (set_else s.homes i r (some (Some p)) ne) ∙ at-r), self q)

  -- if the seat's other turns stay as they are
  was_left : (R : PartView → PartView → Type 0) → ((d : PartView) → R d d) → w.turns ≡ left v.turns → R t.note p → (r : ℕ) (d : PartView) → Shown (set s.homes i (some (Some p))) (set s.views j w) r d → WasBy R s.homes s.views r d
  was_left R self rest fits r = carried R self s.homes (set s.homes i (some (Some p))) s.views j w r
      (λ q at-r. dite (ℕ_discrete r i)
      (λ z.
      let same : p ≡ q = same_slot p q (sym (set_here s.homes i (some (Some p)) near) ∙ (ap (λ (x : ℕ). get_elem? (set s.homes i (some (Some p))) x) (sym z) ∙ at-r)) in
      (t.note, subst (λ (x : ℕ). Shown s.homes s.views x t.note) (is ∙ sym z) (was_noted 0 t first_is), subst (R t.note) same fits))
      (λ ne. other_home R self r ne q at-r))
      (λ k u at-k e.
      let old : get_elem? v.turns (suc k) ≡ some u = ap (λ (x : List Turn). get_elem? x (suc k)) turns ∙ (ap (λ (x : List Turn). get_elem? x k) (sym (rest ∙ ap left turns)) ∙ at-k) in
      (u.note, subst (λ (x : ℕ). Shown s.homes s.views x u.note) e (was_noted (suc k) u old), self u.note))

  pub links_plain : Plainly v i p w → Linked key (set s.homes i (some (Some p))) (set s.views j w)
  links_plain plain = linked_by key s.homes (set s.homes i (some (Some p))) s.views (set s.views j w) l
      (was_left Like like_self plain.0 (subst (λ (x : PartView). Like x p) note_is plain.2))
      (was_left Joins joins_self plain.0 (subst (λ (x : PartView). Joins x p) note_is plain.3))
      (works_set key s.homes s.views l j v w me plain.1)
      (idle_after key s.homes s.views l j w alive)

  abbrev After : St
  After = record { words = set s.words i new; homes = set s.homes i (some (Some p)); views = set s.views j w }

  module _ (o' : Orderly laws key After) (even : new % 2 ≡ 0) (within : i < length s.words) (near' : i < length (set s.homes i (some (Some p)))) where
    home_now : (d : PartView) → Shown (set s.homes i (some (Some p))) (set s.views j w) i d → d ≡ p
    home_now d = shown_home key After o' i p d near' (ap (λ (x : ℕ). x % 2) (get_or-set_same s.words i new 0 within) ∙ even) (set_here s.homes i (some (Some p)) near)

    abbrev Then : Homes
    Then = set s.homes i (some (Some p))

    abbrev Views : List View
    Views = set s.views j w

    pub links_lay : Lays v i p w → Linked key Then Views
    links_lay c =
        let n : ℕ = c.it.node in let d₀ : PartView = t.note in
        let less : n < nodes_in key = subst (λ (f : LayoutView). n < nodes_in f) key-is c.within in
        let was : Shown s.homes s.views (2 * n + 1) d₀ = subst (λ (x : ℕ). Shown s.homes s.views x d₀) (is ∙ c.node) (was_noted 0 t first_is) in
        let now : (d : PartView) → Shown Then Views (2 * n + 1) d → d ≡ p = λ d sd. home_now d (subst (λ (x : ℕ). Shown Then Views x d) (sym c.node) sd) in
        let others : (R : PartView → PartView → Type 0) → ((d : PartView) → R d d) → (r : ℕ) (d : PartView) → r ≢ 2 * n + 1 → Shown Then Views r d → WasBy R s.homes s.views r d = λ R self r d ne. carried R self s.homes Then s.views j w r
        (other_home R self r (λ e. ne (e ∙ c.node))) (λ m u at-m _. absurd (none_at w.turns m u c.none at-m)) d in
        let elsewhere = others Like like_self in
        let joins : Joins d₀ p = subst (λ (x : PartView). Joins x p) note_is c.joins in
        let back : Back d₀ p c.it = subst (λ (x : PartView). Back x p c.it) note_is c.back in
        let there : (k : ℕ) (u : View) (x : WorkView) → get_elem? Views k ≡ some u → u.work ≡ Some x → (k ≢ j) × (get_elem? s.views k ≡ some u) = λ k u x e has. ⊎_elim
        (λ (q : (k ≡ j) × (w ≡ u)). absurd (none-some x (sym c.has ∙ (ap (λ (y : View). y.work) q.1 ∙ has))))
        (λ (q : (k ≢ j) × (get_elem? s.views k ≡ some u)). q)
        (at_set s.views j k w u e) in
        record {
          joined = λ k e x q at sx sq.
              let b = others Joins joins_self (2 * e.node) q (λ z. omega (arith, z)) sq in
              dite (ℕ_discrete (source_at key.plan e) (2 * n + 1))
              (λ z.
              let x' = now x (subst (λ (y : ℕ). Shown Then Views y x) z sx) in
              let old = l.joined k e d₀ b.0 at (subst (λ (y : ℕ). Shown s.homes s.views y d₀) (sym z) was) b.1 in
              b.2.to e x (subst (λ (y : PartView). JoinedParts y e b.0) (sym x') (joins.from e b.0 old)))
              (λ ne. let a = others Joins joins_self (source_at key.plan e) x ne sx in b.2.to e x (a.2.from e b.0 (l.joined k e a.0 b.0 at a.1 b.1)));
          matched = λ m d e le sd se.
              let b = elsewhere (2 * m) e (λ z. omega (arith, z)) se in
              dite (ℕ_discrete m n)
              (λ z.
              let sd' = now d (subst (λ (x : ℕ). Shown Then Views (2 * x + 1) d) z sd) in
              let old = l.matched m d₀ b.0 le (subst (λ (x : ℕ). Shown s.homes s.views (2 * x + 1) d₀) (sym z) was) b.1 in
              subst (λ (x : PartView). AgreeParts x e) (sym sd') (b.2.agree_there p (back.agree b.0 old)))
              (λ ne. let a = elsewhere (2 * m + 1) d (λ z. ne (omega (arith, z))) sd in b.2.agree_there d (a.2.agree b.0 (l.matched m a.0 b.0 le a.1 b.1)));
          within = λ k u x e has. let q = there k u x e has in l.within k u x q.1 has;
          out = λ k u x d e has sd.
              let q = there k u x e has in
              dite (ℕ_discrete x.node n)
              (λ z.
              let sd' = now d (subst (λ (y : ℕ). Shown Then Views (2 * y + 1) d) z sd) in
              let old = l.out k u x d₀ q.1 has (subst (λ (y : ℕ). Shown s.homes s.views (2 * y + 1) d₀) (sym z) was) in
              subst (λ (y : PartView). IsOutIn y x) (sym sd') (back.out x old (l.apart k j u v x c.it q.0 q.1 me has c.had z)))
              (λ ne. let a = elsewhere (2 * x.node + 1) d (λ z. ne (omega (arith, z))) sd in a.2.out x (l.out k u x a.0 q.1 has a.1));
          apart = λ a b u u' x x' ne e e' has has'. let q = there a u x e has in let q' = there b u' x' e' has' in l.apart a b u u' x x' ne q.1 q'.1 has has';
          complete = λ m k d le sd missing. dite (ℕ_discrete m n)
              (λ z.
              let sd' = now d (subst (λ (x : ℕ). Shown Then Views (2 * x + 1) d) z sd) in
              let r = back.only k (subst (λ (x : PartView). IsMissingIn x k) sd' missing) in
              let h = l.complete m k d₀ le (subst (λ (x : ℕ). Shown s.homes s.views (2 * x + 1) d₀) (sym z) was) r.0 in (
                h.0,
                h.1,
                h.2,
                set_past s.views j h.0 w h.1 (λ same.
                    let one : h.1 ≡ v = some-injective h.1 v (sym h.3 ∙ (ap (λ (y : ℕ). get_elem? s.views y) same ∙ me)) in
                    let it : c.it ≡ h.2 = same_work c.it h.2 (sym c.had ∙ (ap (λ (y : View). y.work) (sym one) ∙ h.4)) in
                    r.1 (sym h.6 ∙ ap (λ (y : WorkView). y.number) (sym it))) h.3,
                h.4,
                h.5,
                h.6,
              ))
              (λ ne.
              let a = elsewhere (2 * m + 1) d (λ z. ne (omega (arith, z))) sd in
              let h = l.complete m k a.0 le a.1 (a.2.only k missing) in (
                h.0,
                h.1,
                h.2,
                set_past s.views j h.0 w h.1 (λ same.
                    let one : h.1 ≡ v = some-injective h.1 v (sym h.3 ∙ (ap (λ (y : ℕ). get_elem? s.views y) same ∙ me)) in
                    let it : c.it ≡ h.2 = same_work c.it h.2 (sym c.had ∙ (ap (λ (y : View). y.work) (sym one) ∙ h.4)) in
                    ne (sym h.5 ∙ ap (λ (y : WorkView). y.node) (sym it))) h.3,
                h.4,
                h.5,
                h.6,
              ));
          idle = idle_after key s.homes s.views l j w alive;
        }

    pub links_claim : ClaimsInTurn v i p w → Linked key Then Views
    links_claim c =
        let n : ℕ = c.n in let d₀ : PartView = t.note in let a : Turn = c.t in let u : Turn = c.u in let few = o.few in
        let less : n < nodes_in key = subst (λ (f : LayoutView). n < nodes_in f) key-is c.within in
        let word : i ≡ 2 * n = c.node in
        let ts-is : ts ≡ u ∷ [] = sym (ap left turns) ∙ c.before in
        let second : get_elem? v.turns 1 ≡ some u = ap (λ (x : List Turn). get_elem? x 1) turns ∙ ap (λ (x : List Turn). get_elem? x 0) ts-is in
        let was-e : Shown s.homes s.views (2 * n + 1) u.note = subst (λ (x : ℕ). Shown s.homes s.views x u.note) c.at_u (was_noted 1 u second) in
        let here : get_elem? Views j ≡ some w = set_at s.views j v w me in
        let first-w : get_elem? w.turns 0 ≡ some a = ap (λ (x : List Turn). get_elem? x 0) c.now in
        let length-e : 2 * n + 1 < length Then = omega (arith, length-set s.homes i (some (Some p)), o.long, less, few) in
        let now-e : (d : PartView) → Shown Then Views (2 * n + 1) d → d ≡ a.note = λ d sd. shown_held key After o' (2 * n + 1) j 0 w a d length-e here first-w c.at_t sd in
        let now-i : (d : PartView) → Shown Then Views (2 * n) d → d ≡ p = λ d sd. home_now d (subst (λ (x : ℕ). Shown Then Views x d) (sym word) sd) in
        let others : (R : PartView → PartView → Type 0) → ((d : PartView) → R d d) → (r : ℕ) (d : PartView) → r ≢ 2 * n + 1 → r ≢ i → Shown Then Views r d → WasBy R s.homes s.views r d = λ R self r d ne-e ne-i. carried R self s.homes Then s.views j w r (other_home R self r ne-i)
        (λ m y at-m e. absurd (only_one w.turns a m y c.now at-m (λ same. ne-e (sym e ∙ (ap (λ (x : Turn). x.word) (sym same) ∙ c.at_t))))) d in
        let elsewhere = others Like like_self in
        let was-i : Shown s.homes s.views (2 * n) d₀ = subst (λ (x : ℕ). Shown s.homes s.views x d₀) (is ∙ word) (was_noted 0 t first_is) in
        let there-joins : Joins d₀ p = subst (λ (x : PartView). Joins x p) note_is c.joins_there in
        let joined : (k : ℕ) (e : Edge) (x q : PartView) → slice_get key.plan.edges k ≡ Some e → Shown Then Views (source_at key.plan e) x → Shown Then Views (2 * e.node) q → JoinedParts x e q = λ k e x q at sx sq.
        let source = o.edges.sources k e at in
        let X : (y : PartView) × Shown s.homes s.views (source_at key.plan e) y × ((r : PartView) → JoinedParts y e r → JoinedParts x e r) = dite (ℕ_discrete (source_at key.plan e) (2 * n + 1))
        (λ z. (u.note, subst (λ (y : ℕ). Shown s.homes s.views y u.note) (sym z) was-e, λ r h. subst (λ (y : PartView). JoinedParts y e r) (sym (now-e x (subst (λ (y : ℕ). Shown Then Views y x) z sx))) (c.joins.from e r h)))
        (λ ne. let b = others Joins joins_self (source_at key.plan e) x ne (λ z. source_apart key (source_at key.plan e) n source (omega (arith, less)) (z ∙ word)) sx in (b.0, b.1, b.2.from e)) in
        let Q : (y : PartView) × Shown s.homes s.views (2 * e.node) y × ((r : PartView) → JoinedParts r e y → JoinedParts r e q) = dite (ℕ_discrete e.node n)
        (λ z. (d₀, subst (λ (y : ℕ). Shown s.homes s.views (2 * y) d₀) (sym z) was-i, λ r h. subst (λ (y : PartView). JoinedParts r e y) (sym (now-i q (subst (λ (y : ℕ). Shown Then Views (2 * y) q) z sq))) (there-joins.to e r h)))
        (λ ne. let b = others Joins joins_self (2 * e.node) q (λ z. omega (arith, z)) (λ z. ne (omega (arith, z, word))) sq in (b.0, b.1, b.2.to e)) in
        Q.2 x (X.2 Q.0 (l.joined k e X.0 Q.0 at X.1 Q.1)) in
        let engine : (m : ℕ) (d : PartView) → m ≢ n → Shown Then Views (2 * m + 1) d → Was s.homes s.views (2 * m + 1) d = λ m d ne. elsewhere (2 * m + 1) d (λ e. ne (omega (arith, e))) (λ e. omega (arith, e, word)) in
        let matched : (m : ℕ) (d e : PartView) → m < nodes_in key → Shown Then Views (2 * m + 1) d → Shown Then Views (2 * m) e → AgreeParts d e = λ m d e le sd se. dite (ℕ_discrete m n)
        (λ z.
        let d' = now-e d (subst (λ (x : ℕ). Shown Then Views (2 * x + 1) d) z sd) in
        let e' = now-i e (subst (λ (x : ℕ). Shown Then Views (2 * x) e) z se) in
        subst (λ (x : PartView). AgreeParts x e) (sym d') (subst (λ (x : PartView). AgreeParts a.note x) (sym e') c.agree))
        (λ ne.
        let x = engine m d ne sd in
        let y = elsewhere (2 * m) e (λ z. omega (arith, z)) (λ z. ne (omega (arith, z, word))) se in
        y.2.agree_there d (x.2.agree y.0 (l.matched m x.0 y.0 le x.1 y.1))) in
        ⊎_elim
        (λ (q : (w.work ≡ v.work) × ((x : WorkView) → IsOutIn u.note x → IsOutIn a.note x) × ((k : ℕ) → IsMissingIn a.note k → IsMissingIn u.note k)).
        let works = works_set key s.homes s.views l j v w me q.0 in
        record {
          joined = joined;
          matched = matched;
          within = λ k y x e has. let o = works.origin k y x e has in l.within o.0 o.1 x o.2 o.3;
          out = λ k y x d e has sd.
              let o = works.origin k y x e has in
              dite (ℕ_discrete x.node n)
              (λ z.
              let d' = now-e d (subst (λ (y : ℕ). Shown Then Views (2 * y + 1) d) z sd) in
              subst (λ (y : PartView). IsOutIn y x) (sym d') (q.1 x (l.out o.0 o.1 x u.note o.2 o.3 (subst (λ (y : ℕ). Shown s.homes s.views (2 * y + 1) u.note) (sym z) was-e))))
              (λ ne. let b = engine x.node d ne sd in b.2.out x (l.out o.0 o.1 x b.0 o.2 o.3 b.1));
          apart = works.apart;
          complete = λ m k d le sd missing. dite (ℕ_discrete m n)
              (λ z.
              let d' = now-e d (subst (λ (y : ℕ). Shown Then Views (2 * y + 1) d) z sd) in
              works.kept m k (l.complete m k u.note le (subst (λ (y : ℕ). Shown s.homes s.views (2 * y + 1) u.note) (sym z) was-e) (q.2 k (subst (λ (y : PartView). IsMissingIn y k) d' missing))))
              (λ ne. let b = engine m d ne sd in works.kept m k (l.complete m k b.0 le b.1 (b.2.only k missing)));
          idle = idle_after key s.homes s.views l j w alive;
        })
        (λ (q : (x : WorkView) × (v.work ≡ None) × (w.work ≡ Some x) × (x.node ≡ n) × Goes u.note a.note x).
        let it : WorkView = q.0 in let goes = q.4 in
        let there : (k : ℕ) (y : View) (x : WorkView) → get_elem? Views k ≡ some y → y.work ≡ Some x → ((k ≡ j) × (x ≡ it)) ⊎ ((k ≢ j) × (get_elem? s.views k ≡ some y)) = λ k y x e has. ⊎_elim
        (λ (r : (k ≡ j) × (w ≡ y)). inl (r.0, same_work x it (sym has ∙ (ap (λ (z : View). z.work) (sym r.1) ∙ q.2))))
        (λ (r : (k ≢ j) × (get_elem? s.views k ≡ some y)). inr r)
        (at_set s.views j k w y e) in
        let old-out : (k : ℕ) (y : View) (x : WorkView) → get_elem? s.views k ≡ some y → y.work ≡ Some x → x.node ≡ n → IsOutIn u.note x = λ k y x e has z. l.out k y x u.note e has (subst (λ (r : ℕ). Shown s.homes s.views (2 * r + 1) u.note) (sym z) was-e) in
        let kept : (m k : ℕ) → HasWork s.views m k → HasWork Views m k = λ m k h. (
          h.0,
          h.1,
          h.2,
          set_past s.views j h.0 w h.1 (λ same.
              let one : h.1 ≡ v = some-injective h.1 v (sym h.3 ∙ (ap (λ (y : ℕ). get_elem? s.views y) same ∙ me)) in
              none-some h.2 (sym q.1 ∙ (ap (λ (y : View). y.work) (sym one) ∙ h.4))) h.3,
          h.4,
          h.5,
          h.6,
        ) in
        record {
          joined = joined;
          matched = matched;
          within = λ k y x e has. ⊎_elim
              (λ (r : (k ≡ j) × (x ≡ it)). subst (λ (m : ℕ). m < nodes_in key) (sym (ap (λ (z : WorkView). z.node) r.1 ∙ q.3)) less)
              (λ (r : (k ≢ j) × (get_elem? s.views k ≡ some y)). l.within k y x r.1 has)
              (there k y x e has);
          out = λ k y x d e has sd. ⊎_elim
              (λ (r : (k ≡ j) × (x ≡ it)).
              let d' = now-e d (subst (λ (m : ℕ). Shown Then Views (2 * m + 1) d) (ap (λ (z : WorkView). z.node) r.1 ∙ q.3) sd) in
              subst (λ (z : PartView). IsOutIn z x) (sym d') (subst (λ (z : WorkView). IsOutIn a.note z) (sym r.1) goes.it))
              (λ (r : (k ≢ j) × (get_elem? s.views k ≡ some y)). dite (ℕ_discrete x.node n)
              (λ z.
              let d' = now-e d (subst (λ (m : ℕ). Shown Then Views (2 * m + 1) d) z sd) in
              subst (λ (m : PartView). IsOutIn m x) (sym d') (goes.out x (old-out k y x r.1 has z)))
              (λ ne. let b = engine x.node d ne sd in b.2.out x (l.out k y x b.0 r.1 has b.1)))
              (there k y x e has);
          apart = λ b b' y y' x x' ne e e' has has' same. ⊎_elim
              (λ (r : (b ≡ j) × (x ≡ it)). ⊎_elim
              (λ (r' : (b' ≡ j) × (x' ≡ it)). absurd (ne (r.0 ∙ sym r'.0)))
              (λ (r' : (b' ≢ j) × (get_elem? s.views b' ≡ some y')). λ z.
              goes.apart x' (old-out b' y' x' r'.1 has' (sym same ∙ (ap (λ (m : WorkView). m.node) r.1 ∙ q.3))) (sym z ∙ ap (λ (m : WorkView). m.number) r.1))
              (there b' y' x' e' has'))
              (λ (r : (b ≢ j) × (get_elem? s.views b ≡ some y)). ⊎_elim
              (λ (r' : (b' ≡ j) × (x' ≡ it)). λ z.
              goes.apart x (old-out b y x r.1 has (same ∙ (ap (λ (m : WorkView). m.node) r'.1 ∙ q.3))) (z ∙ ap (λ (m : WorkView). m.number) r'.1))
              (λ (r' : (b' ≢ j) × (get_elem? s.views b' ≡ some y')). l.apart b b' y y' x x' ne r.1 r'.1 has has' same)
              (there b' y' x' e' has'))
              (there b y x e has);
          complete = λ m k d le sd missing. dite (ℕ_discrete m n)
              (λ z.
              let d' = now-e d (subst (λ (y : ℕ). Shown Then Views (2 * y + 1) d) z sd) in
              ⊎_elim
              (λ (r : it.number ≡ k). (j, w, it, here, q.2, q.3 ∙ sym z, r))
              (λ (r : IsMissingIn u.note k). kept m k (l.complete m k u.note le (subst (λ (y : ℕ). Shown s.homes s.views (2 * y + 1) u.note) (sym z) was-e) r))
              (goes.only k (subst (λ (y : PartView). IsMissingIn y k) d' missing)))
              (λ ne. let b = engine m d ne sd in kept m k (l.complete m k b.0 le b.1 (b.2.only k missing)));
          idle = idle_after key s.homes s.views l j w alive;
        })
        c.outs

    pub links_bring : BringsInTurn v i p w → Linked key Then Views
    links_bring c =
        let d₀ : PartView = t.note in let u : Turn = c.u in
        let ts-is : ts ≡ u ∷ [] = sym (ap left turns) ∙ c.before in
        let word : i ≡ 2 * c.e.node = c.node in
        let at-e : slice_get key.plan.edges c.k ≡ Some c.e = ap (λ (f : LayoutView). slice_get f.plan.edges c.k) (sym key-is) ∙ c.there in
        let at_u : u.word ≡ source_at key.plan c.e = c.at_u ∙ ap (λ (f : LayoutView). source_at f.plan c.e) key-is in
        let source = o.edges.sources c.k c.e at-e in
        let rest : w.turns ≡ left v.turns = c.now ∙ sym c.before in
        let like : Like d₀ p = subst (λ (x : PartView). Like x p) note_is c.like in
        let here : get_elem? Views j ≡ some w = set_at s.views j v w me in
        let first-w : get_elem? w.turns 0 ≡ some u = ap (λ (x : List Turn). get_elem? x 0) c.now in
        let now-i : (d : PartView) → Shown Then Views i d → d ≡ p = λ d sd. home_now d sd in
        let now-u : (d : PartView) → Shown Then Views (source_at key.plan c.e) d → d ≡ u.note = λ d sd. shown_held key After o' (source_at key.plan c.e) j 0 w u d (omega (arith, length-set s.homes i (some (Some p)), o.long, source.within)) here first-w at_u sd in
        let was-i : Shown s.homes s.views i d₀ = subst (λ (x : ℕ). Shown s.homes s.views x d₀) is (was_noted 0 t first_is) in
        let others : (r : ℕ) (d : PartView) → r ≢ i → Shown Then Views r d → WasBy Joins s.homes s.views r d = λ r d ne. carried Joins joins_self s.homes Then s.views j w r (other_home Joins joins_self r ne)
        (λ k y at-k e.
        let old : get_elem? v.turns (suc k) ≡ some y = ap (λ (x : List Turn). get_elem? x (suc k)) turns ∙ (ap (λ (x : List Turn). get_elem? x k) (sym (rest ∙ ap left turns)) ∙ at-k) in
        (y.note, subst (λ (x : ℕ). Shown s.homes s.views x y.note) e (was_noted (suc k) y old), joins_self y.note)) d in
        let was = was_left Like like_self rest like in
        let works = works_set key s.homes s.views l j v w me c.same in
        record {
          joined = λ k e x q at sx sq.
              let from = o.edges.sources k e at in
              let X = others (source_at key.plan e) x (λ z. source_apart key (source_at key.plan e) c.e.node from (o.edges.consumers c.k c.e at-e) (z ∙ word)) sx in
              dite (ℕ_discrete e.node c.e.node)
              (λ z.
              let q' = now-i q (subst (λ (y : ℕ). Shown Then Views y q) (ap (λ (y : ℕ). 2 * y) z ∙ sym word) sq) in
              subst (λ (y : PartView). JoinedParts x e y) (sym q') (dite (ℕ_discrete k c.k)
              (λ same.
              let e-is : e ≡ c.e = some_edge e c.e (sym at ∙ (ap (λ (y : ℕ). slice_get key.plan.edges y) same ∙ at-e)) in
              let x' = now-u x (subst (λ (y : Edge). Shown Then Views (source_at key.plan y) x) e-is sx) in
              subst (λ (y : Edge). JoinedParts x y p) (sym e-is) (subst (λ (y : PartView). JoinedParts y c.e p) (sym x') c.joined))
              (λ ne.
              let old = l.joined k e X.0 d₀ at X.1 (subst (λ (y : ℕ). Shown s.homes s.views y d₀) (word ∙ ap (λ (y : ℕ). 2 * y) (sym z)) was-i) in
              c.others k e x ne (ap (λ (f : LayoutView). slice_get f.plan.edges k) key-is ∙ at) z (subst (λ (y : PartView). JoinedParts x e y) (sym note_is) (X.2.from e d₀ old)))))
              (λ ne.
              let Q = others (2 * e.node) q (λ z. ne (omega (arith, z, word))) sq in
              Q.2.to e x (X.2.from e Q.0 (l.joined k e X.0 Q.0 at X.1 Q.1)));
          matched = λ n x y less sx sy.
              let a = was (2 * n + 1) x sx in let b = was (2 * n) y sy in
              b.2.agree_there x (a.2.agree b.0 (l.matched n a.0 b.0 less a.1 b.1));
          within = λ k y x e has. let q = works.origin k y x e has in l.within q.0 q.1 x q.2 q.3;
          out = λ k y x d e has sd. let q = works.origin k y x e has in let a = was (2 * x.node + 1) d sd in a.2.out x (l.out q.0 q.1 x a.0 q.2 q.3 a.1);
          apart = works.apart;
          complete = λ n k d less sd missing. let a = was (2 * n + 1) d sd in works.kept n k (l.complete n k a.0 less a.1 (a.2.only k missing));
          idle = idle_after key s.homes s.views l j w alive;
        }

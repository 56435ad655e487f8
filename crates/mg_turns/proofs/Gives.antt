-- A turn is given back in one of three ways.
use Rattle.mg_calc.specs.Rules.{Laws}
use Rattle.std.proofs.Common.{◌≡◌, ◌*◌, ℕ, refl, [], ◌∷◌, List, length, ap, sym, subst, inl, inr, Option}
use Rattle.mg_node.specs.Views.{WorkView}
use Rattle.mg_turns.specs.Parts.{PartView, JoinedParts}
use Rattle.mg_turns.specs.Turns.{Turn}
use Rattle.mg_turns.specs.Code.Plays.{Sat, left, Like, Joins, Back, Alike, HasTurn, Returns, GivesTurnBack, note_or, with_note, gave, claimed_view, laid_view, MayGiveBack, GivesPlainly, GivesClaim, GivesLaid, GivesBrought}
use Rattle.mg_turns.specs.declared.view.View.{View}
use Rattle.mg_turns.proofs.Keeps.{alike_same}

pub has_turn_of : {laws : Laws} (m : Sat) (word : ℕ) (p : PartView) (t : Turn) (ts : List Turn) → MayGiveBack laws m word p t ts → HasTurn m.0 word p
has_turn_of {laws} m word p t ts g = (t, ts, g.turns, g.word_is, g.grows)

abbrev Ok : Sat → ℕ → PartView → View → Type 0
Ok m word p w = Returns m.0 word p w × GivesTurnBack m.0 word p w

note_is : {laws : Laws} (m : Sat) (word : ℕ) (p : PartView) (t : Turn) (ts : List Turn) → MayGiveBack laws m word p t ts → note_or p m.0.turns ≡ t.note
note_is {laws} m word p t ts g = ap (note_or p) g.turns

pub plain_ok : {laws : Laws} (m : Sat) (word : ℕ) (p : PartView) → GivesPlainly laws m word p → Ok m word p (gave m.0 word p)
plain_ok {laws} m word p g = (
  (alike_same (left m.0.turns), refl, refl, refl),
  inl (refl, refl, subst (λ (x : PartView). Like x p) (sym (note_is m word p g.0 g.1 g.2)) g.3, subst (λ (x : PartView). Joins x p) (sym (note_is m word p g.0 g.1 g.2)) g.4),
)

pub claim_ok : {laws : Laws} (m : Sat) (n : ℕ) (p f : PartView) (has : Option WorkView) → GivesClaim laws m n p f has → Ok m (2 * n) p (claimed_view m.0 n p f has)
claim_ok {laws} m n p f has g =
    let u : Turn = g.u in let v : View = m.0 in
    let less : left v.turns ≡ u ∷ [] = ap left g.gives.turns in
    let fits : Alike (with_note f (u ∷ [])) (u ∷ []) = (refl, refl, g.grew, tt) in (
      (subst (λ (l : List Turn). Alike (with_note f l) l) (sym less) fits, refl, refl, refl),
      inr (inr (inl (record {
        n = n;
        within = g.within;
        node = refl;
        t = record { word = u.word; tally = u.tally; note = f };
        u = u;
        now = ap (with_note f) less;
        before = less;
        at_u = g.node;
        at_t = g.node;
        agree = g.agree;
        outs = g.outs;
        joins = g.joins;
        joins_there = subst (λ (x : PartView). Joins x p) (sym (note_is m (2 * n) p g.t (g.u ∷ []) g.gives)) g.joins_there;
      }))),
    )

pub laid_ok : {laws : Laws} (m : Sat) (word : ℕ) (p : PartView) → GivesLaid laws m word p → Ok m word p (laid_view m.0 word p)
laid_ok {laws} m word p g =
    let v : View = m.0 in
    let less : left v.turns ≡ [] = ap left g.gives.turns in (
      (subst (λ (l : List Turn). Alike l l) (sym less) tt, refl, refl, refl),
      inr (inl (record {
        it = g.w;
        node = g.node;
        within = g.within;
        none = ap (λ (l : List Turn). length l) less;
        had = g.had;
        has = refl;
        back = subst (λ (x : PartView). Back x p g.w) (sym (note_is m word p g.t [] g.gives)) g.back;
        joins = subst (λ (x : PartView). Joins x p) (sym (note_is m word p g.t [] g.gives)) g.joins;
      })),
    )

pub brought_ok : {laws : Laws} (m : Sat) (word : ℕ) (p : PartView) → GivesBrought laws m word p → Ok m word p (gave m.0 word p)
brought_ok {laws} m word p g =
    let less : left m.0.turns ≡ g.u ∷ [] = ap left g.gives.turns in
    let same = note_is m word p g.t (g.u ∷ []) g.gives in (
      (alike_same (left m.0.turns), refl, refl, refl),
      inr (inr (inr (record {
        k = g.k;
        e = g.e;
        there = g.there;
        node = g.node;
        u = g.u;
        now = less;
        before = less;
        at_u = g.at_u;
        same = refl;
        like = subst (λ (x : PartView). Like x p) (sym same) g.like;
        joined = g.joined;
        others = λ l x r ne at node old. g.others l x r ne at node (subst (λ (y : PartView). JoinedParts r x y) same old);
      }))),
    )

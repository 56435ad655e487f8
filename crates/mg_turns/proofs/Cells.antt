-- The engine and the intake of a node are taken, and given back.
use Rattle.mg_calc.specs.Rules.{Laws}
use Rattle.std.proofs.Common.{◌≡◌, ◌≢◌, ◌<◌, ◌+◌, ◌*◌, ℕ, refl, [], ◌∷◌, List, length, ap, ◌∙◌, sym, subst, inr, arith, Option, Some, None}
use lib.ListN.{get_elem?}
use Rattle.atomic_table.specs.Table.{rest}
use Rattle.mg_node.specs.Views.{IntakeView, WorkView, EngineView}
use Rattle.mg_node.specs.Lawful.{of_node, Agree}
use Rattle.mg_node.proofs.Making.{some_same}
use Rattle.mg_node.specs.declared.claimed.Claimed.{Claimed}
use Rattle.mg_node.specs.Standing.{EngineGrows}
use Rattle.mg_node.specs.IntakeStanding.{Stays}
use Rattle.mg_node.specs.Ports.{port_queue}
use Rattle.mg_turns.specs.Parts.{PartView, LayoutView, nodes_in, an_engine, an_intake, AgreeParts, Follows}
use Rattle.mg_turns.specs.Turns.{Turn, Sight}
use Rattle.mg_turns.specs.Rule.{Sights, has_turn, word_of}
use Rattle.mg_turns.specs.Sights.{Finds, has_after, cell_left}
use Rattle.mg_turns.specs.Code.Plays.{Sat, turn_of_word, turning, with_miss, gave, claimed_view, HoldsTurn, TakenPair, MissedPair, GivesPlainly, GivesClaim, CellWords, cell_given, left, with_note}
use Rattle.mg_turns.specs.Code.Cells.{TakesCell}
use Rattle.mg_turns.proofs.Words.{engine_at}
use Rattle.mg_turns.proofs.Grows.{part_same, like_self, joins_self}
use Rattle.mg_turns.proofs.Links.{is_of_no}
use Rattle.mg_turns.proofs.Ends.{nil, has_none}
use Rattle.mg_turns.proofs.Claims.{CellParts, ClaimFacts, engine_kind, intake_kind, before}
use Rattle.mg_turns.proofs.Tallies.{cell_words}

pub finds : {laws : Laws} (m n : Sat) (word : ℕ) (p : PartView) → HoldsTurn laws m word p n → Finds laws m.0 word p
finds {laws} m n word p t = record { follows = t.1.follows; sights = t.1.sights }

-- the first of two turns is taken
module _ {laws : Laws} (m n₁ : Sat) (first : ℕ) (p : PartView) (one : HoldsTurn laws m first p n₁) where
  pub none_then : (second : ℕ) → first ≢ second → length m.0.turns ≡ 0 → has_turn second n₁.0 ≡ 0
  none_then second apart idle = subst (λ (s : Sat). has_turn second s.0 ≡ 0) (sym one.0)
      (omega (arith, is_of_no second (turn_of_word m.0.key first p) apart, has_none second m.0 idle))

  module _ (n₂ : Sat) (second : ℕ) (miss : n₂ ≡ (with_miss n₁.0 second, n₁.1)) where
    missed_then : n₂ ≡ (with_miss (turning m.0 (turn_of_word m.0.key first p ∷ m.0.turns)) second, (first, None) ∷ m.1)
    missed_then = miss ∙ ap (λ (s : Sat). (with_miss s.0 second, s.1)) one.0

    pub after_miss : GivesPlainly laws n₂ first p
    after_miss = subst (λ (s : Sat). GivesPlainly laws s first p) (sym missed_then)
        (turn_of_word m.0.key first p, m.0.turns, record { slot = refl; turns = refl; word_is = refl; grows = part_same p; follows = one.1.follows }, like_self p, joins_self p)

    pub word_after_miss : (word : ℕ) → word ≡ word_of m.0.key first p → word ≡ word_of n₂.0.key first p
    word_after_miss word is = is ∙ ap (λ (s : Sat). word_of s.0.key first p) (sym missed_then)

    pub gave_after_miss : (n₃ : Sat) → n₃ ≡ (gave n₂.0 first p, rest n₂.1) → MissedPair laws m first second second n₃
    gave_after_miss n₃ back =
        let is : n₃ ≡ (gave (with_miss (turning m.0 (turn_of_word m.0.key first p ∷ m.0.turns)) second) first p, m.1) = back ∙ ap (λ (s : Sat). (gave s.0 first p, rest s.1)) missed_then in
        (inr (refl, p, finds m n₁ first p one, ap (λ (s : Sat). s.0) is), ap (λ (s : Sat). s.1) is)

-- the intake is back, and the engine is given back with its new note
pub engine_again : {laws : Laws} (n n₃ : Sat) (node : ℕ) (k f : PartView) (has : Option WorkView) → GivesClaim laws n node k f has → rest n.1 ≡ (2 * node + 1, None) ∷ rest (rest n.1) → Follows laws n.0.key (2 * node + 1) f
    → n₃ ≡ (claimed_view n.0 node k f has, rest n.1) → GivesPlainly laws n₃ (2 * node + 1) f
engine_again {laws} n n₃ node k f has g slots follows back = subst (λ (s : Sat). GivesPlainly laws s (2 * node + 1) f) (sym back)
    (record { word = g.u.word; tally = g.u.tally; note = f }, [], record { slot = slots; turns = ap (λ (l : List Turn). with_note f (left l)) g.gives.turns; word_is = g.node; grows = part_same f; follows = follows }, like_self f, joins_self f)

-- the two parts that are out are an engine and an intake
pub pair_engine : {laws : Laws} (m n : Sat) (key : LayoutView) (node : ℕ) (p q : PartView) (r s : ℕ) → m.0.key ≡ key → node < nodes_in key → TakenPair laws m (2 * node + 1) p r (2 * node) q s n → Follows laws key (2 * node + 1) p
pair_engine {laws} m n key node p q r s key-is within t = subst (λ (k : LayoutView). Follows laws k (2 * node + 1) p) key-is t.1.1.follows

pub pair_intake : {laws : Laws} (m n : Sat) (key : LayoutView) (first second : ℕ) (p q : PartView) (r s : ℕ) → m.0.key ≡ key → TakenPair laws m first p r second q s n → Follows laws key second q
pair_intake {laws} m n key first second p q r s key-is t = subst (λ (k : LayoutView). Follows laws k second q) (ap (λ (s : Sat). s.0.key) t.1.0 ∙ key-is) t.2.1.follows

pub takes_cell : {laws : Laws} (m n : Sat) (key : LayoutView) (node : ℕ) (p q : PartView) (r s : ℕ) (e : EngineView) (laid : ℕ) (i : IntakeView) → m.0.key ≡ key → node < nodes_in key → TakenPair laws m (2 * node + 1) p r (2 * node) q s n
    → p.engine ≡ Some e → q.intake ≡ Some i → laid ≡ e.laid → TakesCell laws key m node e r laid i s n
takes_cell {laws} m n key node p q r s e laid i key-is within t is is' laid-is =
    let one = t.1 in let two = t.2 in
    let engine = pair_engine m n key node p q r s key-is within t in
    let intake = pair_intake m n key (2 * node + 1) (2 * node) p q r s key-is t in
    let p-is : p ≡ an_engine e = engine_kind key (2 * node + 1) (of_node node) p e engine (engine_at (nodes_in key) node within) is in
    let q-is : q ≡ an_intake i = intake_kind key node q i intake (before within) is' in
    let back = ap (λ (x : Sat). x.0.key) one.0 in
    let sights : Sights (2 * node) q m.0.seen = subst (λ (x : List Sight). Sights (2 * node) q x) (ap (λ (x : Sat). x.0.seen) one.0) two.1.sights in
    let agree : AgreeParts p q = two.1.agree node 0 (turn_of_word m.0.key (2 * node + 1) p) refl (subst (λ (k : LayoutView). node < nodes_in k) (sym (back ∙ key-is)) within) (ap (λ (x : Sat). get_elem? x.0.turns 0) one.0) refl in
    record {
      found = record {
        engine_found = subst (λ (x : PartView). Finds laws m.0 (2 * node + 1) x) p-is (record { follows = one.1.follows; sights = one.1.sights });
        intake_found = subst (λ (x : PartView). Finds laws m.0 (2 * node) x) q-is (record { follows = subst (λ (k : LayoutView). Follows laws k (2 * node) q) back two.1.follows; sights = sights });
        agree = agree e i is is';
      };
      within = within;
      engine = subst (λ (x : PartView). Follows laws key (2 * node + 1) x) p-is engine;
      intake = subst (λ (x : PartView). Follows laws key (2 * node) x) q-is intake;
      then = two.0 ∙ (ap (λ (x : Sat). (turning x.0 (turn_of_word x.0.key (2 * node) q ∷ x.0.turns), (2 * node, None) ∷ x.1)) one.0
          ∙ (ap (λ (x : PartView). (turning m.0 (turn_of_word m.0.key (2 * node) q ∷ turn_of_word m.0.key (2 * node + 1) x ∷ m.0.turns), (2 * node, None) ∷ (2 * node + 1, None) ∷ m.1)) p-is
          ∙ ap (λ (x : PartView). (turning m.0 (turn_of_word m.0.key (2 * node) x ∷ turn_of_word m.0.key (2 * node + 1) (an_engine e) ∷ m.0.turns), (2 * node, None) ∷ (2 * node + 1, None) ∷ m.1)) q-is));
      engine_word_is = t.3 ∙ ap (word_of m.0.key (2 * node + 1)) p-is;
      intake_word_is = t.4 ∙ ap (word_of m.0.key (2 * node)) q-is;
      laid_is = laid-is;
    }

-- with both parts of a node out
module _ {laws : Laws} (key : LayoutView) (m : Sat) (node : ℕ) (e : EngineView) (engine_word laid : ℕ) (i : IntakeView) (intake_word : ℕ) (n : Sat) (key-is : m.0.key ≡ key) (idle : length m.0.turns ≡ 0) (t : TakesCell laws key m node e engine_word laid i intake_word n) where
  pub cell_parts : CellParts laws key node (an_engine e) (an_intake i) e i
  cell_parts = record {
    within = t.within;
    engine = t.engine;
    intake = t.intake;
    agree = λ x y is is'. subst (λ (v : EngineView). Agree v y) (some_same (Some e) e x refl is) (subst (λ (v : IntakeView). Agree e v) (some_same (Some i) i y refl is') t.found.agree);
    engine_is = refl;
    intake_is = refl;
  }

  -- the seat, and what it may give back
  abbrev Then : Sat
  Then = (turning m.0 (turn_of_word m.0.key (2 * node) (an_intake i) ∷ turn_of_word m.0.key (2 * node + 1) (an_engine e) ∷ m.0.turns), (2 * node, None) ∷ (2 * node + 1, None) ∷ m.1)

  module _ {X : Type 0} (r : Claimed X) (f : EngineView) (k : IntakeView) (facts : ClaimFacts laws key node (an_engine e) (an_intake i) (an_engine f) (an_intake k) m.0.work (has_after r m.0.work)) where
    pub cell_follows : Follows laws n.0.key (2 * node + 1) (an_engine f)
    cell_follows = subst (λ (s : Sat). Follows laws s.0.key (2 * node + 1) (an_engine f)) (sym t.then) (subst (λ (x : LayoutView). Follows laws x (2 * node + 1) (an_engine f)) (sym key-is) facts.follows_e)

    pub cell_back : GivesClaim laws n node (an_intake k) (an_engine f) (has_after r n.0.work)
    cell_back = subst (λ (s : Sat). GivesClaim laws s node (an_intake k) (an_engine f) (has_after r s.0.work)) (sym t.then) (record {
      t = turn_of_word m.0.key (2 * node) (an_intake i);
      u = turn_of_word m.0.key (2 * node + 1) (an_engine e);
      gives = record {
        slot = refl;
        turns = ap (λ (l : List Turn). turn_of_word m.0.key (2 * node) (an_intake i) ∷ turn_of_word m.0.key (2 * node + 1) (an_engine e) ∷ l) (nil m.0.turns idle);
        word_is = refl;
        grows = facts.grows;
        follows = subst (λ (x : LayoutView). Follows laws x (2 * node) (an_intake k)) (sym key-is) facts.follows_i;
      };
      within = subst (λ (x : LayoutView). node < nodes_in x) (sym key-is) t.within;
      node = refl;
      grew = facts.grew;
      agree = facts.agree;
      outs = facts.outs;
      joins = facts.joins;
      joins_there = facts.joins_there;
    })

    pub cell_done : (n' : Sat) → n' ≡ (cell_given n.0 node (an_engine f) (an_intake k) (has_after r n.0.work), rest (rest n.1)) → n' ≡ (cell_left m.0 node f k (has_after r m.0.work), m.1)
    cell_done n' back = back ∙ ap (λ (s : Sat). (cell_given s.0 node (an_engine f) (an_intake k) (has_after r s.0.work), rest (rest s.1))) t.then

  pub cell_counted : (f : EngineView) (k : IntakeView) → EngineGrows e f → ((port : ℕ) → Stays (port_queue i.waits port) (port_queue k.waits port)) → CellWords n.0.key node f engine_word laid k intake_word
  cell_counted f k grows stays = subst (λ (s : Sat). CellWords s.0.key node f engine_word laid k intake_word) (sym t.then)
      (cell_words m.0.key node e f i k engine_word laid intake_word (subst (λ (x : LayoutView). Follows laws x (2 * node + 1) (an_engine e)) (sym key-is) t.engine) t.engine_word_is t.laid_is t.intake_word_is grows stays)

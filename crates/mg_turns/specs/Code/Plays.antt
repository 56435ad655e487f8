-- What each step on the table tells: of the step, the seat before it, the number that it found, and the seat after it.
use Rattle.std.specs.Prelude.{◌≡◌, ◌≢◌, ◌⊎◌, ℕ, [], ◌+◌, ◌-◌, ◌*◌, length, None, ◌/◌, ◌%◌, ◌<◌, ◌≤◌, ◌∷◌, List, Option, Some, slice_get}
use mathlib.Core.Option.{some}
use lib.ListN.{get_elem?}
use Rattle.atomic_table.specs.Table.{Me, Step, rest}
use Rattle.mg_node.specs.Views.{IntakeView, WorkView, EngineView}
use Rattle.mg_turns.specs.Parts.{PartView, LayoutView, blank_layout, nodes_in, tally_since, an_engine, an_intake, PartGrows, Follows, AgreeParts, IsOutIn, IsMissingIn, source_at, JoinedParts}
use Rattle.mg_calc.specs.Rules.{Laws}
use Rattle.mg_calc.specs.declared.edge.Edge.{Edge}
use Rattle.mg_turns.specs.Turns.{Turn, Sight}
use Rattle.mg_turns.specs.Rule.{view, doubled, word_of, Sights}
use Rattle.mg_turns.specs.Sights.{Missed}
use Rattle.mg_turns.specs.declared.view.View.{View}

-- a seat: its view, and the slots that it took, each with what stands in it, the last one first
abbrev pub Sat : Type 0
Sat = Me (Option PartView) View

-- what a step tells
abbrev pub Play : Type 1
Play = Step (Option PartView) → Sat → ℕ → Sat → Type 0

-- a view with other turns
abbrev pub turning : View → List Turn → View
turning v turns = view v.key v.portion v.misses v.splits v.missed turns v.work v.seen

-- the turns without the one that was taken last
abbrev pub left : List Turn → List Turn
left [] = []
left (t ∷ ts) = ts

-- the view with one more miss, which names this word
abbrev pub with_miss : View → ℕ → View
with_miss v word = view v.key v.portion (v.misses + 1) v.splits (Some word) v.turns v.work v.seen

-- the turn of a word, with this part as the seat's note
abbrev pub turn_of_word : LayoutView → ℕ → PartView → Turn
turn_of_word key word p = record { word = word; tally = word_of key word p / 2; note = p }

-- what is known of a part whose turn is taken. It is what became of the part that was shared, and no less than what the seat
-- saw. If the seat has the turn of the node's engine, the part agrees with that engine. The seat's work is out of it. If the
-- seat has the turn of the engine from which an edge leads, no more came along the edge than is laid there
pub record Found (laws : Laws) (word : ℕ) (p : PartView) (v : View) : Type 0 where
  pub follows : Follows laws v.key word p
  pub sights : Sights word p v.seen
  pub agree : (n j : ℕ) (t : Turn) → word ≡ 2 * n → n < nodes_in v.key → get_elem? v.turns j ≡ some t → t.word ≡ 2 * n + 1 → AgreeParts t.note p
  pub out : (w : WorkView) → v.work ≡ Some w → 2 * w.node + 1 ≡ word → IsOutIn p w
  pub joined : (k j : ℕ) (e : Edge) (t : Turn) → slice_get v.key.plan.edges k ≡ Some e → word ≡ 2 * e.node → get_elem? v.turns j ≡ some t → t.word ≡ source_at v.key.plan e → JoinedParts t.note e p

-- a seat took the turn of a free word, and its slot with the part
abbrev pub Took : Laws → Sat → ℕ → ℕ → Sat → Type 0
Took laws m word r n = (p : PartView) × (n ≡ (turning m.0 (turn_of_word m.0.key word p ∷ m.0.turns), (word, Some p) ∷ m.1)) × Found laws word p m.0 × (r ≡ word_of m.0.key word p)

-- a step on a word: the turn of a free word is taken, and a held word is missed
abbrev pub tried_at : Laws → ℕ → Sat → ℕ → Sat → Type 0
tried_at laws word m r n = (r % 2 ≡ 0 → Took laws m word r n) × (r % 2 ≡ 1 → n ≡ (with_miss m.0 word, m.1))

-- a step that tries to take the turn of the word at its place; the words stand eight apart
abbrev pub tried : Laws → Play
tried laws st = tried_at laws (st.word / 8)

-- a look at a word: nothing changes at a free word, and a held word is missed
abbrev pub looked_at : ℕ → Sat → ℕ → Sat → Type 0
looked_at word m r n = (r % 2 ≡ 0 → n ≡ m) × (r % 2 ≡ 1 → n ≡ (with_miss m.0 word, m.1))

-- a step that looks at the word at its place
abbrev pub looked : Play
looked st = looked_at (st.word / 8)

-- two lists of turns are the same but for the notes, which may have grown
abbrev pub Alike : List Turn → List Turn → Type 0
Alike [] [] = Unit {0}
Alike (t ∷ ts) (u ∷ us) = (t.word ≡ u.word) × (t.tally ≡ u.tally) × PartGrows u.note t.note × Alike ts us
Alike _ _ = ⊥

-- between two parts nothing was claimed or laid: what agreed with the first agrees with the second, and the same works are out
pub record Like (q p : PartView) : Type 0 where
  pub agree : (r : PartView) → AgreeParts q r → AgreeParts p r
  pub agree_there : (r : PartView) → AgreeParts r q → AgreeParts r p
  pub out : (x : WorkView) → IsOutIn q x → IsOutIn p x
  pub only : (k : ℕ) → IsMissingIn p k → IsMissingIn q k

-- what was joined to the first of two parts is joined to the second
pub record Joins (q p : PartView) : Type 0 where
  pub from : (e : Edge) (r : PartView) → JoinedParts q e r → JoinedParts p e r
  pub to : (e : Edge) (r : PartView) → JoinedParts r e q → JoinedParts r e p

-- between two parts a work came back: all others that were out stay out
pub record Back (q p : PartView) (w : WorkView) : Type 0 where
  pub agree : (r : PartView) → AgreeParts q r → AgreeParts p r
  pub out : (x : WorkView) → IsOutIn q x → x.number ≢ w.number → IsOutIn p x
  pub only : (k : ℕ) → IsMissingIn p k → IsMissingIn q k × (k ≢ w.number)

-- between two parts a work went out: it is apart from all that were out before, and these stay out
pub record Goes (q p : PartView) (w : WorkView) : Type 0 where
  pub it : IsOutIn p w
  pub apart : (x : WorkView) → IsOutIn q x → x.number ≢ w.number
  pub out : (x : WorkView) → IsOutIn q x → IsOutIn p x
  pub only : (k : ℕ) → IsMissingIn p k → (w.number ≡ k) ⊎ IsMissingIn q k

-- the turn that was taken last is given back with the part p, and the view is then w
abbrev pub Returns : View → ℕ → PartView → View → Type 0
Returns v word p w =
    Alike w.turns (left v.turns) × (w.key ≡ v.key) × (w.portion ≡ v.portion) × (w.seen ≡ record { word = word; part = p } ∷ v.seen)

-- the note of the turn that was taken last, or another part if there is no turn
abbrev pub note_or : PartView → List Turn → PartView
note_or d [] = d
note_or d (t ∷ ts) = t.note

-- the turn is given back with a part at which nothing was claimed or laid
abbrev pub Plainly : View → ℕ → PartView → View → Type 0
Plainly v word p w = (w.turns ≡ left v.turns) × (w.work ≡ v.work) × Like (note_or p v.turns) p × Joins (note_or p v.turns) p

-- the turn is given back with an engine to which the seat's work came back; it was the seat's only turn
pub record Lays (v : View) (word : ℕ) (p : PartView) (w : View) : Type 0 where
  pub it : WorkView
  pub node : word ≡ 2 * it.node + 1
  pub within : it.node < nodes_in v.key
  pub none : length w.turns ≡ 0
  pub had : v.work ≡ Some it
  pub has : w.work ≡ None
  pub back : Back (note_or p v.turns) p it
  pub joins : Joins (note_or p v.turns) p

-- the works that are out of the part stay the same. Or one more work is out, and the seat that had none has it
abbrev pub Outs : ℕ → PartView → PartView → Option WorkView → Option WorkView → Type 0
Outs n q p had has = ((has ≡ had) × ((x : WorkView) → IsOutIn q x → IsOutIn p x) × ((k : ℕ) → IsMissingIn p k → IsMissingIn q k))
    ⊎ ((x : WorkView) × (had ≡ None) × (has ≡ Some x) × (x.node ≡ n) × Goes q p x)

-- the turn of a node's intake is given back, and the seat, which has the turn of the node's engine, notes what became of that
pub record ClaimsInTurn (v : View) (word : ℕ) (p : PartView) (w : View) : Type 0 where
  pub n : ℕ
  pub within : n < nodes_in v.key
  pub node : word ≡ 2 * n
  pub t : Turn
  pub u : Turn
  pub now : w.turns ≡ t ∷ []
  pub before : left v.turns ≡ u ∷ []
  pub at_u : u.word ≡ 2 * n + 1
  pub at_t : t.word ≡ 2 * n + 1
  pub agree : AgreeParts t.note p
  pub outs : Outs n u.note t.note v.work w.work
  pub joins : Joins u.note t.note
  pub joins_there : Joins (note_or p v.turns) p

-- the turn of the intake to which an edge leads is given back, and more came along the edge. No more came than was laid at the
-- edge's engine, and the seat has that engine's turn. The other ports have what they had
pub record BringsInTurn (v : View) (word : ℕ) (p : PartView) (w : View) : Type 0 where
  pub k : ℕ
  pub e : Edge
  pub there : slice_get v.key.plan.edges k ≡ Some e
  pub node : word ≡ 2 * e.node
  pub u : Turn
  pub now : w.turns ≡ u ∷ []
  pub before : left v.turns ≡ u ∷ []
  pub at_u : u.word ≡ source_at v.key.plan e
  pub same : w.work ≡ v.work
  pub like : Like (note_or p v.turns) p
  pub joined : JoinedParts u.note e p
  pub others : (l : ℕ) (x : Edge) (r : PartView) → l ≢ k → slice_get v.key.plan.edges l ≡ Some x → x.node ≡ e.node → JoinedParts r x (note_or p v.turns) → JoinedParts r x p

-- how a turn is given back, in one of four ways. Nothing was claimed or laid at the part, or a work came back to the engine. Or
-- something was claimed at the intake's node, or an edge brought more to the intake
abbrev pub GivesTurnBack : View → ℕ → PartView → View → Type 0
GivesTurnBack v word p w = Plainly v word p w ⊎ (Lays v word p w ⊎ (ClaimsInTurn v word p w ⊎ BringsInTurn v word p w))

-- the sights of a view with one more, of a word's part
abbrev pub saw : View → ℕ → PartView → List Sight
saw v word p = record { word = word; part = p } ∷ v.seen

-- the view of a seat that gave back the turn of this word, with the part p
abbrev pub gave : View → ℕ → PartView → View
gave v word p = view v.key v.portion v.misses v.splits v.missed (left v.turns) v.work (saw v word p)

-- the seat took this slot last, with a part for which P holds
abbrev pub Holds : Sat → ℕ → (PartView → Type 0) → Type 0
Holds m word P = (p : PartView) × (m.1 ≡ (word, Some p) ∷ rest m.1) × P p

-- the seat took this turn last, and the part p is no less than its note
abbrev pub HasTurn : View → ℕ → PartView → Type 0
HasTurn v word p = (t : Turn) × (ts : List Turn) × (v.turns ≡ t ∷ ts) × (t.word ≡ word) × PartGrows t.note p

-- the view of a seat that was joined to another one
abbrev pub spent_view : View
spent_view = view blank_layout 0 0 0 None [] None []

-- between two calls a seat has a portion, and neither a turn nor a part
abbrev pub Idle : Sat → Type 0
Idle m = (0 < m.0.portion) × (length m.0.turns ≡ 0) × (length m.1 ≡ 0)

-- the seat has the turn of the word, and its part p is out of the slot
abbrev pub HoldsTurn : Laws → Sat → ℕ → PartView → Sat → Type 0
HoldsTurn laws m word p n = (n ≡ (turning m.0 (turn_of_word m.0.key word p ∷ m.0.turns), (word, None) ∷ m.1)) × Found laws word p m.0

-- the seat took the turn t last, and may give it back with the part p
pub record MayGiveBack (laws : Laws) (m : Sat) (word : ℕ) (p : PartView) (t : Turn) (ts : List Turn) : Type 0 where
  pub slot : m.1 ≡ (word, None) ∷ rest m.1
  pub turns : m.0.turns ≡ t ∷ ts
  pub word_is : t.word ≡ word
  pub grows : PartGrows t.note p
  pub follows : Follows laws m.0.key word p

-- a seat may give back a part at which nothing was claimed or laid
abbrev pub GivesPlainly : Laws → Sat → ℕ → PartView → Type 0
GivesPlainly laws m word p = (t : Turn) × (ts : List Turn) × MayGiveBack laws m word p t ts × Like t.note p × Joins t.note p

-- a seat may give back the intake of node n, whose engine became f; the seat has this work then
pub record GivesClaim (laws : Laws) (m : Sat) (n : ℕ) (p f : PartView) (has : Option WorkView) : Type 0 where
  pub t : Turn
  pub u : Turn
  pub gives : MayGiveBack laws m (2 * n) p t (u ∷ [])
  pub within : n < nodes_in m.0.key
  pub node : u.word ≡ 2 * n + 1
  pub grew : PartGrows u.note f
  pub agree : AgreeParts f p
  pub outs : Outs n u.note f m.0.work has
  pub joins : Joins u.note f
  pub joins_there : Joins t.note p

-- a seat may give back an intake to which more came along an edge
pub record GivesBrought (laws : Laws) (m : Sat) (word : ℕ) (p : PartView) : Type 0 where
  pub k : ℕ
  pub e : Edge
  pub there : slice_get m.0.key.plan.edges k ≡ Some e
  pub node : word ≡ 2 * e.node
  pub t : Turn
  pub u : Turn
  pub gives : MayGiveBack laws m word p t (u ∷ [])
  pub at_u : u.word ≡ source_at m.0.key.plan e
  pub like : Like t.note p
  pub joined : JoinedParts u.note e p
  pub others : (l : ℕ) (x : Edge) (r : PartView) → l ≢ k → slice_get m.0.key.plan.edges l ≡ Some x → x.node ≡ e.node → JoinedParts r x t.note → JoinedParts r x p

-- a seat may give back an engine to which the seat's work came back
pub record GivesLaid (laws : Laws) (m : Sat) (word : ℕ) (p : PartView) : Type 0 where
  pub w : WorkView
  pub node : word ≡ 2 * w.node + 1
  pub t : Turn
  pub gives : MayGiveBack laws m word p t []
  pub within : w.node < nodes_in m.0.key
  pub had : m.0.work ≡ Some w
  pub back : Back t.note p w
  pub joins : Joins t.note p

-- some turns with another note in the first one
abbrev pub with_note : PartView → List Turn → List Turn
with_note f [] = []
with_note f (t ∷ ts) = record { word = t.word; tally = t.tally; note = f } ∷ ts

-- the view of a seat that gave back a node's intake p after a claim, and noted what became of the engine
abbrev pub claimed_view : View → ℕ → PartView → PartView → Option WorkView → View
claimed_view v n p f has = view v.key v.portion v.misses v.splits v.missed (with_note f (left v.turns)) has (saw v (2 * n) p)

-- the view of a seat that gave back an engine with its work
abbrev pub laid_view : View → ℕ → PartView → View
laid_view v word p = view v.key v.portion v.misses v.splits v.missed (left v.turns) None (saw v word p)

-- a seat took two turns, whose words were r and s
abbrev pub TakenPair : Laws → Sat → ℕ → PartView → ℕ → ℕ → PartView → ℕ → Sat → Type 0
TakenPair laws m first p r second q s n = (o : Sat) × HoldsTurn laws m first p o × HoldsTurn laws o second q n × (r ≡ word_of m.0.key first p) × (s ≡ word_of m.0.key second q)

-- a seat missed one of two turns, and keeps neither
abbrev pub MissedPair : Laws → Sat → ℕ → ℕ → ℕ → Sat → Type 0
MissedPair laws m first second word n = Missed laws first second word m.0 n.0 × (n.1 ≡ m.1)

-- what is known of the words of a cell that is out: the engine's word had this tally when `laid` sets were laid
pub record CellWords (key : LayoutView) (node : ℕ) (e : EngineView) (engine_word laid : ℕ) (i : IntakeView) (intake_word : ℕ) : Type 0 where
  pub tally : ℕ
  pub found : engine_word ≡ doubled tally
  pub more : laid ≤ e.laid
  pub now : tally + (e.laid - laid) ≡ tally_since key (2 * node + 1) (an_engine e)
  pub intake : intake_word ≡ word_of key (2 * node) (an_intake i)

-- the view of a seat that gave back the intake of a node and then its engine
abbrev pub cell_given : View → ℕ → PartView → PartView → Option WorkView → View
cell_given v n f k has = gave (claimed_view v n k f has) (2 * n + 1) f

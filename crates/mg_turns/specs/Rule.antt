-- The rule of the table. The lowest bit of a word says that a seat has its turn.
use Rattle.std.specs.Prelude.{◌≡◌, ◌≢◌, ℕ, zero, suc, ◌+◌, ◌*◌, ◌/◌, ◌%◌, ◌<◌, ◌==◌, ◌⊎◌, List, [], ◌∷◌, length, drop, slice_index, slice_get, cond, Option, None, Some}
use mathlib.Core.Option.{some, none}
use mathlib.Core.Option as maybe
use lib.ListN.{get_elem?}
use Rattle.atomic_table.specs.Table.{State}
use Rattle.mg_node.specs.Views.{WorkView}
pub use Rattle.mg_turns.specs.Sums.{total}
use Rattle.mg_turns.specs.Parts.{PartView, LayoutView, at, nodes_in, tally_since, owner_in, IsKind, PartGrows, Follows, AgreeParts, IsOutIn, IsMissingIn, source_at, JoinedParts, EdgesFit}
use Rattle.mg_calc.specs.Rules.{Laws}
use Rattle.mg_calc.specs.declared.edge.Edge.{Edge}
use Rattle.mg_turns.specs.Turns.{Turn, Sight}
use Rattle.mg_turns.specs.declared.view.View.{View}

-- a view by its fields
abbrev pub view : LayoutView → ℕ → ℕ → ℕ → Option ℕ → List Turn → Option WorkView → List Sight → View
view key portion misses splits missed turns work seen =
    record { key = key; portion = portion; misses = misses; splits = splits; missed = missed; turns = turns; work = work; seen = seen }

-- the word of a free part: twice its tally, in 64 bits
abbrev pub doubled : ℕ → ℕ
doubled tally = tally * 2 % 18446744073709551616

-- the word of a part while it is free
abbrev pub word_of : LayoutView → ℕ → PartView → ℕ
word_of key word p = doubled (tally_since key word p)

-- the part of a free word is in its slot, and the word has the part's tally. The part is what became of the part that was
-- shared there
abbrev pub Lies : Laws → LayoutView → List (maybe.Option (Option PartView)) → ℕ → ℕ → Type 0
Lies laws key homes i w = (p : PartView) × (get_elem? homes i ≡ some (some (Some p))) × (w ≡ word_of key i p) × Follows laws key i p

-- a part is no less than what each of some sights of its word saw
abbrev pub Sights : ℕ → PartView → List Sight → Type 0
Sights i p [] = Unit {0}
Sights i p (x ∷ xs) = (x.word ≡ i → PartGrows x.part p) × Sights i p xs

-- 1 if a turn is that of a word, and otherwise 0
abbrev pub is_turn_of : ℕ → Turn → ℕ
is_turn_of i t = cond (t.word == i) 1 0

-- how many turns of a word a view has
abbrev pub has_turn : ℕ → View → ℕ
has_turn i v = total (is_turn_of i) v.turns

-- the view of the seat that has a net when it is shared: it has the whole portion
abbrev pub first_view : LayoutView → View
first_view key = view key 4294967296 0 0 None [] None []

-- the slots of a table
abbrev pub Homes : Type 0
Homes = List (maybe.Option (Option PartView))

-- the part of a word stands in its slot
abbrev pub InSlot : Homes → ℕ → PartView → Type 0
InSlot homes i d = get_elem? homes i ≡ some (some (Some d))

-- a seat that has the turn of a word noted this part of it
abbrev pub Noted : List View → ℕ → PartView → Type 0
Noted views i d = (j : ℕ) × (k : ℕ) × (v : View) × (t : Turn) × (get_elem? views j ≡ some v) × (get_elem? v.turns k ≡ some t) × (t.word ≡ i) × (d ≡ t.note)

-- the part of a word as it stands in its slot, or as the seat that has its turn noted it
abbrev pub Shown : Homes → List View → ℕ → PartView → Type 0
Shown homes views i d = InSlot homes i d ⊎ Noted views i d

-- some view has the work of this number of a node
abbrev pub HasWork : List View → ℕ → ℕ → Type 0
HasWork views node number = (j : ℕ) × (v : View) × (w : WorkView) × (get_elem? views j ≡ some v) × (v.work ≡ Some w) × (w.node ≡ node) × (w.number ≡ number)

-- no two views have the same work
abbrev pub WorksApart : List View → Type 0
WorksApart views = (j k : ℕ) (v u : View) (w x : WorkView) → j ≢ k → get_elem? views j ≡ some v → get_elem? views k ≡ some u → v.work ≡ Some w → u.work ≡ Some x → w.node ≡ x.node → w.number ≢ x.number

-- what holds between the parts and the views of a table
pub record Linked (key : LayoutView) (homes : Homes) (views : List View) : Type 0 where
  -- the engine and the intake of a node agree
  pub matched : (n : ℕ) (p q : PartView) → n < nodes_in key → Shown homes views (2 * n + 1) p → Shown homes views (2 * n) q → AgreeParts p q
  -- each work of a view is out of its engine, and no two views have the same work. Each work that is out is in a view
  pub within : (j : ℕ) (v : View) (w : WorkView) → get_elem? views j ≡ some v → v.work ≡ Some w → w.node < nodes_in key
  pub out : (j : ℕ) (v : View) (w : WorkView) (p : PartView) → get_elem? views j ≡ some v → v.work ≡ Some w → Shown homes views (2 * w.node + 1) p → IsOutIn p w
  pub apart : WorksApart views
  pub complete : (n number : ℕ) (p : PartView) → n < nodes_in key → Shown homes views (2 * n + 1) p → IsMissingIn p number → HasWork views n number
  -- no more came to the port of an edge than was laid at its output
  pub joined : (k : ℕ) (e : Edge) (p q : PartView) → slice_get key.plan.edges k ≡ Some e → Shown homes views (source_at key.plan e) p → Shown homes views (2 * e.node) q → JoinedParts p e q
  -- a view without a portion has no work
  pub idle : (j : ℕ) (v : View) → get_elem? views j ≡ some v → v.portion ≡ 0 → v.work ≡ None

-- what holds of the words, the slots and the views of a table
pub record Orderly (laws : Laws) (key : LayoutView) (s : State (Option PartView) View) : Type 0 where
  pub wide : length s.words ≡ length s.homes
  pub long : length s.homes ≡ length key.parts
  pub few : 2 * nodes_in key < length key.parts
  pub edges : EdgesFit key
  -- each view with a portion names the key
  pub keyed : (j : ℕ) (v : View) → get_elem? s.views j ≡ some v → 0 < v.portion → v.key ≡ key
  -- the portions add up to the whole, and a view without a portion has no turn
  pub whole : total (λ (v : View). v.portion) s.views ≡ 4294967296
  pub spent : (j : ℕ) (v : View) → get_elem? s.views j ≡ some v → v.portion ≡ 0 → length v.turns ≡ 0
  -- no two views have the same turn, and a word is odd exactly if a view has its turn
  pub turns : (i : ℕ) → i < length s.homes → total (has_turn i) s.views ≡ slice_index s.words i % 2
  -- half of a held word is the tally that its holder found
  pub tallies : (j k : ℕ) (v : View) (t : Turn) → get_elem? s.views j ≡ some v → get_elem? v.turns k ≡ some t → slice_index s.words t.word / 2 ≡ t.tally
  -- a free word is twice the tally of the part in its slot, which is what became of the one that was shared
  pub free : (i : ℕ) → i < length s.homes → slice_index s.words i % 2 ≡ 0 → Lies laws key s.homes i (slice_index s.words i)
  -- a slot is empty if its word is held
  pub taken : (i : ℕ) → i < length s.homes → slice_index s.words i % 2 ≡ 1 → get_elem? s.homes i ≡ some none
  -- no view saw more of a part than what stands in its slot
  pub seen_free : (i : ℕ) (p : PartView) → i < length s.homes → slice_index s.words i % 2 ≡ 0 → get_elem? s.homes i ≡ some (some (Some p)) → (j : ℕ) (v : View) → get_elem? s.views j ≡ some v → Sights i p v.seen
  -- no view saw more of a part than the note of the seat that has its turn
  pub seen_held : (j k : ℕ) (v : View) (t : Turn) → get_elem? s.views j ≡ some v → get_elem? v.turns k ≡ some t → (l : ℕ) (u : View) → get_elem? s.views l ≡ some u → Sights t.word t.note u.seen

-- a layout that can be shared: its edges fit, the cells agree, and no work is out
pub record Ready (key : LayoutView) : Type 0 where
  pub few : 2 * nodes_in key < length key.parts
  pub edges : EdgesFit key
  pub joined : (k : ℕ) (e : Edge) → slice_get key.plan.edges k ≡ Some e → JoinedParts (at key (source_at key.plan e)) e (at key (2 * e.node))
  pub kinds : (i : ℕ) → i < length key.parts → IsKind (owner_in key i) (at key i)
  pub matched : (n : ℕ) → n < nodes_in key → AgreeParts (at key (2 * n + 1)) (at key (2 * n))
  pub none : (n number : ℕ) → n < nodes_in key → IsMissingIn (at key (2 * n + 1)) number → ⊥

-- the rule of a table that has the words of its parts alone
abbrev pub Ruled : Laws → LayoutView → State (Option PartView) View → Type 0
Ruled laws key s = Orderly laws key s × Linked key s.homes s.views

-- this many words of a list: every eighth word, from the first on. The words of the parts stand eight apart in the table, so
-- that those of two parts are never in one line of a cache. The words between them are not used
abbrev pub each_eighth : ℕ → List ℕ → List ℕ
each_eighth zero words = []
each_eighth (suc n) words = slice_index words 0 ∷ each_eighth n (drop 8 words)

-- a table with the words of its parts alone
abbrev pub parts_alone : LayoutView → State (Option PartView) View → State (Option PartView) View
parts_alone key s = record { words = each_eighth (length key.parts) s.words; homes = s.homes; views = s.views }

-- the rule of a table
abbrev pub RuledApart : Laws → LayoutView → State (Option PartView) View → Type 0
RuledApart laws key s = (length s.words ≡ 8 * length key.parts) × Ruled laws key (parts_alone key s)

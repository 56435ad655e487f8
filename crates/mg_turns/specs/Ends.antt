-- What a shared net gives back at its end. Each part is what became of the part that was shared, the cells agree, and no work
-- is out.
use Rattle.std.specs.Prelude.{◌≡◌, ℕ, ◌+◌, ◌*◌, ◌<◌, List, Some, length, slice_get}
use Rattle.mg_turns.specs.Parts.{PartView, LayoutView, at, nodes_in, Follows, AgreeParts, IsMissingIn, source_at, JoinedParts}
use Rattle.mg_calc.specs.Rules.{Laws}
use Rattle.mg_calc.specs.declared.edge.Edge.{Edge}
use Rattle.mg_turns.specs.Rule.{Sights}
use Rattle.mg_turns.specs.declared.view.View.{View}

-- a layout with other parts
abbrev pub with_parts : LayoutView → List PartView → LayoutView
with_parts key parts = record { plan = key.plan; parts = parts }

-- the parts that a net gives back to the last seat, whose view is v
pub record Unshared (laws : Laws) (key : LayoutView) (v : View) (parts : List PartView) : Type 0 where
  pub count : length parts ≡ length key.parts
  pub follows : (i : ℕ) → i < length key.parts → Follows laws key i (at (with_parts key parts) i)
  -- no part is less than what the seat saw of it
  pub sights : (word : ℕ) → word < length key.parts → Sights word (at (with_parts key parts) word) v.seen
  pub matched : (n : ℕ) → n < nodes_in key → AgreeParts (at (with_parts key parts) (2 * n + 1)) (at (with_parts key parts) (2 * n))
  pub none : (n number : ℕ) → n < nodes_in key → IsMissingIn (at (with_parts key parts) (2 * n + 1)) number → ⊥
  pub joined : (k : ℕ) (e : Edge) → slice_get key.plan.edges k ≡ Some e → JoinedParts (at (with_parts key parts) (source_at key.plan e)) e (at (with_parts key parts) (2 * e.node))

-- How far the parts of a net are woven.
use Rattle.std.specs.Prelude.{◌≡◌, ℕ, ◌<◌, List, ◌++◌, length, reverse, slice_index_or}
use Rattle.std.specs.List.{filter_map}
use Rattle.mg_node.specs.Views.{IntakeView, EngineView}
use Rattle.mg_turns.specs.Words.{whose}
use Rattle.mg_turns.specs.Parts.{PartView, blank_part, IsKind}

-- the engines among parts, in their order
abbrev pub engines_in : List PartView → List EngineView
engines_in parts = filter_map (λ (p : PartView). p.engine) parts

-- the intakes among parts, in their order
abbrev pub intakes_in : List PartView → List IntakeView
intakes_in parts = filter_map (λ (p : PartView). p.intake) parts

-- each part is of the kind of its word
abbrev pub AreKinds : ℕ → List PartView → Type 0
AreKinds nodes parts = (word : ℕ) → word < length parts → IsKind (whose nodes word) (slice_index_or parts word blank_part)

-- the first of some engines and intakes are parts, in the order of their words. The others still lie in two lists, the last
-- ones first
pub record IsWovenFrom (nodes : ℕ) (es : List EngineView) (is : List IntakeView) (parts : List PartView) (engines : List EngineView) (intakes : List IntakeView) : Type 0 where
  pub engines_are : engines_in parts ++ reverse engines ≡ es
  pub intakes_are : intakes_in parts ++ reverse intakes ≡ is
  pub kinds : AreKinds nodes parts

-- The numbers at the ports of a node.
use Rattle.std.specs.Prelude.{◌≡◌, ℕ, ◌+◌, List, [], ◌∷◌, length, map}
use Rattle.std.specs.List.{range_with_len}
use Rattle.mg_check.specs.Drafts.{DraftView}
use Rattle.mg_check.specs.Names.{number_among}
use Rattle.mg_check.specs.declared.nodes.Numbers.{Numbers}

-- The numbers are those at the ports of a node whose first output is the stream of this number.
pub record AreNumbers (numbers : Numbers) (streams sides : List (List ℕ)) (first : ℕ) (d : DraftView) : Type 0 where
  pub at_inputs : numbers.inputs ≡ map (number_among streams) d.inputs
  pub at_outputs : numbers.outputs ≡ range_with_len first (length d.outputs)
  pub at_sides : numbers.sides ≡ map (number_among sides) d.sides

-- the number of the first stream after the outputs of these drafts, if their first output has this number
abbrev pub next_after : ℕ → List DraftView → ℕ
next_after first [] = first
next_after first (d ∷ ds) = next_after (first + length d.outputs) ds

-- The names of a draft, by the part that they are.
use Rattle.std.specs.Prelude.{ℕ, List}
use Rattle.mg_check.specs.Drafts.{DraftView}
use Rattle.mg_check.specs.declared.part.Part.{Part}
use Rattle.mg_check.specs.declared.part.Part.TheVariants.{Inputs, Outputs, Sides, SideOutputs}

abbrev pub part_names : Part → DraftView → List (List ℕ)
part_names Inputs d = d.inputs
part_names Outputs d = d.outputs
part_names Sides d = d.sides
part_names SideOutputs d = d.side_outputs

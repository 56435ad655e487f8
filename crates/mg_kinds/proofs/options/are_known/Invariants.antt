use Rattle.std.proofs.Common.{◌≡◌, drop}
use Rattle.mg_kinds.specs.Kinds.{names_of}
use Rattle.mg_kinds.specs.Options.{are_known}
use Rattle.mg_kinds.specs.Views.{fields_of}
use Rattle.mg_kinds.proofs.options.are_known.Given as goal

abbrev pub invariant-loop-option : goal.invariant-loop-option
invariant-loop-option l = are_known (names_of l.names) (fields_of l.options) ≡ are_known (names_of l.names) (fields_of (drop l.option-index l.options))

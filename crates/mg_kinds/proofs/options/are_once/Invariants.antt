use Rattle.std.proofs.Common.{◌≡◌, drop}
use Rattle.mg_kinds.specs.Kinds.{names_of}
use Rattle.mg_kinds.specs.Options.{are_once}
use Rattle.mg_kinds.specs.Views.{fields_of}
use Rattle.mg_kinds.proofs.options.are_once.Given as goal

abbrev pub invariant-loop-name : goal.invariant-loop-name
invariant-loop-name l = are_once (names_of l.names) (fields_of l.options) ≡ are_once (names_of (drop l.name-index l.names)) (fields_of l.options)

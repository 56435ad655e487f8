use Rattle.std.proofs.Common.{◌≡◌, drop}
use Rattle.mg_kinds.specs.Options.{set_to}
use Rattle.mg_kinds.specs.Views.{fields_of}
use Rattle.mg_kinds.proofs.options.set_to.Given as goal

abbrev pub invariant-loop-option : goal.invariant-loop-option
invariant-loop-option l = set_to l.name (fields_of l.options) ≡ set_to l.name (fields_of (drop l.option-index l.options))

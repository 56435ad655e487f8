use Rattle.std.proofs.Common.{◌≡◌, take, map}
use Rattle.mg_calc.specs.Row.{said}
use Rattle.mg_kinds.specs.Kinds.{names_of, settings_of}
use Rattle.mg_kinds.specs.Views.{fields_of}
use Rattle.mg_kinds.proofs.said.settings_in.Given as goal

abbrev pub invariant-loop-name : goal.invariant-loop-name
invariant-loop-name l = map said l.settings.items ≡ settings_of (names_of (take l.name-index l.names)) (fields_of l.options)

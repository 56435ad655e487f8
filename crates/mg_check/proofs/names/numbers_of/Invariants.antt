-- The list so far, followed by what the remaining texts give, is the whole list.
use Rattle.std.proofs.Common.{◌≡◌, ◌++◌, drop, map}
use Rattle.mg_kinds.specs.Kinds.{names_of}
use Rattle.mg_check.specs.Names.{number_among}
use Rattle.mg_check.proofs.names.numbers_of.Given as goal

abbrev pub invariant-loop-text : goal.invariant-loop-text
invariant-loop-text l = l.numbers.items ++ map (number_among l.names) (names_of (drop l.text-index l.texts)) ≡ map (number_among l.names) (names_of l.texts)

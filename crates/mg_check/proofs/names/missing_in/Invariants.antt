-- The first missing name among the remaining texts is the first among all texts.
use Rattle.std.proofs.Common.{◌≡◌, drop}
use Rattle.mg_kinds.specs.Kinds.{names_of}
use Rattle.mg_check.specs.Names.{first_missing}
use Rattle.mg_check.proofs.names.missing_in.Given as goal

abbrev pub invariant-loop-text : goal.invariant-loop-text
invariant-loop-text l = first_missing l.names (names_of l.texts) ≡ first_missing l.names (names_of (drop l.text-index l.texts))

use Rattle.std.proofs.Common.{◌≡◌, drop}
use Rattle.mg_config.specs.Number.{is_one_of}
use Rattle.mg_kinds.specs.Kinds.{names_of}
use Rattle.mg_kinds.proofs.options.is_one_of.Given as goal

abbrev pub invariant-loop-word : goal.invariant-loop-word
invariant-loop-word l = is_one_of (names_of l.names) l.name ≡ is_one_of (names_of (drop l.word-index l.names)) l.name

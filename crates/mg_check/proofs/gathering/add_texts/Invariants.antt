-- The list so far, followed by what the remaining texts give, is the whole list.
use Rattle.std.proofs.Common.{◌≡◌, ◌++◌, drop}
use Rattle.mg_kinds.specs.Kinds.{names_of}
use Rattle.mg_check.proofs.gathering.add_texts.Given as goal

abbrev pub invariant-loop-text : goal.invariant-loop-text
invariant-loop-text l = names_of l.out.items ++ names_of (drop l.text-index l.texts) ≡ names_of l.fn.out.items ++ names_of l.texts

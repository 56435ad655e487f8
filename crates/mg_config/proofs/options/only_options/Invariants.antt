use Rattle.mg_text.specs.Tree.{none}
use Rattle.mg_config.proofs.Joined.{AreJoined}
use Rattle.mg_config.proofs.options.only_options.Given as goal

abbrev pub invariant-loop-i : goal.invariant-loop-i
invariant-loop-i l = AreJoined l.fields l.i none

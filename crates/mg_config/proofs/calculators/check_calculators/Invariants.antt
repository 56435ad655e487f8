use Rattle.mg_config.proofs.Named.{AreNamed}
use Rattle.mg_config.proofs.calculators.check_calculators.Given as goal

abbrev pub invariant-loop-field : goal.invariant-loop-field
invariant-loop-field l = AreNamed l.fields l.field-index l.k

-- The ports from this one on decide.
use Rattle.std.proofs.Common.{◌≡◌}
use Rattle.mg_calc.specs.Kinds.{has_wrong_kind}
use Rattle.mg_calc.proofs.KindLemmas.{wrong_from}
use Rattle.mg_calc.proofs.kinds.has_wrong_kind.Given as goal

abbrev pub invariant-loop-port : goal.invariant-loop-port
invariant-loop-port l = wrong_from l.law l.port l.set ≡ has_wrong_kind l.law l.set

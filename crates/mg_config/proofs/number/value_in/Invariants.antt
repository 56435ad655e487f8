use Rattle.mg_config.proofs.Digits.{AreRead}
use Rattle.mg_config.proofs.number.value_in.Given as goal

abbrev pub invariant-loop-byte : goal.invariant-loop-byte
invariant-loop-byte l = AreRead l.base l.most l.digits l.byte-index l.value

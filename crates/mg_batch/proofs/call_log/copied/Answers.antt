use Rattle.std.proofs.Common.{None, arith}
use Rattle.std.proofs.lemmas.List.{ext_get_or}
use Rattle.mg_batch.proofs.call_log.copied.Goals as goal

pub returns : goal.returns
returns c =
    ext_get_or None c.loop-port.copy c.args.set.now c.loop-port.invariant.0
    (λ k below. c.loop-port.invariant.1 k (omega (arith, c.loop-port.invariant.0, c.loop-port-test.false, c.len-port-end.ensures)))

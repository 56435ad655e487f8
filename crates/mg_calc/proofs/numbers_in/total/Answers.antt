use Rattle.std.proofs.Common.{◌<◌, length, arith}
use Rattle.std.proofs.lemmas.Int.{ints}
use Rattle.mg_calc.proofs.NumberLemmas.{total-take-more}
use Rattle.mg_calc.proofs.numbers_in.total.Goals as goal

pub loop-port-preserved : goal.loop-port-preserved
loop-port-preserved c =
    let below : c.loop-port.port < length c.args.set.now = omega (arith, c.len-port-end.ensures) in
    let step = total-take-more c.loop-port.port c.args.set.now below in
    (omega (arith, ints), omega (arith, ints), omega (arith, ints))

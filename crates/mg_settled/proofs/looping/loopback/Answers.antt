use Rattle.std.proofs.Common.{None, refl}
use Rattle.mg_settled.proofs.LoopbackFurther.{whole-loopback}
use Rattle.mg_settled.proofs.looping.loopback.Goals as goal

pub returns : goal.returns
returns c =
    whole-loopback c.args.main.now c.args.back.now c.of-main.result c.of-back.result _ _ c.read_up_to-bound.result _ c.of-main.ensures c.of-back.ensures c.read_up_to-bound.ensures (c.in_ok-packets.ensures None refl tt)

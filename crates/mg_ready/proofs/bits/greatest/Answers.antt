use Rattle.std.proofs.Common.{arith}
use Rattle.mg_ready.proofs.BitSets.{IsGreatest-found}
use Rattle.mg_ready.proofs.bits.greatest.Goals as goal

pub overflow_mul-result : goal.overflow_mul-result
overflow_mul-result c = omega arith

pub overflow_add-result : goal.overflow_add-result
overflow_add-result c = omega arith

pub returns-then-word-ne0 : goal.returns-then-word-ne0
returns-then-word-ne0 c =
    IsGreatest-found _ _ _ (omega arith) c.ilog2.ensures.bound c.ilog2.ensures.power_le c.ilog2.ensures.next_power_gt
    (λ j later. c.loop-i.invariant j (omega arith))

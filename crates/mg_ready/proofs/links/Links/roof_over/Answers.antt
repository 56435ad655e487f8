use Rattle.std.proofs.Common.{ap, length, arith}
use Rattle.mg_ready.proofs.Slots.{is_linked-end}
use Rattle.mg_ready.proofs.links.Links.roof_over.Goals as goal

pub overflow_add-upper : goal.overflow_add-upper
overflow_add-upper c = omega arith

pub loop-self-init : goal.loop-self-init
loop-self-init c =
    let same = ap length c.self.view_is in
    (omega arith, omega arith, is_linked-end _ _ (omega arith))

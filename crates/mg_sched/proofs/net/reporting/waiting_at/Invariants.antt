-- The first intakes are counted.
use Rattle.std.proofs.Common.{◌≡◌, ◌-◌, ◌^◌, min, take, sum_by}
use Rattle.mg_node.specs.Views.{IntakeView}
use Rattle.mg_node.specs.Ports.{waiting_in}
use Rattle.mg_sched.proofs.net.reporting.waiting_at.Given as goal

abbrev pub invariant-loop-intake : goal.invariant-loop-intake
invariant-loop-intake l = l.held ≡ min (sum_by (λ (i : IntakeView). waiting_in i.waits) (take l.intake-index l.intakes)) (2 ^ 64 - 1)

use Rattle.std.proofs.Common.{◌≡◌, ◌≤◌, ◌-◌}
use Rattle.mg_node.specs.Code.Bringing.{Brought}
use Rattle.mg_node.proofs.delivery.bring_all.Given as goal

-- so many have come
abbrev pub invariant-loop-packets : goal.invariant-loop-packets
invariant-loop-packets l = record {
  brought : Brought l.output l.port l.packets l.initial.intake.waits l.intake.waits;
  most : l.packets ≤ l.most;
  claimed : l.intake.claimed ≡ l.initial.intake.claimed;
  still : l.packets ≡ 0 → l.intake ≡ l.initial.intake;
}

abbrev pub decreases-loop-packets : goal.decreases-loop-packets
decreases-loop-packets l = l.most - l.packets

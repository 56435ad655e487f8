use Rattle.std.proofs.Common.{◌≡◌, Some, length}
use Rattle.mg_settled.specs.Settled.{packet_at}
use Rattle.mg_loopback.specs.Loopback.{without}
use Rattle.mg_loopback.proofs.turn.take_up_to.Given as goal

abbrev pub invariant-loop-first : goal.invariant-loop-first
invariant-loop-first l = record {
  left : without (Some l.at) l.queue ≡ without (Some l.at) l.fn.queue;
  found : packet_at l.at l.queue.packets ≡ packet_at l.at l.fn.queue.packets;
}

abbrev pub decreases-loop-first : goal.decreases-loop-first
decreases-loop-first l = length l.queue.packets

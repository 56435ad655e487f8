use Rattle.std.proofs.Common.{◌≡◌, length}
use Rattle.mg_stream.specs.Pool.{queue_at, with_queue}
use Rattle.mg_policy.specs.Code.Taking.{dropped_before}
use Rattle.mg_policy.proofs.taking.drop_before.Given as goal

-- what still goes is what goes of all, and no other port changes
abbrev pub invariant-loop-first : goal.invariant-loop-first
invariant-loop-first l = record {
  left : dropped_before l.at (queue_at l.pool l.port) ≡ dropped_before l.at (queue_at l.fn.pool l.port);
  others : l.pool ≡ with_queue l.fn.pool l.port (queue_at l.pool l.port);
}

abbrev pub decreases-loop-first : goal.decreases-loop-first
decreases-loop-first l = length (queue_at l.pool l.port).packets

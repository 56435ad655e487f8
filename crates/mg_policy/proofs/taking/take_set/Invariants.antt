use Rattle.std.proofs.Common.{◌≡◌, ℕ, ◌+◌, ◌<◌, ◌++◌, map, take, drop, length, get_or, cond, None}
use Rattle.mg_settled.specs.Settled.{packet_at, port_of, shows}
use Rattle.mg_stream.specs.Pool.{queues_of, queue_of, backlog_of, pool_len}
use Rattle.mg_policy.specs.Inbox.{rests}
use Rattle.mg_policy.specs.Code.Taking.{dropped_through}
use Rattle.mg_policy.proofs.taking.take_set.Given as goal

abbrev pub invariant-loop-port : goal.invariant-loop-port
invariant-loop-port l = record {
  places : length l.into ≡ length l.fn.pool.ports;
  set : (k : ℕ) → k < l.port → get_or l.into k None ≡ cond (shows l.policy (rests (queues_of l.fn.pool)) l.at k) (packet_at l.at (port_of (rests (queues_of l.fn.pool)) k).packets) None;
  ports : l.pool.ports ≡ map (λ b. backlog_of (dropped_through l.at (queue_of 0 b))) (take l.port l.fn.pool.ports) ++ drop l.port l.fn.pool.ports;
  room : l.pool.spare + pool_len l.pool ≡ l.fn.pool.spare + pool_len l.fn.pool;
}

use Rattle.std.proofs.Common.{◌≡◌, ◌<◌, length}
use Rattle.mg_bench.proofs.inbox.fill.Given as goal

abbrev pub invariant-loop-turn : goal.invariant-loop-turn
invariant-loop-turn l = (length l.inbox.pool.ports ≡ length l.fn.inbox.pool.ports) × (0 < length l.inbox.pool.ports)

use Rattle.std.proofs.Common.{◌≡◌, length}
use Rattle.mg_bench.proofs.inbox.put_all.Given as goal

abbrev pub invariant-loop-port : goal.invariant-loop-port
invariant-loop-port l = (length l.inbox.pool.ports ≡ l.ports) × (length l.fn.inbox.pool.ports ≡ l.ports)

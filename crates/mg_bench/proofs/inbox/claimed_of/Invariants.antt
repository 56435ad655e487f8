use Rattle.std.proofs.Common.{◌≡◌, length}
use Rattle.mg_bench.proofs.inbox.claimed_of.Given as goal

abbrev pub invariant-loop-turn : goal.invariant-loop-turn
invariant-loop-turn l = (length l.inbox.pool.ports ≡ l.load.ports) × (length l.set ≡ l.load.ports)

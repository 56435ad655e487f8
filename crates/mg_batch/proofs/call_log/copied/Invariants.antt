-- The ports so far have their packets.
use Rattle.std.proofs.Common.{◌≡◌, ◌<◌, ℕ, None, length, get_or}
use Rattle.mg_batch.proofs.call_log.copied.Given as goal

abbrev pub invariant-loop-port : goal.invariant-loop-port
invariant-loop-port l = (length l.copy ≡ length l.set) × ((k : ℕ) → k < l.port → get_or l.copy k None ≡ get_or l.set k None)

-- With the edges that are left the result is the same.
use Rattle.std.proofs.Common.{◌≡◌, ℕ, length, min, fold, drop, get_or}
use Rattle.mg_sched.specs.Trims.{came_of}
use Rattle.mg_sched.proofs.net.trimming.lower.Given as goal

abbrev pub invariant-loop-edge : goal.invariant-loop-edge
invariant-loop-edge l = ((s : ℕ) → fold min (get_or l.got s 0) (came_of l.intakes (drop l.edge-index l.edges) s) ≡ fold min (get_or l.initial.got s 0) (came_of l.intakes l.edges s)) × (length l.got ≡ length l.initial.got)

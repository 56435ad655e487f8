-- The first `i` copies are made.
use Rattle.std.proofs.Common.{◌≡◌, Some}
use Rattle.mg_calc.specs.Batch.{copies}
use Rattle.mg_batch.proofs.begin_loop.copies.Given as goal

abbrev pub invariant-loop-i : goal.invariant-loop-i
invariant-loop-i l = l.packets.items ≡ copies l.first l.i (Some l.packet)

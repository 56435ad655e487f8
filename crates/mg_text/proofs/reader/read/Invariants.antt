use Rattle.std.proofs.Common.{◌≤◌, ◌-◌, take, length}
use Rattle.mg_text.specs.Code.Running.{state_of}
use Rattle.mg_text.proofs.Faults.{Reached}
use Rattle.mg_text.proofs.reader.read.Given as goal

-- the bytes so far are taken, and not too deep
abbrev pub invariant-bytes : goal.invariant-bytes
invariant-bytes l = Reached (take l.i l.bytes) (state_of l.machine) × (l.i ≤ length l.bytes)

abbrev pub decreases-bytes : goal.decreases-bytes
decreases-bytes l = length l.bytes - l.i

use Rattle.std.proofs.Common.{◌≤◌, ◌-◌, take, length}
use Rattle.mg_text.specs.Code.Plain.{AllLengthen}
use Rattle.mg_text.proofs.plain.front.Given as goal

-- the bytes so far lengthen it
abbrev pub invariant-plain : goal.invariant-plain
invariant-plain l = (l.count ≤ length l.bytes) × AllLengthen l.run (take l.count l.bytes)

abbrev pub decreases-plain : goal.decreases-plain
decreases-plain l = length l.bytes - l.count

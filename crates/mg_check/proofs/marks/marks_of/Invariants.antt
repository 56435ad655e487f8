use Rattle.std.proofs.Common.{take}
use Rattle.mg_check.specs.Code.Taking.{HasMarks}
use Rattle.mg_check.proofs.marks.marks_of.Given as goal

abbrev pub invariant-loop-number : goal.invariant-loop-number
invariant-loop-number l = HasMarks l.count (take l.number-index l.numbers) l.marks.items

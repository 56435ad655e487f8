use Rattle.std.proofs.Common.{◌≡◌, ◌++◌, take}
use Rattle.mg_answer.specs.Shown.{escaped}
use Rattle.mg_answer.proofs.shown.put_bytes.Given as goal

abbrev pub invariant-loop-b : goal.invariant-loop-b
invariant-loop-b l = l.note.items ≡ l.fn.note.items ++ escaped (take l.b-index l.text)

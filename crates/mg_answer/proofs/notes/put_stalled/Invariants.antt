use Rattle.std.proofs.Common.{◌≡◌, ◌++◌, take}
use Rattle.std.specs.List.{flat_map}
use Rattle.mg_answer.specs.Notes.{stall_note}
use Rattle.mg_answer.specs.Report.{end_bounds}
use Rattle.mg_answer.proofs.notes.put_stalled.Given as goal

abbrev pub invariant-loop-number : goal.invariant-loop-number
invariant-loop-number l = l.text.items ≡ l.fn.text.items ++ flat_map (stall_note l.plan (end_bounds l.ends)) (take l.number-index l.stalled)

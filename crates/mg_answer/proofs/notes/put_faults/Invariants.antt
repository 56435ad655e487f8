use Rattle.std.proofs.Common.{◌≡◌, ◌++◌, take}
use Rattle.std.specs.List.{flat_map}
use Rattle.mg_answer.specs.Notes.{fault_note}
use Rattle.mg_answer.proofs.notes.put_faults.Given as goal

abbrev pub invariant-loop-fault : goal.invariant-loop-fault
invariant-loop-fault l = l.text.items ≡ l.fn.text.items ++ flat_map (fault_note l.plan) (take l.fault-index l.faults)

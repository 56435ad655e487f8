-- The lines of the first arrivals.
use Rattle.std.proofs.Common.{◌≡◌, ◌++◌, take}
use Rattle.std.specs.List.{flat_map}
use Rattle.mg_answer.specs.Notes.{arrival_note}
use Rattle.mg_drive.proofs.in_plan.put_arrivals.Given as goal

abbrev pub invariant-loop-arrived : goal.invariant-loop-arrived
invariant-loop-arrived l = l.text.items ≡ l.fn.text.items ++ flat_map (λ a. arrival_note l.node a.port a.at) (take l.arrived-index l.log)

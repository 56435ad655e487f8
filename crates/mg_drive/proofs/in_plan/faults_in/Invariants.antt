-- The entries so far.
use Rattle.std.proofs.Common.{◌≡◌, map, take}
use Rattle.mg_drive.specs.Live.{renumbered_fault}
use Rattle.mg_drive.proofs.in_plan.faults_in.Given as goal

abbrev pub invariant-loop-fault : goal.invariant-loop-fault
invariant-loop-fault l = l.now.items ≡ map (renumbered_fault l.numbers) (take l.fault-index l.faults)

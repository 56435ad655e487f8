-- None of those so far has the number.
use Rattle.std.proofs.Common.{◌≢◌, All, take}
use Rattle.mg_sched.proofs.work_queue.place_of.Given as goal

abbrev pub invariant-loop-place : goal.invariant-loop-place
invariant-loop-place g l = All (λ w. w.number ≢ l.number) (take l.place l.works)

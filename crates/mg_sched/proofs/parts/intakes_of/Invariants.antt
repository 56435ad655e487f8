-- The intakes so far are those of the first consumers.
use Rattle.std.proofs.Common.{◌≡◌, length}
use Rattle.mg_sched.specs.Code.Made.{AtPlaces, IsIntakeAt}
use Rattle.mg_sched.proofs.parts.intakes_of.Given as goal

abbrev pub invariant-loop-consumer : goal.invariant-loop-consumer
invariant-loop-consumer l = AtPlaces (IsIntakeAt l.fn.plan) l.intakes.items × (length l.intakes.items ≡ l.consumer)

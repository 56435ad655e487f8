-- The queues that aren't listed any more are relaxed, and one fewer is listed with each turn.
use Rattle.std.proofs.Common.{count_by}
use Rattle.mg_throttle.specs.Code.Kept.{RelaxesTo}
use Rattle.mg_throttle.proofs.limits.relax_listed.Given as goal

abbrev pub invariant-loop-number : goal.invariant-loop-number
invariant-loop-number l = RelaxesTo l.fn.queues l.queues l.fn.listed l.listed l.any

abbrev pub decreases-loop-number : goal.decreases-loop-number
decreases-loop-number l = count_by (λ b. b) l.listed.is_in

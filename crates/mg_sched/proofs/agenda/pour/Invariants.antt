-- The orders stay, what was taken out so far is in the other set, and one place fewer is in with each turn.
use Rattle.std.proofs.Common.{◌≡◌, count_by}
use Rattle.mg_sched.proofs.Pouring.{Pours}
use Rattle.mg_sched.proofs.agenda.pour.Given as goal

abbrev pub invariant-loop-place : goal.invariant-loop-place
invariant-loop-place l = (l.from.order ≡ l.fn.from.order) × (l.into.order ≡ l.fn.into.order) × Pours l.fn.from l.from l.fn.into l.into

abbrev pub decreases-loop-place : goal.decreases-loop-place
decreases-loop-place l = count_by (λ b. b) l.from.is_in

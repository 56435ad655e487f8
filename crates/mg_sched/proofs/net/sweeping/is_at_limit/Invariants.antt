-- At no port so far.
use Rattle.std.proofs.Common.{◌≡◌, ◌<◌, ℕ, false}
use Rattle.mg_sched.specs.Code.AtLimits.{is_port_at_limit}
use Rattle.mg_sched.proofs.net.sweeping.is_at_limit.Given as goal

abbrev pub invariant-loop-port : goal.invariant-loop-port
invariant-loop-port l = (port : ℕ) → port < l.port → is_port_at_limit l.limits.queues l.first l.intake.waits port ≡ false

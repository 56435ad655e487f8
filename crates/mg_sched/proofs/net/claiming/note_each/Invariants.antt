-- With the lengths that are left the result is the same.
use Rattle.std.proofs.Common.{◌≡◌, ◌+◌, length, drop}
use Rattle.mg_sched.specs.Places.{lengths_of}
use Rattle.mg_sched.specs.Acts.{all_noted}
use Rattle.mg_sched.proofs.net.claiming.note_each.Given as goal

abbrev pub invariant-loop-port : goal.invariant-loop-port
invariant-loop-port l =
    (record l.limits { queues = all_noted l.limits.queues (l.first + l.port) (drop l.port (lengths_of l.intake.waits)) } ≡ record l.initial.limits { queues = all_noted l.initial.limits.queues l.first (lengths_of l.intake.waits) })
    × (length l.limits.queues ≡ length l.initial.limits.queues)

-- With the outputs that are left the result is the same.
use Rattle.std.proofs.Common.{◌≡◌, ◌++◌, map, drop}
use Rattle.mg_sched.specs.Reports.{backlog_end, stream_ends_of}
use Rattle.mg_sched.proofs.net.reporting.tell_ends.Given as goal

abbrev pub invariant-loop-output : goal.invariant-loop-output
invariant-loop-output g l = l.ends.items ++ map backlog_end (drop l.output l.engine.outputs) ≡ l.initial.ends.items ++ stream_ends_of l.engine

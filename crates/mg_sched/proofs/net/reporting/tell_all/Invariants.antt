-- With the engines that are left the result is the same.
use Rattle.std.proofs.Common.{◌≡◌, ◌++◌, drop}
use Rattle.std.specs.List.{flat_map}
use Rattle.mg_sched.specs.Reports.{stream_ends_of}
use Rattle.mg_sched.proofs.net.reporting.tell_all.Given as goal

abbrev pub invariant-loop-engine : goal.invariant-loop-engine
invariant-loop-engine g l = l.ends.items ++ flat_map stream_ends_of (drop l.engine-index l.engines) ≡ l.initial.ends.items ++ flat_map stream_ends_of l.engines

-- The first engines are counted.
use Rattle.std.proofs.Common.{◌≡◌, ◌-◌, ◌^◌, min, take, sum_by}
use Rattle.mg_node.specs.Outputs.{packets_kept}
use Rattle.mg_sched.proofs.net.reporting.kept_by.Given as goal

abbrev pub invariant-loop-engine : goal.invariant-loop-engine
invariant-loop-engine g l = l.held ≡ min (sum_by packets_kept (take l.engine-index l.engines)) (2 ^ 64 - 1)

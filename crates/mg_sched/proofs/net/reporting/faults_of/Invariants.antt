-- With the engines that are left the result is the same.
use Rattle.std.proofs.Common.{◌≡◌, ◌++◌, drop}
use Rattle.std.specs.List.{filter_map}
use Rattle.mg_node.specs.Views.{EngineView}
use Rattle.mg_sched.proofs.net.reporting.faults_of.Given as goal

abbrev pub invariant-loop-engine : goal.invariant-loop-engine
invariant-loop-engine g l = l.faults.items ++ filter_map (λ (e : EngineView). e.fault) (drop l.engine-index l.engines) ≡ filter_map (λ (e : EngineView). e.fault) l.engines

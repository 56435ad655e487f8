-- With the engines that are left the result is the same.
use Rattle.std.proofs.Common.{◌≡◌, ◌++◌, map, drop}
use Rattle.mg_node.specs.Views.{EngineView}
use Rattle.mg_sched.proofs.net.reporting.sets_of.Given as goal

abbrev pub invariant-loop-engine : goal.invariant-loop-engine
invariant-loop-engine g l = l.sets.items ++ map (λ (e : EngineView). e.laid) (drop l.engine-index l.engines) ≡ map (λ (e : EngineView). e.laid) l.engines

use Rattle.std.proofs.Common.{◌≡◌, map, take}
use Rattle.mg_throttle.specs.Throttle.{new_queue}
use Rattle.mg_throttle.proofs.limits.queues_of.Given as goal

abbrev pub invariant-loop-edge : goal.invariant-loop-edge
invariant-loop-edge l = l.queues.items ≡ map (new_queue l.nodes l.limit) (take l.edge-index l.edges)

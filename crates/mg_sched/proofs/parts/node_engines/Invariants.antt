-- The engines so far are those of the first nodes.
use Rattle.std.proofs.Common.{◌≡◌, length}
use Rattle.mg_node.specs.Fresh.{own_told}
use Rattle.mg_sched.specs.Code.Made.{AtPlaces, IsEngineAt}
use Rattle.mg_sched.proofs.parts.node_engines.Given as goal

abbrev pub invariant-loop-node : goal.invariant-loop-node
invariant-loop-node g l = AtPlaces (IsEngineAt l.fn.plan l.fn.streams (λ _ node. own_told node)) l.engines.items × (length l.engines.items ≡ l.node)

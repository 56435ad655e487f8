-- The engines so far are those of the nodes, and after them those of the first graph inputs.
use Rattle.std.proofs.Common.{◌≡◌, ◌+◌, length}
use Rattle.mg_node.specs.Fresh.{own_told}
use Rattle.mg_sched.specs.Code.Made.{AtPlaces, IsEngineAt}
use Rattle.mg_sched.proofs.parts.engines_of.Given as goal

abbrev pub invariant-loop-input : goal.invariant-loop-input
invariant-loop-input g l = AtPlaces (IsEngineAt l.fn.plan l.fn.streams (λ _ node. own_told node)) l.engines.items × (length l.engines.items ≡ length l.fn.plan.nodes + l.input)

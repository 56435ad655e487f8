-- The engines of the first graph inputs are woven, after the parts of the nodes.
use Rattle.std.proofs.Common.{◌≡◌, ℕ, ◌+◌, ◌*◌, ◌<◌, ◌≤◌, List, length, vec_len, vec_capacity}
use Rattle.mg_node.specs.Views.{IntakeView, EngineView}
use Rattle.mg_workers.specs.Code.Weaving.{IsWovenFrom}
use Rattle.mg_workers.proofs.weaving.weave_inputs.Given as goal

abbrev pub invariant-loop-engine : goal.invariant-loop-engine
invariant-loop-engine g l =
    ((nodes : ℕ) (es : List EngineView) (is intakes : List IntakeView) → 2 * nodes < length l.initial.parts.items → IsWovenFrom nodes es is l.initial.parts.items l.initial.engines.items intakes
    → IsWovenFrom nodes es is l.parts.items l.engines.items intakes)
    × (vec_len l.parts + vec_len l.engines ≤ vec_capacity l.parts)
    × (length l.initial.parts.items ≤ length l.parts.items)
    × (vec_capacity l.engines ≡ vec_capacity l.initial.engines)
    × (vec_capacity l.parts ≡ vec_capacity l.initial.parts)

abbrev pub decreases-loop-engine : goal.decreases-loop-engine
decreases-loop-engine g l = vec_len l.engines

-- The first nodes have their user-supplied calculators.
use Rattle.std.proofs.Common.{◌≡◌, List, length, map, option_map}
use Rattle.mg_value.specs.Payload.{Plain}
use Rattle.mg_settled.specs.Prefix.{StreamPrefix}
use Rattle.mg_node.specs.Fresh.{own_told}
use Rattle.mg_sched.specs.Code.Made.{AtPlaces, IsEngineAt, IsLeftOver, holder_before}
use Rattle.mg_sched.proofs.boxes.hand_out.Given as goal

abbrev pub invariant-loop-node : goal.invariant-loop-node
invariant-loop-node g l = (length l.engines ≡ length l.fn.engines)
    × ((streams : List (StreamPrefix Plain)) → AtPlaces (IsEngineAt l.fn.plan streams (λ _ node. own_told node)) l.fn.engines
    → AtPlaces (IsEngineAt l.fn.plan streams (holder_before (map (option_map g.C.NodeCalculator.told) l.fn.places) l.node)) l.engines)
    × IsLeftOver l.fn.plan.nodes (map (option_map g.C.NodeCalculator.told) l.fn.places) l.node (map (option_map g.C.NodeCalculator.told) l.places)

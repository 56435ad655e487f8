-- The streams so far, and then the outputs of the chosen nodes that are left, are `before` and the outputs of all chosen nodes.
use Rattle.std.proofs.Common.{◌≡◌, ◌++◌, filter, drop, flat_map}
use Rattle.mg_free.specs.Code.Places.{is_one_of}
use Rattle.mg_free.proofs.numbering.with_outputs.Given as goal

abbrev pub invariant-loop-node : goal.invariant-loop-node
invariant-loop-node l =
    l.all.items ++ flat_map (λ node. node.outputs) (filter (is_one_of l.free) (drop l.node-index l.nodes))
    ≡ l.fn.before.items ++ flat_map (λ node. node.outputs) (filter (is_one_of l.free) l.nodes)

-- The nodes so far, and then the core's nodes among those that are left, are all nodes of the core.
use Rattle.std.proofs.Common.{◌≡◌, ◌++◌, map, filter, drop}
use Rattle.mg_free.specs.Core.{is_core, core_node}
use Rattle.mg_free.proofs.core_parts.core_nodes.Given as goal

abbrev pub invariant-loop-node : goal.invariant-loop-node
invariant-loop-node l = l.nodes.items ++ map (core_node l.plan) (filter is_core (drop l.node-index l.node-items)) ≡ map (core_node l.plan) (filter is_core l.plan.nodes)

-- The edges so far, and then the core's edges among those that are left, are all edges of the core.
use Rattle.std.proofs.Common.{◌≡◌, ◌++◌, map, filter, not, drop}
use Rattle.mg_free.specs.Core.{is_free_at, core_edge, edges_of}
use Rattle.mg_free.proofs.core_parts.core_edges.Given as goal

abbrev pub invariant-loop-edge : goal.invariant-loop-edge
invariant-loop-edge l = l.edges.items ++ map (core_edge l.plan) (filter (λ e. not (is_free_at l.plan e.node)) (drop l.edge-index l.edge-items)) ≡ edges_of l.plan

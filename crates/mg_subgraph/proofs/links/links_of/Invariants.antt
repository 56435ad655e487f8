use Rattle.std.proofs.Common.{◌≡◌, ℕ, length, map, take}
use Rattle.mg_config.specs.Config.{node_view, graph_view}
use Rattle.mg_subgraph.specs.Code.Places.{flag_at, uses_at}
use Rattle.mg_subgraph.proofs.links.links_of.Given as goal

abbrev pub invariant-loop-node : goal.invariant-loop-node
invariant-loop-node l = record {
  len : length l.found.flags.items ≡ length l.library.files.now;
  found : (place : ℕ) → flag_at l.found.flags.items place ≡ uses_at (map graph_view l.library.files.now) (map node_view (take l.node-index l.nodes)) place;
}

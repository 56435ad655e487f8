-- An expanded graph has no more nodes than there may be.
use Rattle.std.proofs.Common.{◌≡◌, ◌≤◌, List, Bool, true, false, Option, None, Some, Ok, length, refl, ap, arith, if◌then◌else◌, nat_lt}
use Rattle.std.proofs.lemmas.Bool.{ltb-false}
use Rattle.mg_config.specs.Config.{GraphView, graph_view, node_view}
use Rattle.mg_config.specs.declared.graph.GraphConfig.{GraphConfig}
use Rattle.mg_subgraph.specs.Expansion.{expansion_of}
use Rattle.mg_subgraph.specs.Expanded.{expanded}
use Rattle.mg_subgraph.specs.Refusals.{max_nodes}
use Rattle.mg_subgraph.specs.declared.fault.ExpandFault.{ExpandFault}
use Rattle.mg_subgraph.specs.declared.fault.ExpandFault.TheVariants.{TooManyNodes}
use Rattle.mg_subgraph.proofs.Again.{refusals_none}
use Rattle.mg_subgraph.proofs.Kept.{expansion_is}
use Rattle.mg_subgraph.proofs.Steps.{length-map}

abbrev counted : Bool → Option ExpandFault
counted many = if many then Some TooManyNodes else None

not-many : (many : Bool) → counted many ≡ None → many ≡ false
not-many true none = cc
not-many false none = refl

pub few-views : (main : GraphView) (library : List GraphView) (graph : GraphView) → expansion_of main library ≡ Ok graph → length graph.nodes ≤ 4096
few-views main library graph made =
    let is = expansion_is main library graph made in
    let few : nat_lt max_nodes (length (expanded library main.nodes)) ≡ false = not-many _ (refusals_none main library is.0).2 in
    let same : length (expanded library main.nodes) ≡ length graph.nodes = ap (λ (g : GraphView). length g.nodes) is.1 in
    omega (arith, ltb-false max_nodes (length (expanded library main.nodes)) few, same)

pub few-nodes : (main : GraphView) (library : List GraphView) (graph : GraphConfig) → expansion_of main library ≡ Ok (graph_view graph) → length graph.nodes ≤ 4096
few-nodes main library graph made =
    let few = few-views main library (graph_view graph) made in
    let same : length (graph_view graph).nodes ≡ length graph.nodes = length-map node_view graph.nodes in
    omega (arith, few, same)

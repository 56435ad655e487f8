use Rattle.std.proofs.Common.{◌≡◌, ◌∙◌, sym, ap, map, length, true, false}
use Rattle.std.specs.Prelude.{nat_lt}
use Rattle.mg_config.specs.Config.{node_view, graph_view}
use Rattle.mg_subgraph.specs.Refusals.{max_nodes}
use Rattle.mg_subgraph.proofs.Steps.{length-map}
use Rattle.mg_subgraph.proofs.Again.{flat_nodes, flat_expansion, flat_too_many}
use Rattle.mg_subgraph.proofs.expansion.expand_own_in.Goals as goal

pub returns-then-is_large-clause-err : goal.returns-then-is_large-clause-err
returns-then-is_large-clause-err c = λ _.
    let library = map graph_view c.args.library.now.files.now in
    let nodes = c.args.main.nodes in
    let many : nat_lt max_nodes (length (map node_view nodes)) ≡ true = ap (nat_lt max_nodes) (length-map node_view nodes) ∙ (sym c.is_large.ensures ∙ c.if-is_large.true) in
    flat_too_many (graph_view c.args.main) library c.args.library.now.once
    (flat_nodes library nodes c.as_slice.result.now c.has_subgraph.result c.as_slice.ensures c.has_subgraph.ensures c.if-has_subgraph.false) many

pub returns-clause-ok : goal.returns-clause-ok
returns-clause-ok c =
    let library = map graph_view c.args.library.now.files.now in
    let nodes = c.args.main.nodes in
    let few : nat_lt max_nodes (length (map node_view nodes)) ≡ false = ap (nat_lt max_nodes) (length-map node_view nodes) ∙ (sym c.is_large.ensures ∙ c.if-is_large.false) in
    flat_expansion (graph_view c.args.main) library c.args.library.now.once
    (flat_nodes library nodes c.as_slice.result.now c.has_subgraph.result c.as_slice.ensures c.has_subgraph.ensures c.if-has_subgraph.false) few

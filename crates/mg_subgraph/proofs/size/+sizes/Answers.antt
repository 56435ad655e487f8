use Rattle.std.proofs.Common.{◌≡◌, ◌∙◌, ◌+◌, ◌++◌, ◌∷◌, [], sym, ap, map, length, take, Some, arith, min}
use Rattle.std.specs.Prelude.{slice_get, position}
use Rattle.std.proofs.lemmas.List.{take_all}
use Rattle.mg_config.specs.Config.{node_view, graph_view}
use Rattle.mg_subgraph.specs.Library.{is_of, file_of}
use Rattle.mg_subgraph.specs.Expanded.{replaced, all_replaced, expanded}
use Rattle.mg_subgraph.specs.Refusals.{max_nodes}
use Rattle.mg_subgraph.specs.Code.Sizes.{counted}
use Rattle.mg_subgraph.proofs.Grounded.{expanded_by_itself}
use Rattle.mg_subgraph.proofs.Sized.{grounded_in_file, fewer_found, place_within, grounded_node, no_more_in_node, counted_none, counted_some, length-replaced_push, counted_sum}
use Rattle.mg_subgraph.proofs.Steps.{got, got_map, taken, length-map}
use Rattle.mg_subgraph.proofs.size.+sizes.Goals as goal

pub node_size-file_size-requires : goal.node_size-file_size-requires
node_size-file_size-requires t c =
    let library = map graph_view c.args.library.now.files.now in
    let node = node_view c.args.node.now in
    let found : position (is_of node.calculator) library ≡ Some c.in-Some.place = ap (λ l. position (is_of l) library) (sym c.as_str.ensures) ∙ sym c.in-Some.ensures in
    let inside = place_within (is_of node.calculator) library c.in-Some.place found in
    let fewer = fewer_found library node c.in-Some.place c.requires.grounded found in
    let falls = c.decreases in
    (omega arith, (omega (arith, length-map graph_view c.args.library.now.files.now), (c.requires.room, (grounded_in_file library node c.in-Some.place c.requires.grounded found, c.requires.sizes))))

pub node_size-returns-in-None-clause-size : goal.node_size-returns-in-None-clause-size
node_size-returns-in-None-clause-size t c =
    let library = map graph_view c.args.library.now.files.now in
    counted_none library (node_view c.args.node.now) (ap (λ l. position (is_of l) library) (sym c.as_str.ensures) ∙ sym c.in-None.ensures)

pub node_size-returns-in-Some-clause-size : goal.node_size-returns-in-Some-clause-size
node_size-returns-in-Some-clause-size t c =
    let library = map graph_view c.args.library.now.files.now in
    c.file_size.ensures.size ∙ counted_some library (node_view c.args.node.now) c.in-Some.place (ap (λ l. position (is_of l) library) (sym c.as_str.ensures) ∙ sym c.in-Some.ensures)

pub nodes_size-node_size-requires : goal.nodes_size-node_size-requires
nodes_size-node_size-requires t c =
    let library = map graph_view c.args.library.now.files.now in
    let nodes = map node_view c.args.nodes.now in
    let i = c.loop-node.node-index in
    let node = c.node-item.result in
    let at : slice_get nodes i ≡ Some (node_view node) = got_map node_view c.args.nodes.now i node (got c.args.nodes.now i node c.loop-node-test.true c.node-item.is) in
    let few = no_more_in_node library nodes i (node_view node) at in
    let falls = c.decreases in
    (omega arith, (c.loop-node.auto.sizes ∙ c.requires.room, (grounded_node library nodes i (node_view node) c.requires.grounded at, c.loop-node.invariant.sizes)))

pub nodes_size-loop-node-preserved : goal.nodes_size-loop-node-preserved
nodes_size-loop-node-preserved t c =
    let library = map graph_view c.args.library.now.files.now in
    let nodes = c.args.nodes.now in
    let i = c.loop-node.node-index in
    let node = c.node-item.result in
    let before = map node_view (take i nodes) in
    let more : map node_view (take (i + 1) nodes) ≡ before ++ node_view node ∷ [] = taken node_view nodes i node c.loop-node-test.true c.node-item.is in
    let head = length (all_replaced (expanded library) library 0 before) in
    let last = length (replaced (expanded library) 0 (node_view node) (file_of library node.calculator)) in
    let whole : length (all_replaced (expanded library) library 0 (map node_view (take (i + 1) nodes))) ≡ head + last =
    ap (λ l. length (all_replaced (expanded library) library 0 l)) more ∙ length-replaced_push (expanded library) library 0 before (node_view node) in
    record {
      total =
          c.sum-total.ensures
          ∙ (ap (λ n. min (n + c.node_size.result) (max_nodes + 1)) c.loop-node.invariant.total
          ∙ (ap (λ n. min (min head (max_nodes + 1) + n) (max_nodes + 1)) c.node_size.ensures.size
          ∙ counted_sum head last (length (all_replaced (expanded library) library 0 (map node_view (take (i + 1) nodes)))) whole));
      sizes = c.node_size.ensures.sizes;
    }

pub nodes_size-returns-clause-size : goal.nodes_size-returns-clause-size
nodes_size-returns-clause-size t c =
    let library = map graph_view c.args.library.now.files.now in
    let nodes = c.args.nodes.now in
    let all : take c.loop-node.node-index nodes ≡ nodes = take_all c.loop-node.node-index nodes c.loop-node-test.false in
    c.loop-node.invariant.total
    ∙ (ap (λ l. counted (all_replaced (expanded library) library 0 (map node_view l))) all ∙ ap counted (sym (expanded_by_itself library (map node_view nodes) c.requires.grounded)))

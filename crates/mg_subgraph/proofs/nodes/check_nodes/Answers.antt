use Rattle.std.proofs.Common.{◌≡◌, ◌∙◌, ◌∷◌, ◌+◌, ◌<◌, sym, ap, map, drop, length, Some, None, arith}
use Rattle.std.specs.Prelude.{position}
use Rattle.std.proofs.lemmas.Result.{err_from_is_err_and}
use Rattle.mg_config.specs.Config.{node_view, graph_view}
use Rattle.mg_subgraph.specs.Library.{is_of}
use Rattle.mg_subgraph.specs.Code.Judged.{judge_of}
use Rattle.mg_subgraph.specs.Refusals.{node_fault}
use Rattle.mg_subgraph.proofs.Joins.{none_else}
use Rattle.mg_subgraph.proofs.Looked.{drop_next, fault_at, fault_past, or_some, or_none}
use Rattle.mg_subgraph.proofs.Sized.{place_within}
use Rattle.mg_subgraph.proofs.Steps.{got, got_map, length-map}
use Rattle.mg_subgraph.proofs.nodes.check_nodes.Goals as goal

pub loop-n-preserved-in_default-find : goal.loop-n-preserved-in_default-find
loop-n-preserved-in_default-find c =
    let library = map graph_view c.args.library.now.files.now in
    let judge = judge_of c.args.check c.args.owner.now in
    let nodes = c.args.nodes.now in
    let n = c.loop-n.n in
    let node = c.in-Some.node.now in
    let rest = map node_view (drop (n + 1) nodes) in
    let split : map node_view (drop n nodes) ≡ node_view node ∷ rest = ap (map node_view) (drop_next nodes n node (sym c.in-Some.ensures)) in
    let here = c.loop-n.invariant ∙ ap (node_fault library judge n) split in
    let none : position (is_of node.calculator) library ≡ None = ap (λ l. position (is_of l) library) (sym c.as_str.ensures) ∙ (sym c.find.ensures ∙ none_else c.find.result c.in_default-find.not-Some) in
    here ∙ fault_past library judge n (node_view node) rest none

pub returns-in_err-check_node-clause-err : goal.returns-in_err-check_node-clause-err
returns-in_err-check_node-clause-err c =
    let library = map graph_view c.args.library.now.files.now in
    let judge = judge_of c.args.check c.args.owner.now in
    let nodes = c.args.nodes.now in
    let n = c.loop-n.n in
    let node = c.in-Some.node.now in
    let rest = map node_view (drop (n + 1) nodes) in
    let split : map node_view (drop n nodes) ≡ node_view node ∷ rest = ap (map node_view) (drop_next nodes n node (sym c.in-Some.ensures)) in
    let here = c.loop-n.invariant ∙ ap (node_fault library judge n) split in
    let place = c.in-Some-find.place in
    let file = c.index-library-place.result in
    let found : position (is_of node.calculator) library ≡ Some place = ap (λ l. position (is_of l) library) (sym c.as_str.ensures) ∙ sym c.in-Some-find.ensures in
    let inside = place_within (is_of node.calculator) library place found in
    let inner : place < length c.args.library.now.files.now = omega (arith, length-map graph_view c.args.library.now.files.now) in
    let at = got_map graph_view c.args.library.now.files.now place file (got c.args.library.now.files.now place file inner c.index-library-place.is) in
    let now = here ∙ fault_at library judge n (node_view node) rest place (graph_view file) found at in
    let p = err_from_is_err_and c.from_residual.result c.from_residual.ensures.1 in
    rw (p.1, p.2) (λ ne. now ∙ or_some (judge n (node_view node) (graph_view file)) (node_fault library judge (n + 1) rest) c.in_err-check_node.field-0.0 (ap (λ f. judge n (node_view node) (graph_view f)) c.index-library-place.is ∙ c.in_err-check_node.ensures.err ne))

pub loop-n-preserved : goal.loop-n-preserved
loop-n-preserved c =
    let library = map graph_view c.args.library.now.files.now in
    let judge = judge_of c.args.check c.args.owner.now in
    let nodes = c.args.nodes.now in
    let n = c.loop-n.n in
    let node = c.in-Some.node.now in
    let rest = map node_view (drop (n + 1) nodes) in
    let split : map node_view (drop n nodes) ≡ node_view node ∷ rest = ap (map node_view) (drop_next nodes n node (sym c.in-Some.ensures)) in
    let here = c.loop-n.invariant ∙ ap (node_fault library judge n) split in
    let place = c.in-Some-find.place in
    let file = c.index-library-place.result in
    let found : position (is_of node.calculator) library ≡ Some place = ap (λ l. position (is_of l) library) (sym c.as_str.ensures) ∙ sym c.in-Some-find.ensures in
    let inside = place_within (is_of node.calculator) library place found in
    let inner : place < length c.args.library.now.files.now = omega (arith, length-map graph_view c.args.library.now.files.now) in
    let at = got_map graph_view c.args.library.now.files.now place file (got c.args.library.now.files.now place file inner c.index-library-place.is) in
    let now = here ∙ fault_at library judge n (node_view node) rest place (graph_view file) found at in
    now ∙ or_none (judge n (node_view node) (graph_view file)) (node_fault library judge (n + 1) rest) (ap (λ f. judge n (node_view node) (graph_view f)) c.index-library-place.is ∙ c.in_ok-check_node.ensures.ok)

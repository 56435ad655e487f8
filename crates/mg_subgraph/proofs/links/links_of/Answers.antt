use Rattle.std.proofs.Common.{◌≡◌, ◌∙◌, sym, ap, map, None, Some, take, ◌+◌}
use Rattle.std.specs.Prelude.{position}
use Rattle.mg_config.specs.Config.{node_view, graph_view}
use Rattle.mg_subgraph.specs.Library.{is_of}
use Rattle.mg_subgraph.proofs.Linked.{link_more, link_same}
use Rattle.mg_subgraph.proofs.Joins.{none_else}
use Rattle.mg_subgraph.proofs.Steps.{taken}
use Rattle.mg_subgraph.proofs.links.links_of.Goals as goal

pub loop-node-preserved : goal.loop-node-preserved
loop-node-preserved c =
    let files = map graph_view c.args.library.now.files.now in
    let nodes = c.args.nodes.now in
    let i = c.loop-node.node-index in
    let node = c.node-item.result in
    let found : position (is_of node.calculator) files ≡ Some c.in-Some.place = ap (λ l. position (is_of l) files) (sym c.as_str.ensures) ∙ sym c.in-Some.ensures in
    record {
      len = c.in_ok-add.ensures.len ∙ c.loop-node.invariant.len;
      found =
          link_more files (map node_view (take i nodes)) (map node_view (take (i + 1) nodes)) (node_view node) c.loop-node.found.flags.items c.add.new.self.flags.items c.in-Some.place
          c.args.library.now.once (taken node_view nodes i node c.loop-node-test.true c.node-item.is) found c.in_ok-add.ensures.flags c.loop-node.invariant.found;
    }

pub loop-node-preserved-in_default : goal.loop-node-preserved-in_default
loop-node-preserved-in_default c =
    let files = map graph_view c.args.library.now.files.now in
    let nodes = c.args.nodes.now in
    let i = c.loop-node.node-index in
    let node = c.node-item.result in
    let none : position (is_of node.calculator) files ≡ None = ap (λ l. position (is_of l) files) (sym c.as_str.ensures) ∙ (sym c.find.ensures ∙ none_else c.find.result c.in_default.not-Some) in
    record {
      len = c.loop-node.invariant.len;
      found =
          link_same files (map node_view (take i nodes)) (map node_view (take (i + 1) nodes)) (node_view node) c.loop-node.found.flags.items
          (taken node_view nodes i node c.loop-node-test.true c.node-item.is) none c.loop-node.invariant.found;
    }

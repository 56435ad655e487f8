use Rattle.mg_config.specs.Config.{node_view}
use Rattle.mg_subgraph.specs.Code.Bindings.{new_name}
use Rattle.mg_subgraph.proofs.Meeting.{renamed_whole}
use Rattle.mg_subgraph.proofs.renaming.Use.renamed.Goals as goal

pub returns : goal.returns
returns c = λ n node file known.
    let self = c.args.self.now in
    renamed_whole n node file (node_view c.args.inner) (node_view c.in_ok-node.node) (node_view c.in_ok-node-2.node) (node_view c.in_ok-node-3.node) (new_name self.streams self.prefix) (new_name self.sides self.prefix)
    (c.in_ok-node.ensures n known.front) c.in_ok-node-2.ensures c.in_ok-node-3.ensures known.streams known.sides

use Rattle.mg_config.specs.Config.{graph_view}
use Rattle.mg_check.specs.DraftView.{drafts_view}
use Rattle.mg_check.specs.Joining.{writers}
use Rattle.mg_check.proofs.Written.{writers_moved}
use Rattle.mg_check.proofs.linking.writers_of.Goals as goal

pub loop-node-preserved : goal.loop-node-preserved
loop-node-preserved c =
    writers_moved c.add_outputs.new.out.items c.loop-node.writers.items (writers (graph_view c.args.graph.now) (drafts_view c.args.drafts.now)) c.args.drafts.now c.loop-node.node c.index-drafts-node.result c.as_slice.result.now c.in_ok-count.count
    c.loop-node-test.true c.index-drafts-node.is c.as_slice.ensures.value c.in_ok-count.ensures c.in_ok-add_outputs.ensures c.loop-node.invariant

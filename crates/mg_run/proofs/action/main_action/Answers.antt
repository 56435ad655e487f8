use Rattle.std.proofs.Common.{map}
use Rattle.mg_config.specs.Config.{graph_view}
use Rattle.mg_run.proofs.Fewer.{few-nodes}
use Rattle.mg_run.proofs.action.main_action.Goals as goal

pub graph_action-requires-clause-few : goal.graph_action-requires-clause-few
graph_action-requires-clause-few c = few-nodes (graph_view c.args.main) (map graph_view c.args.library.now) c.in-Ok.graph c.in-Ok.ensures.ok

use Rattle.mg_config.specs.Config.{node_view}
use Rattle.mg_check.proofs.Grouped.{wanted_more, wanted_same}
use Rattle.mg_check.proofs.choosing.count_node.Goals as goal

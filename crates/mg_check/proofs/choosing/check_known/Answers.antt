use Rattle.std.proofs.Common.{map}
use Rattle.mg_config.specs.Config.{node_view}
use Rattle.mg_check.specs.Choosing.{is_unknown}
use Rattle.mg_check.proofs.Firsts.{place_begins}
use Rattle.mg_check.proofs.choosing.check_known.Goals as goal

pub loop-place-init : goal.loop-place-init
loop-place-init c = λ outers stock. place_begins (is_unknown outers) (map node_view c.args.nodes.now)

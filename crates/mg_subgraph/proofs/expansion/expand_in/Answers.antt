use Rattle.std.proofs.Common.{map}
use Rattle.mg_config.specs.Config.{graph_view}
use Rattle.mg_subgraph.proofs.Sized.{grounded_main, unshared_main}
use Rattle.mg_subgraph.proofs.expansion.expand_in.Goals as goal

pub build-requires-clause-grounded : goal.build-requires-clause-grounded
build-requires-clause-grounded c = grounded_main (graph_view c.args.main.now) (map graph_view c.args.library.now.files.now) c.in_ok-used.ensures.recursive

pub build-requires-clause-unshared : goal.build-requires-clause-unshared
build-requires-clause-unshared c = unshared_main (graph_view c.args.main.now) (map graph_view c.args.library.now.files.now) c.in_ok-names.ensures.shared

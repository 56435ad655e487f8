use Rattle.std.proofs.Common.{◌<◌, length, arith}
use Rattle.mg_config.specs.Config.{graph_view}
use Rattle.mg_subgraph.proofs.Steps.{got, got_map, length-map}
use Rattle.mg_subgraph.proofs.shared.check_shared.Goals as goal

pub shared_port-requires : goal.shared_port-requires
shared_port-requires c =
    let files = c.args.files.now in
    let place = c.loop-place.place in
    let inside : place < length c.args.names.now = omega (arith, c.requires.names.same, length-map graph_view files, c.loop-place-test.true) in
    c.requires.names.named place (graph_view c.index-files-place.result) c.index-names-place.result
    (got_map graph_view files place c.index-files-place.result (got files place c.index-files-place.result c.loop-place-test.true c.index-files-place.is))
    (got c.args.names.now place c.index-names-place.result inside c.index-names-place.is)

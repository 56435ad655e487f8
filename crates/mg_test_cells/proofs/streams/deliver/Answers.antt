use Rattle.std.proofs.Common.{rules, ◌≡◌, Some, slice_get}
use Rattle.mg_test_cells.proofs.Edges.{feed_leads}
use Rattle.mg_test_cells.proofs.streams.deliver.Goals as goal

pub deliver-delivered-requires : goal.deliver-delivered-requires
deliver-delivered-requires c =
    let there : slice_get c.args.cell.now.plan.nodes 0 ≡ Some c.in_ok-node.node.now = search rules in
    let at : slice_get c.in_ok-node.node.now.inputs c.args.port ≡ Some c.in_ok-stream.field-0.now = search rules in
    feed_leads c.args.cell.now.plan c.args.cell.now.inputs c.args.cell.now.engine c.in_ok-feed.feed c.args.cell.now.intake c.args.cell.now.sink c.in_ok-node.node.now c.args.port c.in_ok-stream.field-0.now c.requires there at
    c.in_ok-feed.ensures.lawful c.in_ok-feed.ensures.first c.in_ok-feed.ensures.one c.in_ok-feed.ensures.keeps

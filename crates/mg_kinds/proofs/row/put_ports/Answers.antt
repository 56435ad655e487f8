use Rattle.mg_kinds.specs.Tags.{tag_text}
use Rattle.mg_kinds.proofs.PortLists.{one_more_port}
use Rattle.mg_kinds.proofs.row.put_ports.Goals as goal

pub loop-index-preserved : goal.loop-index-preserved
loop-index-preserved c =
    one_more_port c.args.out.now.items c.loop-index.out.items c.put_port.new.out.items (tag_text c.args.tag) c.args.kind c.loop-index.index c.in_ok-put_port.ensures c.loop-index.invariant

use Rattle.mg_calc.proofs.OwnShapes.{one_more_port}
use Rattle.mg_calc.proofs.stated.ports.Goals as goal

pub loop-index-preserved : goal.loop-index-preserved
loop-index-preserved c =
    one_more_port c.loop-index.list.items c.put_port.new.list.items c.args.tag.now c.args.kind c.loop-index.index c.in_ok-put_port.ensures c.loop-index.invariant

use Rattle.std.proofs.Common.{rules, ◌<◌, length, get_or, map, option_map}
use Rattle.std.specs.Vec.Iter.{into_iter_items}
use Rattle.mg_node.proofs.Lemmas.{read_at}
use Rattle.mg_sched.specs.GivesBack.{with_cells}
use Rattle.mg_sched.proofs.GivenBack.{cells_next}
use Rattle.mg_sched.proofs.net.leaving.put_back.Goals as goal

pub loop-node-preserved : goal.loop-node-preserved
loop-node-preserved g c =
    let less : c.loop-node.node < length c.args.plan.now.nodes = search rules in
    cells_next (map (option_map g.C.NodeCalculator.told) c.loop-node.places) (map (option_map g.C.NodeCalculator.told) c.put_in_place.new.places) c.args.plan.now.nodes c.loop-node.node c.index-as_slice-node.result
    (get_or c.as_slice.result.now c.loop-node.node c.index-as_slice-node.result) (option_map g.C.NodeCalculator.told c.calculator_of.result)
    (into_iter_items c.loop-node.engines) (into_iter_items c.next.new.self) (into_iter_items c.loop-node.work_queues) (into_iter_items c.next-in-loop-node.new.self) c.in-Some.engine c.in-Some-next.work_queue
    (with_cells (map (option_map g.C.NodeCalculator.told) c.args.places.now) c.args.plan.now.nodes c.args.engines.items c.args.work_queues.items)
    (read_at c.as_slice.result.now c.args.plan.now.nodes c.loop-node.node c.index-as_slice-node.result c.as_slice.ensures less c.index-as_slice-node.is)
    c.in-Some.ensures.items c.in-Some-next.ensures.items c.put_in_place.ensures c.index-as_slice-node.is c.calculator_of.ensures c.loop-node.invariant

-- With the cells that are left the result is the same.
use Rattle.std.proofs.Common.{◌≡◌, drop, map, option_map}
use Rattle.std.specs.Vec.Iter.{into_iter_items}
use Rattle.mg_sched.specs.GivesBack.{with_cells}
use Rattle.mg_sched.proofs.net.leaving.put_back.Given as goal

abbrev pub invariant-loop-node : goal.invariant-loop-node
invariant-loop-node g l =
    with_cells (map (option_map g.C.NodeCalculator.told) l.places) (drop l.node l.fn.plan.nodes) (into_iter_items l.engines) (into_iter_items l.work_queues)
    ≡ with_cells (map (option_map g.C.NodeCalculator.told) l.fn.places) l.fn.plan.nodes l.fn.engines.items l.fn.work_queues.items

-- The engines of the first inputs are extended, so many as are left.
use Rattle.std.proofs.Common.{◌≤◌, List}
use Rattle.mg_node.specs.Views.{EngineView}
use Rattle.mg_sched.specs.Code.LongerAt.{WereLongerAt}
use Rattle.mg_sched.proofs.net.extending_some.shorten_each_at.Given as goal

abbrev pub invariant-loop-left : goal.invariant-loop-left
invariant-loop-left g l = (l.left ≤ l.fn.count)
    × ((before : List EngineView) → WereLongerAt g.C.NodeCalculator.laws l.fn.from l.fn.inputs l.fn.pieces l.fn.bounds l.fn.count before l.fn.engines → WereLongerAt g.C.NodeCalculator.laws l.fn.from l.fn.inputs l.fn.pieces l.fn.bounds l.left before l.engines)

abbrev pub decreases-loop-left : goal.decreases-loop-left
decreases-loop-left g l = l.left

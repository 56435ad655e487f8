-- The run is under way.
use Rattle.std.proofs.Common.{◌≡◌, length, false}
use Rattle.mg_sched.specs.StandsFor.{IsRunning}
use Rattle.mg_drive.specs.Nets.{Keeps, AreThere, KnowsSince}
use Rattle.mg_drive.specs.Code.Running.{Start, IsUnderWay, steps_left}
use Rattle.mg_drive.proofs.driving.drive.Given as goal

abbrev pub invariant-steps : goal.invariant-steps
invariant-steps g l = record {
  places : length l.ends.set ≡ length l.net.one.net.plan.outputs;
  running : IsRunning l.net.one.net;
  keeps : Keeps l.fn.net.one.net l.net.one.net;
  there : AreThere (g.B.Batches.wants l.ends.batches) l.net.one.net;
  knows : KnowsSince (g.B.Batches.knows g.C.NodeCalculator.laws l.ends.batches) l.ends.moved l.net.one.net;
  unread : g.B.Batches.reads ≡ false → g.S.Source.told l.input ≡ g.S.Source.told l.fn.input;
  under_way : (start : Start g.row.B.Denot) → IsUnderWay g.C.NodeCalculator.laws (g.B.Batches.gives g.C.NodeCalculator.laws) g.T.Telling.has_told start l.fn.first (g.S.Source.told l.fn.input) (g.K.Sink.told l.fn.output) l.fn.ends.batches l.fn.ends.telling l.fn.net.one.net
      → IsUnderWay g.C.NodeCalculator.laws (g.B.Batches.gives g.C.NodeCalculator.laws) g.T.Telling.has_told start l.last (g.S.Source.told l.input) (g.K.Sink.told l.output) l.ends.batches l.ends.telling l.net.one.net;
}

abbrev pub decreases-steps : goal.decreases-steps
decreases-steps g l = steps_left l.last (g.B.Batches.left l.ends.batches)

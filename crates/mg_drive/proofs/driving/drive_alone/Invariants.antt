-- The run is under way.
use Rattle.std.proofs.Common.{◌≡◌, length, false}
use Rattle.mg_sched.specs.StandsFor.{IsRunning}
use Rattle.mg_drive.specs.Nets.{Keeps, AreThere, KnowsSince}
use Rattle.mg_drive.specs.Code.Running.{Start, IsUnderWay, steps_left}
use Rattle.mg_drive.proofs.driving.drive_alone.Given as goal

abbrev pub invariant-steps : goal.invariant-steps
invariant-steps g l = record {
  places : length l.ends.set ≡ length (g.N.Driven.net l.net).plan.outputs;
  running : IsRunning (g.N.Driven.net l.net);
  keeps : Keeps (g.N.Driven.net l.fn.net) (g.N.Driven.net l.net);
  there : AreThere (g.B.Batches.wants l.ends.batches) (g.N.Driven.net l.net);
  knows : KnowsSince (g.B.Batches.knows g.N.Driven.laws l.ends.batches) l.ends.moved (g.N.Driven.net l.net);
  unread : g.B.Batches.reads ≡ false → g.S.Source.told l.input ≡ g.S.Source.told l.fn.input;
  under_way : (start : Start g.row.B.Denot) → IsUnderWay g.N.Driven.laws (g.B.Batches.gives g.N.Driven.laws) g.T.Telling.has_told start l.fn.first (g.S.Source.told l.fn.input) (g.K.Sink.told l.fn.output) l.fn.ends.batches l.fn.ends.telling (g.N.Driven.net l.fn.net)
      → IsUnderWay g.N.Driven.laws (g.B.Batches.gives g.N.Driven.laws) g.T.Telling.has_told start l.last (g.S.Source.told l.input) (g.K.Sink.told l.output) l.ends.batches l.ends.telling (g.N.Driven.net l.net);
}

abbrev pub decreases-steps : goal.decreases-steps
decreases-steps g l = steps_left l.last (g.B.Batches.left l.ends.batches)

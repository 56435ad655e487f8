-- What was taken was told, and the net has its nodes as before.
use Rattle.std.proofs.Common.{◌≡◌, ◌-◌, ◌^◌, List, length}
use Rattle.mg_edge.specs.Edge.{SinkTold}
use Rattle.mg_value.specs.Payload.{Plain}
use Rattle.mg_settled.specs.Prefix.{StreamPrefix}
use Rattle.mg_node.specs.Job.{LoggedJob, Solves}
use Rattle.mg_sched.specs.StandsFor.{StandsFor}
use Rattle.mg_sched.specs.Taking.{taken_out, HasAllOutputs, LeavesNodes}
use Rattle.mg_drive.specs.Code.Running.{IsTold}
use Rattle.mg_drive.proofs.driving.take_all.Given as goal

abbrev pub invariant-sets : goal.invariant-sets
invariant-sets g l = record {
  places : length l.set ≡ length (g.N.Driven.net l.net).plan.outputs;
  left : LeavesNodes (g.N.Driven.net l.fn.net) (g.N.Driven.net l.net);
  stands : (job : LoggedJob g.N.Driven.laws) → StandsFor job (g.N.Driven.net l.fn.net) → StandsFor job (g.N.Driven.net l.net);
  tells : (job : LoggedJob g.N.Driven.laws) (first : SinkTold) → StandsFor job (g.N.Driven.net l.fn.net)
      → IsTold g.T.Telling.has_told job.job first (g.K.Sink.told l.fn.output) (taken_out (g.N.Driven.net l.fn.net)) l.fn.telling
      → IsTold g.T.Telling.has_told job.job first (g.K.Sink.told l.output) (taken_out (g.N.Driven.net l.net)) l.telling;
  has : (job : LoggedJob g.N.Driven.laws) (streams : List (StreamPrefix Plain)) → StandsFor job (g.N.Driven.net l.fn.net) → Solves job streams → HasAllOutputs streams (g.N.Driven.net l.fn.net)
      → HasAllOutputs streams (g.N.Driven.net l.net);
}

abbrev pub decreases-sets : goal.decreases-sets
decreases-sets g l = 2 ^ 65 - taken_out (g.N.Driven.net l.net)

-- A run as one thing: what was written and what the calculators had belong to one solution.
use Rattle.std.proofs.Common.{◌≡◌, ℕ, List, Some, slice_get, subst}
use Rattle.mg_edge.specs.Edge.{SinkTold}
use Rattle.mg_value.specs.Payload.{Plain}
use Rattle.mg_settled.specs.Prefix.{StreamPrefix}
use Rattle.mg_calc.specs.declared.plan_node.PlanNode.{PlanNode}
use Rattle.mg_calc.specs.Told.{BoxTold}
use Rattle.mg_calc.specs.Equations.{Job, IsSolution}
use Rattle.mg_calc.proofs.Solutions.{one_solution}
use Rattle.mg_feed.specs.declared.feed_end.FeedEnd.{FeedEnd}
use Rattle.mg_answer.specs.Answer.{OutputForm, Telling, output_in}
use Rattle.mg_answer.specs.Devices.{Device, TookFront}
use Rattle.mg_answer.specs.Wrote.{Wrote}
use Rattle.mg_answer.specs.declared.status.Status.{Status}
use Rattle.mg_drive.specs.Leaves.{HadItsCalls, IsRelatedAt, HadCallsOf, HadFronts}
use Rattle.mg_drive.specs.OneRun.{CalculatorsCameBack, OneRun, OneOut}

abbrev EachHad : Job → Device (List BoxTold) → List (StreamPrefix Plain) → Type 0
EachHad job boxes streams = (number place : ℕ) (node : PlanNode) → slice_get job.plan.nodes number ≡ Some node → node.box_number ≡ Some place → IsRelatedAt place (HadItsCalls job streams node) boxes

pub one_run : (telling : Telling) (job : Job) (end : FeedEnd) (status : Status) (output notes : Device SinkTold) (boxes : Device (List BoxTold)) → CalculatorsCameBack job.plan boxes.before boxes.now → Wrote telling job end status output notes → HadCallsOf job boxes
    → OneRun telling job end status output notes boxes
one_run telling job end status output notes boxes back wrote had = record {
  is_job = had.is_job;
  streams = wrote.streams;
  solution = wrote.solution;
  wrote = wrote.by;
  had = record { back = back; used = subst (EachHad job boxes) (one_solution job had.streams wrote.streams had.solution wrote.solution) had.each };
}

-- memory ran out in a run
pub one_short : (form : OutputForm) (job : Job) (output : Device SinkTold) (boxes : Device (List BoxTold)) → CalculatorsCameBack job.plan boxes.before boxes.now → HadFronts job boxes
    → ((streams : List (StreamPrefix Plain)) → IsSolution job streams → TookFront output (output_in form job.plan streams)) → OneOut form job output boxes
one_short form job output boxes back had front = record {
  is_job = had.is_job;
  streams = had.streams;
  solution = had.solution;
  front = front had.streams had.solution;
  had = record { back = back; used = had.each };
}

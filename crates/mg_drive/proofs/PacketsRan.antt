-- What is told of a run over packets that are made.
use Rattle.std.proofs.Common.{◌≡◌, ◌⊎◌, inl, inr, [], refl, sym, subst}
use Rattle.mg_edge.specs.Edge.{SinkTold}
use Rattle.mg_calc.specs.Rules.{Laws}
use Rattle.mg_calc.specs.declared.plan.Plan.{Plan}
use Rattle.mg_calc.specs.Equations.{Job, IsJob}
use Rattle.mg_answer.specs.Answer.{totals, output_in}
use Rattle.mg_answer.specs.Text.{output_names}
use Rattle.mg_answer.specs.Summary.{SummaryView, HasSummed}
use Rattle.mg_answer.proofs.Writing.{front-none}
use Rattle.mg_node.specs.Job.{LoggedJob}
use Rattle.mg_sched.proofs.Solved.{solved}
use Rattle.mg_drive.specs.Told.{HasSums}
use Rattle.mg_drive.specs.Code.Running.{IsToldSome, FrontIn}

-- nothing is told yet
pub none_summed : (plan : Plan) (sums : SummaryView) (sink : SinkTold) → sums.names ≡ output_names plan → HasSummed sums [] → HasSums sums plan sink sink []
none_summed plan sums sink names none = record { names_are = names; summed = none; unwritten = refl }

-- Memory ran out --

-- nothing was written
pub front_unwritten : (sink : SinkTold) (job : Job) → FrontIn totals sink sink job
front_unwritten sink job = λ streams solution. front-none sink (output_in totals job.plan streams)

pub front_sums : {laws : Laws} (job : LoggedJob laws) (first now : SinkTold) → IsJob job.job → IsToldSome HasSums job.job first now ⊎ FrontIn totals first now job.job → FrontIn totals first now job.job
front_sums {laws} job first now is (inr front) = front
front_sums {laws} job first now is (inl some) =
    let found = solved job is in
    let same = (some.is_told.told found.0 found.1.solution).unwritten in
    subst (λ (s : SinkTold). FrontIn totals first s job.job) (sym same) (front_unwritten first job.job)

use Rattle.std.proofs.Common.{ap, ◌∙◌}
use Rattle.mg_sched.specs.declared.report.Report.{Report}
use Rattle.mg_drive.proofs.finishing.outcomes_of.Goals as goal

pub returns-clause-tells : goal.returns-clause-tells
returns-clause-tells g c = record {
  faults = ap (λ (r : Report). r.faults) c.in_ok-report.ensures;
  sets = ap (λ (r : Report). r.sets) c.in_ok-report.ensures;
  ends = c.into_vec.ensures ∙ ap (λ (r : Report). r.streams) c.in_ok-report.ensures;
  arrivals = c.new.ensures.items;
}

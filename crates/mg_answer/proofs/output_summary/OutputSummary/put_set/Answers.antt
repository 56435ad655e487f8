use Rattle.std.proofs.Common.{◌+◌, ◌∙◌, ap}
use Rattle.mg_answer.specs.Summary.{SummaryView}
use Rattle.mg_answer.specs.Code.Adding.{with_set}
use Rattle.mg_answer.proofs.Summing.{summed-more}
use Rattle.mg_answer.proofs.output_summary.OutputSummary.put_set.Goals as goal

pub returns-clause-put : goal.returns-clause-put
returns-clause-put c = λ sets timed is has.
    summed-more c.args.self.now _ c.args.set.now (ap (λ (v : SummaryView). v.names) c.self.view_is)
    (c.add_set.ensures.totals ∙ ap (λ (v : SummaryView). with_set v.totals c.args.set.now) c.self.view_is) (ap (λ (v : SummaryView). v.sets + 1) c.self.view_is) sets timed is has

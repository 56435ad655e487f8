use Rattle.std.proofs.Common.{◌++◌, ◌∙◌, ap}
use Rattle.mg_answer.specs.Put.{TextView}
use Rattle.mg_answer.specs.Summary.{SummaryView}
use Rattle.mg_answer.specs.Code.Adding.{total_lines}
use Rattle.mg_answer.proofs.Summing.{summary-put}
use Rattle.mg_answer.proofs.output_summary.OutputSummary.text.Goals as goal

pub returns : goal.returns
returns c = λ sets first has.
    summary-put c.args.self.now first c.whole.result sets (ap (λ (t : TextView). t.failed) c.whole.ensures)
    (ap (λ (t : TextView). t.kept) c.whole.ensures ∙ c.in_ok-put_totals.ensures
    ∙ ap (λ l. l ++ total_lines c.as_slice.result.now c.as_slice-2.result.now) c.new-text.ensures.items
    ∙ ap (λ l. total_lines l c.as_slice-2.result.now) c.as_slice.ensures.value ∙ ap (λ l. total_lines c.self.inside.names.items l) c.as_slice-2.ensures.value
    ∙ ap (λ (v : SummaryView). total_lines v.names v.totals) c.self.view_is) has

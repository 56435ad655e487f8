use Rattle.std.proofs.Common.{[], length, replicate, refl, ◌∙◌, ap}
use Rattle.mg_answer.specs.Summary.{total_of}
use Rattle.mg_answer.proofs.Summing.{summed-none}
use Rattle.mg_answer.proofs.output_summary.OutputSummary.new.Goals as goal

pub returns-clause-nothing : goal.returns-clause-nothing
returns-clause-nothing c = summed-none _ (c.in_ok-totals.ensures ∙ ap (λ l. replicate (length l) (total_of [])) c.as_slice.ensures.value) refl

use Rattle.std.proofs.Common.{◌≡◌, [], replicate}
use Rattle.mg_answer.specs.Summary.{total_of}
use Rattle.mg_answer.proofs.output_summary.no_totals.Given as goal

abbrev pub invariant-loop : goal.invariant-loop
invariant-loop l = l.totals.items ≡ replicate l.counter (total_of [])

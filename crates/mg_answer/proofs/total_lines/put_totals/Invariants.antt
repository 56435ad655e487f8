use Rattle.std.proofs.Common.{◌≡◌, ◌++◌, drop}
use Rattle.mg_answer.specs.Code.Adding.{total_lines}
use Rattle.mg_answer.proofs.total_lines.put_totals.Given as goal

abbrev pub invariant-loop-place : goal.invariant-loop-place
invariant-loop-place l = l.fn.text.items ++ total_lines l.names l.totals ≡ l.text.items ++ total_lines (drop l.place l.names) (drop l.place l.totals)

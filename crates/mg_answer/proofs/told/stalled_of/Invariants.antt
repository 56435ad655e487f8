use Rattle.std.proofs.Common.{◌≡◌, ◌==◌, ◌++◌, not, map, filter, drop}
use Rattle.std.specs.List.{enumerate_from}
use Rattle.mg_time.specs.Time.{done}
use Rattle.mg_answer.specs.Report.{open_numbers}
use Rattle.mg_answer.proofs.told.stalled_of.Given as goal

abbrev pub invariant-loop-number : goal.invariant-loop-number
invariant-loop-number l = open_numbers l.ends ≡ l.numbers.items ++ map (λ entry. entry.0) (filter (λ entry. not (entry.1.bound == done)) (enumerate_from l.number (drop l.number l.ends)))

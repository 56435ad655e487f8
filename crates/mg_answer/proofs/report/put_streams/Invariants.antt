use Rattle.std.proofs.Common.{◌≡◌, ◌++◌, drop}
use Rattle.std.specs.List.{flat_map, enumerate_from}
use Rattle.mg_calc.specs.Meaning.{numbered}
use Rattle.mg_answer.specs.Report.{stream_line}
use Rattle.mg_answer.proofs.report.put_streams.Given as goal

abbrev pub invariant-loop-number : goal.invariant-loop-number
invariant-loop-number l = l.fn.text.items ++ flat_map (stream_line l.plan) (numbered l.ends) ≡ l.text.items ++ flat_map (stream_line l.plan) (enumerate_from l.number (drop l.number l.ends))

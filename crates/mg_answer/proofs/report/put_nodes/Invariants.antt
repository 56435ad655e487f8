use Rattle.std.proofs.Common.{◌≡◌, ◌++◌, drop}
use Rattle.std.specs.List.{flat_map, enumerate_from}
use Rattle.mg_calc.specs.Meaning.{numbered}
use Rattle.mg_answer.specs.Report.{node_line}
use Rattle.mg_answer.proofs.report.put_nodes.Given as goal

abbrev pub invariant-loop-node : goal.invariant-loop-node
invariant-loop-node l = l.fn.text.items ++ flat_map (node_line l.plan) (numbered l.sets) ≡ l.text.items ++ flat_map (node_line l.plan) (enumerate_from l.node (drop l.node l.sets))

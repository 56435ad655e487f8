use Rattle.std.proofs.Common.{◌≡◌, take, map}
use Rattle.mg_answer.specs.Text.{name_of}
use Rattle.mg_answer.proofs.output_summary.names_of.Given as goal

abbrev pub invariant-loop-number : goal.invariant-loop-number
invariant-loop-number l = l.names.items ≡ map (name_of l.plan) (take l.number-index l.number-items)

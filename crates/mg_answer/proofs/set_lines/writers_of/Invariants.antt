use Rattle.std.proofs.Common.{◌≡◌, take, map}
use Rattle.mg_answer.specs.Text.{name_of}
use Rattle.mg_answer.proofs.set_lines.writers_of.Given as goal

abbrev pub invariant-loop-number : goal.invariant-loop-number
invariant-loop-number l = l.writers.items ≡ map (name_of l.plan) (take l.number-index l.number-items)

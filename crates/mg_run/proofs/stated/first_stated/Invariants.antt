-- None of the nodes so far has a stated law.
use Rattle.std.proofs.Common.{◌≡◌, drop, position}
use Rattle.std.specs.List.{position_from}
use Rattle.mg_run.specs.Answer.{is_stated}
use Rattle.mg_run.proofs.stated.first_stated.Given as goal

abbrev pub invariant-loop-number : goal.invariant-loop-number
invariant-loop-number l = position_from (λ node. is_stated node.law) l.number (drop l.number l.plan.nodes) ≡ position (λ node. is_stated node.law) l.plan.nodes

-- None of the nodes so far is free.
use Rattle.std.proofs.Common.{◌≡◌, drop, position}
use Rattle.std.specs.List.{position_from}
use Rattle.mg_free.specs.Core.{is_free}
use Rattle.mg_free.proofs.kinds.first_free.Given as goal

abbrev pub invariant-loop-number : goal.invariant-loop-number
invariant-loop-number l = position_from is_free l.number (drop l.number l.plan.nodes) ≡ position is_free l.plan.nodes

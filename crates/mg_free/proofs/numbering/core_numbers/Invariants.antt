-- The numbers so far, and then those of the core's nodes that are left, are all numbers of the core's nodes.
use Rattle.std.proofs.Common.{◌≡◌, ◌++◌, drop}
use Rattle.mg_free.specs.Core.{core_numbers}
use Rattle.mg_free.proofs.Walking.{core_from}
use Rattle.mg_free.proofs.numbering.core_numbers.Given as goal

abbrev pub invariant-loop-number : goal.invariant-loop-number
invariant-loop-number l = l.numbers.items ++ core_from l.number (drop l.number l.plan.nodes) ≡ core_numbers l.plan

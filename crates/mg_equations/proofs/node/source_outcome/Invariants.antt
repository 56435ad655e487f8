-- With the calls that are left the result is the same.
use Rattle.std.proofs.Common.{length, None}
use Rattle.mg_calc.specs.Law.{table_rules}
use Rattle.mg_calc.specs.Outcome.{opened}
use Rattle.mg_calc.specs.Shape.{calls_of}
use Rattle.mg_equations.specs.Code.Seen.{seen}
use Rattle.mg_equations.proofs.OutcomeSteps.{IsCalled}
use Rattle.mg_equations.proofs.node.source_outcome.Given as goal

abbrev pub invariant-loop-number : goal.invariant-loop-number
invariant-loop-number l = IsCalled l.node.law (opened (table_rules l.node.law) None (length l.node.outputs) l.sides) (seen l.outcome) (calls_of l.node.law) l.number

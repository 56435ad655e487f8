use Rattle.std.proofs.Common.{None, length, arith}
use Rattle.mg_calc.specs.Outcome.{opened}
use Rattle.mg_calc.specs.Shape.{calls_of}
use Rattle.mg_equations.specs.Code.Seen.{seen}
use Rattle.mg_equations.proofs.OutcomeSteps.{called_further}
use Rattle.mg_equations.proofs.node.source_outcome.Goals as goal
use Rattle.mg_calc.specs.Law.{table_rules}

pub loop-number-preserved : goal.loop-number-preserved
loop-number-preserved c =
    let node = c.args.node.now in
    called_further node.law (opened (table_rules node.law) None (length node.outputs) c.args.sides.now) (seen c.loop-number.outcome) (seen c.call.new.self)
    (calls_of node.law) c.loop-number.number c.loop-number.invariant (omega (arith, c.call_count-number-end.ensures)) c.in_ok-call.ensures

use Rattle.mg_calc.specs.Rules.{no_laws}
use Rattle.mg_calc.proofs.TableRules.{by_table}
use Rattle.mg_equations.proofs.ComeSteps.{has_begun, begun_can, goes_first}
use Rattle.mg_equations.proofs.round.first.Goals as goal

pub go_on-requires-clause-can : goal.go_on-requires-clause-can
go_on-requires-clause-can c =
    begun_can (record { plan = c.args.plan.now; inputs = c.args.inputs.now; laws = no_laws }) c.args.streams.now c.args.node.now c.in_ok-progress.progress c.requires.streams
    (has_begun (record { plan = c.args.plan.now; inputs = c.args.inputs.now; laws = no_laws }) c.args.node.now _ c.in_ok-progress.progress (by_table no_laws c.args.node.now.law c.requires.unstated) c.in_ok-begun.ensures c.in_ok-progress.ensures.outcome c.in_ok-progress.ensures.read c.in_ok-progress.ensures.reached)

pub returns : goal.returns
returns c = λ laws.
    goes_first (record { plan = c.args.plan.now; inputs = c.args.inputs.now; laws = laws }) c.args.streams.now c.args.node.now c.in_ok-progress.progress c.go_on.new.self c.requires.known c.requires.streams c.requires.ports c.requires.shape
    (has_begun (record { plan = c.args.plan.now; inputs = c.args.inputs.now; laws = laws }) c.args.node.now _ c.in_ok-progress.progress (by_table laws c.args.node.now.law c.requires.unstated) c.in_ok-begun.ensures c.in_ok-progress.ensures.outcome c.in_ok-progress.ensures.read c.in_ok-progress.ensures.reached)
    c.in_ok-go_on.ensures

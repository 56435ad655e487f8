use Rattle.mg_equations.specs.Code.Seen.{seen}
use Rattle.mg_equations.proofs.OutcomeSteps.{shown_further}
use Rattle.mg_equations.proofs.progress.show_all.Goals as goal

pub loop-timed-preserved : goal.loop-timed-preserved
loop-timed-preserved c =
    let node = c.args.node.now in
    shown_further node.law node.shape.offset (seen c.args.outcome.now) (seen c.loop-timed.outcome) (seen c.show.new.self)
    c.args.sets.now c.loop-timed.timed-index c.timed-item.result c.loop-timed.invariant c.loop-timed-test.true c.timed-item.is c.in_ok-show.ensures

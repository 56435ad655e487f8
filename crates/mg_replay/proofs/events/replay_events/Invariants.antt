-- Events were made.
use Rattle.std.proofs.Common.{List}
use Rattle.mg_edge.specs.Edge.{SourceTold}
use Rattle.mg_calc.specs.declared.inputs.Inputs.{Inputs}
use Rattle.mg_calc.specs.Told.{BoxTold}
use Rattle.mg_feed.specs.LinesSeen.{reading, number_of}
use Rattle.mg_sched.specs.Sweeps.{Becomes}
use Rattle.mg_sched.specs.Code.Left.{left_in}
use Rattle.mg_replay.specs.Reading.{IsMaking}
use Rattle.mg_replay.proofs.events.replay_events.Given as goal

abbrev pub invariant-events : goal.invariant-events
invariant-events g l =
    Becomes g.C.NodeCalculator.laws l.fn.net l.net
    × ((boxes : List BoxTold) (inputs : Inputs) (first : SourceTold) → IsMaking g.C.NodeCalculator.laws l.plan boxes inputs first (g.S.Source.told l.fn.input) (reading l.fn.lines) (number_of l.fn.lines) l.fn.net
    → IsMaking g.C.NodeCalculator.laws l.plan boxes inputs first (g.S.Source.told l.input) (reading l.lines) (number_of l.lines) l.net)

abbrev pub decreases-events : goal.decreases-events
decreases-events g l = left_in l.net

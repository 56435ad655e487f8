use Rattle.mg_crew.specs.Code.Seats.{StaysAtWork}
use Rattle.mg_crew.proofs.rounds.feed_all.Given as goal

abbrev pub invariant-loop-input : goal.invariant-loop-input
invariant-loop-input g l = StaysAtWork g.C.NodeCalculator.laws l.shop.net.now l.shop.tools.now l.initial.seat l.seat l.place

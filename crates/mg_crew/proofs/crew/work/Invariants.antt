use Rattle.mg_crew.specs.Code.Seats.{StaysAtWork}
use Rattle.mg_crew.proofs.crew.work.Given as goal

abbrev pub invariant-loop : goal.invariant-loop
invariant-loop g l = StaysAtWork g.C.NodeCalculator.laws l.shop.net.now l.shop.tools.now l.fn.seat l.seat l.place

use Rattle.mg_crew.specs.Code.Seats.{StaysAtWork}
use Rattle.mg_crew.proofs.rounds.serve_all.Given as goal

abbrev pub invariant-loop-node : goal.invariant-loop-node
invariant-loop-node g l = StaysAtWork g.C.NodeCalculator.laws l.shop.net.now l.shop.tools.now l.initial.seat l.seat l.place

use Rattle.mg_crew.specs.Code.Seats.{HasWork}
use Rattle.mg_crew.proofs.commits.shelve.Given as goal

abbrev pub invariant-loop : goal.invariant-loop
invariant-loop g l = HasWork g.C.NodeCalculator.laws l.net l.initial.seat l.seat l.outcome

use Rattle.mg_workers.specs.Shared.{StaysShared}
use Rattle.mg_crew.proofs.working.run_in_steps.Given as goal

abbrev pub invariant-steps : goal.invariant-steps
invariant-steps g l = StaysShared g.C.NodeCalculator.laws l.shop.net.now l.fn.seat l.seat

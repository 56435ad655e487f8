-- Along the edges so far nothing goes, and the net is as it was.
use Rattle.std.proofs.Common.{◌≡◌}
use Rattle.mg_sched.specs.Code.Left.{EdgesRest}
use Rattle.mg_sched.proofs.net.Net.goes_along_edges.Given as goal

abbrev pub invariant-edges : goal.invariant-edges
invariant-edges g l = (l.self ≡ l.fn.self) × EdgesRest g.C.NodeCalculator.laws l.fn.self l.edge

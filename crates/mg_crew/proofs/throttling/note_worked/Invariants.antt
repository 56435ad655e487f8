-- Each edge stands after the one before it.
use Rattle.std.proofs.Common.{◌<◌, IfSome}
use Rattle.mg_sched.proofs.Sweeping.{edges_left}
use Rattle.mg_workers.specs.Shared.{StaysShared}
use Rattle.mg_crew.proofs.throttling.note_worked.Given as goal

abbrev pub invariant-edges : goal.invariant-edges
invariant-edges g l = record {
  stays : StaysShared g.C.NodeCalculator.laws l.shop.net.now l.fn.seat l.seat;
  there : IfSome l.cursor (λ e. e < l.shop.tools.now.chart.into.edges);
}

abbrev pub decreases-edges : goal.decreases-edges
decreases-edges g l = edges_left l.shop.tools.now.chart.into.edges l.cursor

-- Each edge stands after the one before it.
use Rattle.std.proofs.Common.{◌<◌, IfSome}
use Rattle.mg_sched.proofs.Sweeping.{edges_left}
use Rattle.mg_crew.specs.Code.Seats.{StaysAtWork}
use Rattle.mg_crew.proofs.bringing.wake_all.Given as goal

abbrev pub invariant-edges : goal.invariant-edges
invariant-edges g l = record {
  stays : StaysAtWork g.C.NodeCalculator.laws l.shop.net.now l.shop.tools.now l.fn.seat l.seat l.place;
  there : IfSome l.cursor (λ e. e < l.shop.tools.now.chart.from.edges);
}

abbrev pub decreases-edges : goal.decreases-edges
decreases-edges g l = edges_left l.shop.tools.now.chart.from.edges l.cursor

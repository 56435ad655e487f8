-- Each feeder stands after the one before it.
use Rattle.std.proofs.Common.{◌<◌, IfSome}
use Rattle.mg_sched.proofs.Sweeping.{edges_left}
use Rattle.mg_crew.specs.Code.Places.{IsPlaceAt}
use Rattle.mg_crew.proofs.throttling.put_let_go.Given as goal

abbrev pub invariant-feeders : goal.invariant-feeders
invariant-feeders g l = record {
  placed : IsPlaceAt l.tools.levels l.place;
  there : IfSome l.cursor (λ feeder. feeder < l.end);
}

abbrev pub decreases-feeders : goal.decreases-feeders
decreases-feeders g l = edges_left l.end l.cursor

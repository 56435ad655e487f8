-- The node is ready for a round, and idle if it isn't due.
use Rattle.mg_live.specs.Due.{IsUndue, AreIdleBut}
use Rattle.mg_test_free.specs.Ready.{IsReady}
use Rattle.mg_test_free.proofs.rounds.run.Given as goal

abbrev pub invariant-rounds : goal.invariant-rounds
invariant-rounds l = record {
  ready : IsReady l.live.free l.live.takers.items l.given.streams;
  idle : AreIdleBut (IsUndue l.due) l.given.streams l.live.free l.live.takers.items;
}

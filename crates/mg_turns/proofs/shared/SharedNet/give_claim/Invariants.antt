use Rattle.mg_turns.specs.Sights.{has_after}
use Rattle.mg_turns.specs.Code.Plays.{claimed_view}
use Rattle.mg_turns.proofs.shared.SharedNet.give_claim.Given as goal

abbrev pub ghosts-give_noting : goal.ghosts-give_noting
ghosts-give_noting g a = record { after = claimed_view a.seat.now.me.0 a.node a.held.part a._engine.now (has_after a._claimed.now a.seat.now.me.0.work) }

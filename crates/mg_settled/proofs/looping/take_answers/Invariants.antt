use Rattle.std.proofs.Common.{◌≡◌, Option, option_map, length}
use Rattle.mg_value.specs.Payload.{Plain}
use Rattle.mg_value.specs.Packet.{Stamped}
use Rattle.mg_settled.specs.Prefix.{IsPrefix}
use Rattle.mg_settled.specs.Loopback.{StandsBehind}
use Rattle.mg_settled.proofs.LoopbackSteps.{AreSoFar}
use Rattle.mg_settled.proofs.looping.take_answers.Given as goal

abbrev pub invariant-loop-at : goal.invariant-loop-at
invariant-loop-at l = record {
  heard : IsPrefix l.back;
  told : (before : Option (Stamped Plain)) → l.fn.previous ≡ option_map (λ p. p.at) before → StandsBehind before l.fn.main.packets
      → AreSoFar before l.fn.main l.fn.back l.previous l.main l.back l.packets.items;
}

abbrev pub decreases-loop-at : goal.decreases-loop-at
decreases-loop-at l = length l.main.packets

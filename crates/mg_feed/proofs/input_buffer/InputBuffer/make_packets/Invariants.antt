use Rattle.std.proofs.Common.{◌≡◌, ◌<◌, List, length}
use Rattle.mg_value.specs.Payload.{Plain}
use Rattle.mg_value.specs.Packet.{Stamped}
use Rattle.mg_feed.specs.Seen.{input_buffer}
use Rattle.mg_feed.specs.Code.MadeSoFar.{AreMade}
use Rattle.mg_feed.proofs.input_buffer.InputBuffer.make_packets.Given as goal

-- so many packets were made
abbrev pub invariant-loop-i : goal.invariant-loop-i
invariant-loop-i l = record {
  made : (gone : List (List (Stamped Plain))) → AreMade gone l.fn.from (input_buffer l.fn.self) → AreMade gone l.i (input_buffer l.self);
  sides : (input_buffer l.self).given.sides ≡ (input_buffer l.fn.self).given.sides;
  graph : (input_buffer l.self).graph ≡ (input_buffer l.fn.self).graph;
  some : 0 < length (input_buffer l.fn.self).graph.kinds;
}

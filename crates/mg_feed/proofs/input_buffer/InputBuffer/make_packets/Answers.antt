use Rattle.std.proofs.Common.{◌≡◌, ◌+◌, ◌∙◌, subst, arith}
use Rattle.mg_feed.specs.Seen.{input_buffer}
use Rattle.mg_feed.specs.Code.MadeSoFar.{AreMade}
use Rattle.mg_feed.proofs.PiecesMade.{step-made, made-nowhere}
use Rattle.mg_feed.proofs.input_buffer.InputBuffer.make_packets.Goals as goal

pub loop-i-preserved : goal.loop-i-preserved
loop-i-preserved c =
    let kept = c.loop-i.invariant in
    record {
      made = λ gone made. step-made gone c.loop-i.i (c.loop-i.i + 1) (input_buffer c.loop-i.self) (input_buffer c.make_packet.new.self) (omega arith) c.make_packet.ensures.graph (c.in_ok-make_packet.ensures.streams) (kept.made gone made);
      sides = c.in_ok-make_packet.ensures.sides ∙ kept.sides;
      graph = c.make_packet.ensures.graph ∙ kept.graph;
      some = kept.some;
    }

pub returns-clause-made : goal.returns-clause-made
returns-clause-made c = λ gone made.
    let last : c.loop-i.i ≡ c.args.to = let low = c.loop-i-test.false in let high = c.loop-i.auto.i-end c.requires in omega (arith, low, high) in
    subst (λ n. AreMade gone n (input_buffer c.loop-i.self)) last (c.loop-i.invariant.made gone made)

pub returns-then-inputs-eq0-clause-made : goal.returns-then-inputs-eq0-clause-made
returns-then-inputs-eq0-clause-made c = λ gone made.
    made-nowhere gone c.args.from c.args.to (input_buffer c.args.self.now) (omega arith) made

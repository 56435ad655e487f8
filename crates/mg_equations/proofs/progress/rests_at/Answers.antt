use Rattle.std.proofs.Common.{ℕ, List, get_or, ap, refl, arith}
use Rattle.mg_equations.proofs.PortSteps.{rests_more, rests_whole}
use Rattle.mg_equations.proofs.progress.rests_at.Goals as goal

pub loop-i-preserved : goal.loop-i-preserved
loop-i-preserved c =
    rw c.in_ok-push.ensures.items
    (rests_more c.args.streams.now c.loop-i.rests.items c.args.ports.now c.args.read.now c.loop-i.i (get_or c.as_slice.result.now c.loop-i.i 0) (get_or c.args.read.now c.loop-i.i 0) c.index-streams-as_slice.result c.rest.result c.requires.known c.requires.within.ports (omega (arith, c.loop-i-test.true, c.len-count.ensures))
    (ap (λ (ns : List ℕ). get_or ns c.loop-i.i 0) c.as_slice.ensures) c.index-streams-as_slice.is refl c.rest.ensures c.loop-i.invariant)

pub returns-clause-rests : goal.returns-clause-rests
returns-clause-rests c = rests_whole c.args.streams.now c.loop-i.rests.items c.args.ports.now c.args.read.now c.loop-i.i c.requires.within.ports (omega (arith, c.loop-i-test.false, c.len-count.ensures)) c.loop-i.invariant

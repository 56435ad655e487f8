use Rattle.std.proofs.Common.{◌∙◌, ◌-◌, ℕ, List, get_or, ap, ap₂, arith}
use Rattle.mg_equations.proofs.PortSteps.{read_more, read_whole}
use Rattle.mg_equations.proofs.progress.read_at.Goals as goal

pub loop-i-preserved : goal.loop-i-preserved
loop-i-preserved c =
    rw c.in_ok-push.ensures.items
    (read_more c.args.streams.now c.args.rests.now c.args.ports.now c.loop-i.read.items c.loop-i.i (get_or c.as_slice.result.now c.loop-i.i 0) _ c.index-streams-as_slice.result c.index-rests-i.result c.requires.known c.requires.many c.loop-i-test.true
    (ap (λ (ns : List ℕ). get_or ns c.loop-i.i 0) c.as_slice.ensures) c.index-streams-as_slice.is c.index-rests-i.is (c.saturating_sub.ensures ∙ ap₂ (λ (a b : ℕ). a - b) c.len.ensures c.len-in-loop-i.ensures) c.loop-i.invariant)

pub returns : goal.returns
returns c = read_whole c.args.streams.now c.args.rests.now c.args.ports.now c.loop-i.read.items c.loop-i.i c.requires.many (omega (arith, c.loop-i-test.false)) c.loop-i.invariant

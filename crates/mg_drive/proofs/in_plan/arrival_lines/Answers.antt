use Rattle.std.proofs.Common.{arith}
use Rattle.mg_drive.proofs.LiveTells.{lines_more, lines_all}
use Rattle.mg_drive.proofs.in_plan.arrival_lines.Goals as goal

pub put_arrivals-requires-clause-free : goal.put_arrivals-requires-clause-free
put_arrivals-requires-clause-free c = omega (arith, c.loop-place-test.true, c.len-place-end.ensures, c.requires)

pub loop-place-preserved : goal.loop-place-preserved
loop-place-preserved c = λ takens have.
    lines_more c.args.live.now.free takens c.args.live.now.takers.items c.loop-place.place c.loop-place.lines.items c.put_arrivals.new.text.items have (omega (arith, c.loop-place-test.true, c.len-place-end.ensures, c.requires))
    (c.loop-place.invariant takens have) (λ free taken free_is taken_is. c.in_ok-put_arrivals.ensures takens free taken have free_is taken_is)

pub returns : goal.returns
returns c = λ takens have. lines_all c.args.live.now.free takens c.loop-place.place c.loop-place.lines.items (omega (arith, c.loop-place-test.false, c.len-place-end.ensures, c.requires)) (c.loop-place.invariant takens have)

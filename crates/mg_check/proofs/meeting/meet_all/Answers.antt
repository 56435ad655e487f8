use Rattle.mg_check.proofs.InferredKinds.{inferred_more, inferred_end}
use Rattle.mg_check.proofs.meeting.meet_all.Goals as goal

pub loop-place-preserved : goal.loop-place-preserved
loop-place-preserved c =
    inferred_more c.meet_at.new.mets.items c.loop-place.mets.items _ c.args.edges.now c.args.kinds.now c.loop-place.place c.min-place-end.result _ _ c.loop-place-test.true c.min-place-end.ensures c.meet_at.ensures c.loop-place.invariant

pub returns : goal.returns
returns c = inferred_end c.loop-place.mets.items _ c.args.edges.now c.args.kinds.now c.loop-place.place c.min-place-end.result c.loop-place-test.false c.min-place-end.ensures c.loop-place.invariant

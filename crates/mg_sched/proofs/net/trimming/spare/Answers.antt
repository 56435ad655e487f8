use Rattle.mg_sched.proofs.KeptStreams.{none_spared, one_spared, all_spared}
use Rattle.mg_sched.proofs.net.trimming.spare.Goals as goal

pub loop-stream-init : goal.loop-stream-init
loop-stream-init c = none_spared c.args.kept.now c.args.got.now

pub loop-stream-preserved : goal.loop-stream-preserved
loop-stream-preserved c =
    one_spared c.args.kept.now c.args.got.now c.loop-stream.got c.loop-stream.stream c.spared.result c.loop-stream-test.true c.requires c.spared.ensures
    c.loop-stream.invariant

pub returns-clause-spared : goal.returns-clause-spared
returns-clause-spared c = all_spared c.args.kept.now c.args.got.now c.loop-stream.got c.loop-stream.stream c.loop-stream-test.false c.loop-stream.invariant

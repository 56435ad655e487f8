use Rattle.std.proofs.Common.{◌<◌, length, slice_index_or, arith}
use Rattle.mg_node.proofs.Lemmas.{read_at}
use Rattle.mg_sched.proofs.LaidAt.{number_at, longer_next}
use Rattle.mg_sched.proofs.net.extending_some.extend_each_at.Goals as goal

pub loop-i-preserved : goal.loop-i-preserved
loop-i-preserved g c =
    let less : c.loop-i.i < length c.args.inputs.now = omega (arith, c.loop-i-test.true) in
    let many = c.requires.many in
    longer_next c.args.from c.args.inputs.now c.args.pieces.now c.loop-i.i (slice_index_or c.args.inputs.now c.loop-i.i 0) c.args.engines.now c.loop-i.engines c.extend_at.new.engines c.index-as_slice-i.result c.requires.rising c.loop-i.invariant
    c.requires.there (number_at c.args.inputs.now c.loop-i.i less)
    (read_at c.as_slice.result.now c.args.pieces.now c.loop-i.i c.index-as_slice-i.result c.as_slice.ensures (omega (arith, less, many)) c.index-as_slice-i.is) c.in-Ok.ensures.extended

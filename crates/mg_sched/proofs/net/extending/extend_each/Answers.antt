use Rattle.std.proofs.Common.{◌<◌, length, arith}
use Rattle.mg_node.proofs.Lemmas.{read_at}
use Rattle.mg_sched.proofs.LaidPieces.{longer_next, may_next}
use Rattle.mg_sched.proofs.net.extending.extend_each.Goals as goal

pub extend_at-requires-clause-may : goal.extend_at-requires-clause-may
extend_at-requires-clause-may g c =
    let less : c.loop-input.input < length c.args.pieces.now = omega (arith, c.loop-input-test.true, c.len-input-end.ensures) in
    may_next c.args.from c.args.pieces.now c.loop-input.input c.args.engines.now c.loop-input.engines c.index-as_slice-input.result c.loop-input.invariant c.requires.may
    (read_at c.as_slice.result.now c.args.pieces.now c.loop-input.input c.index-as_slice-input.result c.as_slice.ensures less c.index-as_slice-input.is)

pub loop-input-preserved : goal.loop-input-preserved
loop-input-preserved g c =
    let less : c.loop-input.input < length c.args.pieces.now = omega (arith, c.loop-input-test.true, c.len-input-end.ensures) in
    let within = c.requires.within in
    longer_next c.args.from c.args.pieces.now c.loop-input.input c.args.engines.now c.loop-input.engines c.extend_at.new.engines c.index-as_slice-input.result c.loop-input.invariant (omega (arith, less, within))
    (read_at c.as_slice.result.now c.args.pieces.now c.loop-input.input c.index-as_slice-input.result c.as_slice.ensures less c.index-as_slice-input.is) c.in-Ok.ensures.extended

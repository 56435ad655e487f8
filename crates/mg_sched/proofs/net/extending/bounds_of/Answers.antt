use Rattle.std.proofs.Common.{◌≡◌, ◌<◌, ◌+◌, Some, length, slice_get, refl, arith}
use Rattle.mg_node.proofs.Lemmas.{read_at}
use Rattle.mg_sched.specs.Code.Longer.{IsBound}
use Rattle.mg_sched.proofs.AtEach.{pushed}
use Rattle.mg_sched.proofs.LaidPieces.{has_bound, bound_there}
use Rattle.mg_sched.proofs.net.extending.bounds_of.Goals as goal

pub bound-requires : goal.bound-requires
bound-requires g c =
    let less : c.loop-input.input < length c.args.pieces.now = omega (arith, c.loop-input-test.true, c.len-input-end.ensures) in
    let within = c.requires.within in
    let at : slice_get c.args.engines.now (c.args.from + c.loop-input.input) ≡ Some c.index-engines-from.result = read_at c.args.engines.now c.args.engines.now (c.args.from + c.loop-input.input) c.index-engines-from.result refl (omega (arith, less, within)) c.index-engines-from.is in
    has_bound c.args.from c.loop-input.input c.args.pieces.now c.args.engines.now c.index-engines-from.result c.requires.may less at

pub loop-input-preserved : goal.loop-input-preserved
loop-input-preserved g c =
    let less : c.loop-input.input < length c.args.pieces.now = omega (arith, c.loop-input-test.true, c.len-input-end.ensures) in
    let within = c.requires.within in
    let at : slice_get c.args.engines.now (c.args.from + c.loop-input.input) ≡ Some c.index-engines-from.result = read_at c.args.engines.now c.args.engines.now (c.args.from + c.loop-input.input) c.index-engines-from.result refl (omega (arith, less, within)) c.index-engines-from.is in
    pushed (IsBound c.args.from c.args.engines.now) c.loop-input.bounds.items c.push.new.self.items c.bound.result c.loop-input.input c.in_ok-push.ensures.items c.loop-input.invariant.0 c.loop-input.invariant.1
    (bound_there c.args.from c.loop-input.input c.args.engines.now c.index-engines-from.result c.bound.result at c.bound.ensures)

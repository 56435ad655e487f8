use Rattle.std.proofs.Common.{◌<◌, ◌+◌, length, slice_index_or, refl, arith}
use Rattle.mg_node.proofs.Lemmas.{read_at}
use Rattle.mg_sched.specs.Code.LongerAt.{IsBoundAt}
use Rattle.mg_sched.proofs.AtEach.{pushed}
use Rattle.mg_sched.proofs.LaidAt.{number_at, has_bound, bound_there}
use Rattle.mg_sched.proofs.net.extending_some.bounds_at.Goals as goal

pub bound-requires : goal.bound-requires
bound-requires g c =
    let less : c.loop-i.i < length c.args.inputs.now = omega (arith, c.loop-i-test.true) in
    let many = c.requires.many in
    let input = slice_index_or c.args.inputs.now c.loop-i.i 0 in
    let there = c.requires.there c.loop-i.i input (number_at c.args.inputs.now c.loop-i.i less) in
    has_bound c.args.from c.loop-i.i input c.args.inputs.now c.args.pieces.now c.args.engines.now c.index-engines-from.result c.requires.may (omega (arith, less, many)) (number_at c.args.inputs.now c.loop-i.i less)
    (read_at c.args.engines.now c.args.engines.now (c.args.from + input) c.index-engines-from.result refl there c.index-engines-from.is)

pub loop-i-preserved : goal.loop-i-preserved
loop-i-preserved g c =
    let less : c.loop-i.i < length c.args.inputs.now = omega (arith, c.loop-i-test.true) in
    let input = slice_index_or c.args.inputs.now c.loop-i.i 0 in
    let there = c.requires.there c.loop-i.i input (number_at c.args.inputs.now c.loop-i.i less) in
    pushed (IsBoundAt c.args.from c.args.inputs.now c.args.engines.now) c.loop-i.bounds.items c.push.new.self.items c.bound.result c.loop-i.i c.in_ok-push.ensures.items c.loop-i.invariant.0 c.loop-i.invariant.1
    (bound_there c.args.from c.loop-i.i input c.args.inputs.now c.args.engines.now c.index-engines-from.result c.bound.result (number_at c.args.inputs.now c.loop-i.i less)
    (read_at c.args.engines.now c.args.engines.now (c.args.from + input) c.index-engines-from.result refl there c.index-engines-from.is) c.bound.ensures)

use Rattle.std.proofs.Common.{◌≡◌, ◌-◌, ◌+◌, ℕ, slice_index_or, refl, subst, arith}
use Rattle.mg_node.proofs.Lemmas.{read_at}
use Rattle.mg_sched.specs.Code.LongerAt.{WereLongerAt, SomeLongerAt}
use Rattle.mg_sched.proofs.LaidAt.{number_at, some_longer_at, shorter_were, shortened_all}
use Rattle.mg_sched.proofs.net.extending_some.shorten_each_at.Goals as goal

pub shorten_at-requires-clause-some : goal.shorten_at-requires-clause-some
shorten_at-requires-clause-some g c =
    let same : c.loop-left.left ≡ c.loop-left.left - 1 + 1 = omega (arith, c.loop-left-test.true) in
    let most = c.loop-left.invariant.0 in let inputs = c.requires.inputs in let pieces = c.requires.pieces in let bounds = c.requires.bounds in
    let input = slice_index_or c.args.inputs.now (c.loop-left.left - 1) 0 in
    let input_at = number_at c.args.inputs.now (c.loop-left.left - 1) (omega (arith, most, inputs, c.loop-left-test.true)) in
    let piece_at = read_at c.as_slice.result.now c.args.pieces.now (c.loop-left.left - 1) c.index-as_slice-left.result c.as_slice.ensures (omega (arith, most, pieces, c.loop-left-test.true)) c.index-as_slice-left.is in
    let bound_at = read_at c.args.bounds.now c.args.bounds.now (c.loop-left.left - 1) c.index-bounds-left.result refl (omega (arith, most, bounds, c.loop-left-test.true)) c.index-bounds-left.is in
    some_longer_at c.args.from c.args.inputs.now c.args.pieces.now c.args.bounds.now (c.loop-left.left - 1) input c.loop-left.engines c.index-as_slice-left.result c.index-bounds-left.result
    (subst (λ (n : ℕ). SomeLongerAt g.C.NodeCalculator.laws c.args.from c.args.inputs.now c.args.pieces.now c.args.bounds.now n c.loop-left.engines) same
    (record { before = c.requires.some.before; were = c.loop-left.invariant.1 c.requires.some.before c.requires.some.were }))
    input_at piece_at bound_at

pub loop-left-preserved : goal.loop-left-preserved
loop-left-preserved g c =
    let same : c.loop-left.left ≡ c.loop-left.left - 1 + 1 = omega (arith, c.loop-left-test.true) in
    let most = c.loop-left.invariant.0 in let inputs = c.requires.inputs in let pieces = c.requires.pieces in let bounds = c.requires.bounds in
    let input = slice_index_or c.args.inputs.now (c.loop-left.left - 1) 0 in
    let input_at = number_at c.args.inputs.now (c.loop-left.left - 1) (omega (arith, most, inputs, c.loop-left-test.true)) in
    let piece_at = read_at c.as_slice.result.now c.args.pieces.now (c.loop-left.left - 1) c.index-as_slice-left.result c.as_slice.ensures (omega (arith, most, pieces, c.loop-left-test.true)) c.index-as_slice-left.is in
    let bound_at = read_at c.args.bounds.now c.args.bounds.now (c.loop-left.left - 1) c.index-bounds-left.result refl (omega (arith, most, bounds, c.loop-left-test.true)) c.index-bounds-left.is in (
      omega (arith, most),
      λ before were.
          shorter_were c.args.from c.args.inputs.now c.args.pieces.now c.args.bounds.now (c.loop-left.left - 1) input before c.loop-left.engines c.shorten_at.new.engines c.index-as_slice-left.result c.index-bounds-left.result
          (subst (λ (n : ℕ). WereLongerAt g.C.NodeCalculator.laws c.args.from c.args.inputs.now c.args.pieces.now c.args.bounds.now n before c.loop-left.engines) same (c.loop-left.invariant.1 before were))
          input_at piece_at bound_at c.shorten_at.ensures,
    )

pub returns : goal.returns
returns g c = λ before were.
    shortened_all c.args.from c.args.inputs.now c.args.pieces.now c.args.bounds.now c.loop-left.left before c.loop-left.engines (omega (arith, c.loop-left-test.false)) (c.loop-left.invariant.1 before were)

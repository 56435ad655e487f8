use Rattle.std.proofs.Common.{◌≡◌, ◌-◌, ◌+◌, ℕ, refl, subst, arith}
use Rattle.mg_node.proofs.Lemmas.{read_at}
use Rattle.mg_sched.specs.Code.Longer.{WereLonger, SomeLonger}
use Rattle.mg_sched.proofs.LaidPieces.{some_longer_there, some_longer_at, shorter_were, shortened_all}
use Rattle.mg_sched.proofs.net.extending.shorten_each.Goals as goal

pub shorten_at-requires-clause-there : goal.shorten_at-requires-clause-there
shorten_at-requires-clause-there g c =
    let same : c.loop-left.left ≡ c.loop-left.left - 1 + 1 = omega (arith, c.loop-left-test.true) in
    some_longer_there c.args.from c.args.pieces.now c.args.bounds.now (c.loop-left.left - 1) c.loop-left.engines
    (subst (λ (n : ℕ). SomeLonger g.C.NodeCalculator.laws c.args.from c.args.pieces.now c.args.bounds.now n c.loop-left.engines) same
    (record { before = c.requires.some.before; were = c.loop-left.invariant.1 c.requires.some.before c.requires.some.were }))

pub shorten_at-requires-clause-some : goal.shorten_at-requires-clause-some
shorten_at-requires-clause-some g c =
    let same : c.loop-left.left ≡ c.loop-left.left - 1 + 1 = omega (arith, c.loop-left-test.true) in
    let most = c.loop-left.invariant.0 in let pieces = c.requires.pieces in let bounds = c.requires.bounds in
    some_longer_at c.args.from c.args.pieces.now c.args.bounds.now (c.loop-left.left - 1) c.loop-left.engines c.index-as_slice-left.result c.index-bounds-left.result
    (subst (λ (n : ℕ). SomeLonger g.C.NodeCalculator.laws c.args.from c.args.pieces.now c.args.bounds.now n c.loop-left.engines) same
    (record { before = c.requires.some.before; were = c.loop-left.invariant.1 c.requires.some.before c.requires.some.were }))
    (read_at c.as_slice.result.now c.args.pieces.now (c.loop-left.left - 1) c.index-as_slice-left.result c.as_slice.ensures (omega (arith, most, pieces, c.loop-left-test.true)) c.index-as_slice-left.is)
    (read_at c.args.bounds.now c.args.bounds.now (c.loop-left.left - 1) c.index-bounds-left.result refl (omega (arith, most, bounds, c.loop-left-test.true)) c.index-bounds-left.is)

pub loop-left-preserved : goal.loop-left-preserved
loop-left-preserved g c =
    let same : c.loop-left.left ≡ c.loop-left.left - 1 + 1 = omega (arith, c.loop-left-test.true) in
    let most = c.loop-left.invariant.0 in let pieces = c.requires.pieces in let bounds = c.requires.bounds in (
      omega (arith, most),
      λ before were.
          shorter_were c.args.from c.args.pieces.now c.args.bounds.now (c.loop-left.left - 1) before c.loop-left.engines c.shorten_at.new.engines c.index-as_slice-left.result c.index-bounds-left.result
          (subst (λ (n : ℕ). WereLonger g.C.NodeCalculator.laws c.args.from c.args.pieces.now c.args.bounds.now n before c.loop-left.engines) same (c.loop-left.invariant.1 before were))
          (read_at c.as_slice.result.now c.args.pieces.now (c.loop-left.left - 1) c.index-as_slice-left.result c.as_slice.ensures (omega (arith, most, pieces, c.loop-left-test.true)) c.index-as_slice-left.is)
          (read_at c.args.bounds.now c.args.bounds.now (c.loop-left.left - 1) c.index-bounds-left.result refl (omega (arith, most, bounds, c.loop-left-test.true)) c.index-bounds-left.is)
          c.shorten_at.ensures,
    )

pub returns : goal.returns
returns g c = λ before were.
    shortened_all c.args.from c.args.pieces.now c.args.bounds.now c.loop-left.left before c.loop-left.engines (omega (arith, c.loop-left-test.false)) (c.loop-left.invariant.1 before were)

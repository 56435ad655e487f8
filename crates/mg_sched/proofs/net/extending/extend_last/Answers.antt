use Rattle.std.proofs.Common.{◌≡◌, ◌-◌, ℕ, List, length, subst, sym, arith}
use Rattle.mg_sched.specs.Code.Made.{AtPlaces}
use Rattle.mg_sched.specs.Code.Longer.{MayEach, IsBound}
use Rattle.mg_sched.proofs.LaidPieces.{longer_all, shorter_again}
use Rattle.mg_sched.proofs.net.extending.extend_last.Goals as goal

pub returns-clause-longer : goal.returns-clause-longer
returns-clause-longer g c =
    let from : length c.args.engines.now - c.len.result ≡ length c.args.engines.now - length c.args.pieces.now = omega (arith, c.len.ensures) in
    let all : c.extend_each-done.result ≡ length c.args.pieces.now = omega (arith, c.if-done-len.false, c.len-2.ensures, c.extend_each-done.ensures.count) in
    longer_all (length c.args.engines.now - length c.args.pieces.now) _ c.args.pieces.now _ c.args.engines.now c.extend_each-done.new.engines from all c.extend_each-done.ensures.longer

pub returns-then-done-len-clause-unchanged : goal.returns-then-done-len-clause-unchanged
returns-then-done-len-clause-unchanged g c =
    let from : length c.args.engines.now - length c.args.pieces.now ≡ length c.args.engines.now - c.len.result = omega (arith, c.len.ensures) in
    let room = c.requires.room in let most = c.extend_each-done.ensures.count in
    shorter_again (length c.args.engines.now - c.len.result) c.args.pieces.now c.as_slice.result.now c.extend_each-done.result c.args.engines.now c.extend_each-done.new.engines c.shorten_each.new.engines c.extend_each-done.ensures.longer
    (subst (λ (n : ℕ). MayEach g.C.NodeCalculator.laws n c.args.pieces.now c.args.engines.now) from c.requires.may)
    (subst (λ (bounds : List ℕ). AtPlaces (IsBound (length c.args.engines.now - c.len.result) c.args.engines.now) bounds) (sym c.as_slice.ensures.value) c.in_ok-bounds.ensures.bounds)
    (omega (arith, room, most, c.len.ensures)) c.shorten_each.ensures

use Rattle.std.proofs.Common.{rules, ◌≡◌, ◌<◌, Some, length, slice_get, sym, subst, arith}
use Rattle.mg_node.proofs.Making.{read_at}
use Rattle.mg_sched.specs.Code.Made.{AtPlaces}
use Rattle.mg_sched.proofs.AtEach.{pushed}
use Rattle.mg_test_nets.specs.Behind.{IsBehindAt}
use Rattle.mg_test_nets.proofs.PiecesBehind.{behind_there}
use Rattle.mg_test_nets.proofs.pieces.with_pieces.Goals as goal

pub loop-input-preserved : goal.loop-input-preserved
loop-input-preserved c =
    let less : c.loop-input.input < length c.args.pieces.now = search rules in
    let many = c.requires in
    let at : slice_get c.args.before.now c.loop-input.input ≡ Some c.index-as_slice-input.result =
    read_at _ _ _ _ c.as_slice.ensures (omega (arith, less, many)) c.index-as_slice-input.is in
    let at_piece : slice_get c.args.pieces.now c.loop-input.input ≡ Some c.index-as_slice-input-in-loop-input.result =
    read_at _ _ _ _ c.as_slice-in-loop-input.ensures less c.index-as_slice-input-in-loop-input.is in
    pushed (IsBehindAt c.args.before.now c.args.pieces.now) _ _ _ c.loop-input.input c.in_ok-push.ensures.items c.loop-input.invariant.0 c.loop-input.invariant.1
    (behind_there c.args.before.now c.args.pieces.now c.loop-input.input _ _ _ at at_piece c.in_ok-with_piece.ensures)

pub returns-clause-each : goal.returns-clause-each
returns-clause-each c = subst (AtPlaces (IsBehindAt c.args.before.now c.args.pieces.now)) (sym c.in_ok-from_vec.ensures.entries) c.loop-input.invariant.0

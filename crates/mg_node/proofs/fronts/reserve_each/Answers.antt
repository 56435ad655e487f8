use Rattle.std.proofs.Common.{arith}
use Rattle.mg_node.proofs.FrontSteps.{reserved_same, answer_room}
use Rattle.mg_node.proofs.fronts.reserve_each.Goals as goal

pub returns-in_err-reserve-clause-same : goal.returns-in_err-reserve-clause-same
returns-in_err-reserve-clause-same c = reserved_same c.loop-i.outputs c.args.outputs.now c.loop-i.i c.index-outputs-i.result c.reserve.new.self c.in_err-reserve.ensures.unchanged c.loop-i.invariant.same

pub loop-i-preserved : goal.loop-i-preserved
loop-i-preserved c = record {
  same = reserved_same c.loop-i.outputs c.args.outputs.now c.loop-i.i c.index-outputs-i.result c.reserve.new.self c.in_ok-reserve.ensures.unchanged c.loop-i.invariant.same;
  room = answer_room c.loop-i.outputs c.loop-i.i c.reserve.new.self c.args.answer.now c.packets_by-more.result (omega (arith, c.loop-i-test.true)) c.packets_by-more.ensures c.in_ok-reserve.ensures.room c.loop-i.invariant.room;
}

use Rattle.std.proofs.Common.{refl}
use Rattle.mg_node.proofs.FrontSteps.{reserved_same, single_room}
use Rattle.mg_node.proofs.fronts.reserve_first.Goals as goal

pub returns-in_err-reserve-clause-same : goal.returns-in_err-reserve-clause-same
returns-in_err-reserve-clause-same c = reserved_same c.args.outputs.now c.args.outputs.now 0 c.index-outputs-0.result c.reserve.new.self c.in_err-reserve.ensures.unchanged refl

pub returns-clause-same : goal.returns-clause-same
returns-clause-same c = reserved_same c.args.outputs.now c.args.outputs.now 0 c.index-outputs-0.result c.reserve.new.self c.in_ok-reserve.ensures.unchanged refl

pub returns-clause-room : goal.returns-clause-room
returns-clause-room c = single_room c.args.outputs.now c.reserve.new.self c.args.answer.now c.packets_by-more.result c.requires c.packets_by-more.ensures c.in_ok-reserve.ensures.room

use Rattle.mg_turns.proofs.Keeping.{raise_keeps, raise_work}
use Rattle.mg_turns.proofs.Telling.{raise_tells}
use Rattle.mg_turns.proofs.shared.SharedNet.try_raise.Goals as goal

pub returns-clause-keeps : goal.returns-clause-keeps
returns-clause-keeps g c = (let t = c.raise_cell-tried in raise_keeps g.C.NodeCalculator.laws t.result c.args.node c.args.seat.now.seat.me.0 t.new.seat.seat.me.0 t.ensures.tried)

pub returns-clause-tells : goal.returns-clause-tells
returns-clause-tells g c = (let t = c.raise_cell-tried in raise_tells g.C.NodeCalculator.laws t.result c.args.node c.args.seat.now.seat.me.0 t.new.seat.seat.me.0 t.ensures.tried)

pub returns-clause-work : goal.returns-clause-work
returns-clause-work g c = (let t = c.raise_cell-tried in raise_work g.C.NodeCalculator.laws t.result c.args.node c.args.seat.now.seat.me.0 t.new.seat.seat.me.0 t.ensures.tried)

use Rattle.std.proofs.Common.{subst}
use Rattle.mg_calc.specs.declared.edge.Edge.{Edge}
use Rattle.mg_turns.specs.Calls.{key_of, TriesWaiting}
use Rattle.mg_turns.proofs.Keeping.{waiting_keeps, waiting_work}
use Rattle.mg_turns.proofs.Ways.{same_edge}
use Rattle.mg_turns.proofs.shared.SharedNet.try_waiting.Goals as goal

pub returns-clause-tried : goal.returns-clause-tried
returns-clause-tried g c = (let t = c.waiting_at-tried in λ e there. subst (λ (x : Edge). TriesWaiting g.C.NodeCalculator.laws t.result x c.args.seat.now.seat.me.0 t.new.seat.seat.me.0) (same_edge (key_of c.args.self.now).plan.edges c.args.number c.way-way.result.edge e c.way-way.ensures.edge there) t.ensures.tried)

pub returns-clause-keeps : goal.returns-clause-keeps
returns-clause-keeps g c = (let t = c.waiting_at-tried in waiting_keeps g.C.NodeCalculator.laws t.result c.way-way.result.edge c.args.seat.now.seat.me.0 t.new.seat.seat.me.0 t.ensures.tried)

pub returns-clause-work : goal.returns-clause-work
returns-clause-work g c = (let t = c.waiting_at-tried in waiting_work g.C.NodeCalculator.laws t.result c.way-way.result.edge c.args.seat.now.seat.me.0 t.new.seat.seat.me.0 t.ensures.tried)

use Rattle.std.proofs.Common.{subst}
use Rattle.mg_calc.specs.declared.edge.Edge.{Edge}
use Rattle.mg_turns.specs.Calls.{key_of, TriesAppend}
use Rattle.mg_turns.proofs.Keeping.{append_keeps, append_work}
use Rattle.mg_turns.proofs.Brought.{append_tells}
use Rattle.mg_turns.proofs.Ways.{same_edge}
use Rattle.mg_turns.proofs.shared.SharedNet.try_append.Goals as goal

pub returns-clause-tried : goal.returns-clause-tried
returns-clause-tried g c = (let t = c.append_at-tried in λ e there. subst (λ (x : Edge). TriesAppend g.C.NodeCalculator.laws t.result (key_of c.args.self.now).plan x c.args.seat.now.seat.me.0 t.new.seat.seat.me.0) (same_edge (key_of c.args.self.now).plan.edges c.args.number c.way-way.result.edge e c.way-way.ensures.edge there) t.ensures.tried)

pub returns-clause-keeps : goal.returns-clause-keeps
returns-clause-keeps g c = (let t = c.append_at-tried in append_keeps g.C.NodeCalculator.laws t.result (key_of c.args.self.now).plan c.way-way.result.edge c.args.seat.now.seat.me.0 t.new.seat.seat.me.0 t.ensures.tried)

pub returns-clause-tells : goal.returns-clause-tells
returns-clause-tells g c = (let t = c.append_at-tried in λ e there. append_tells (key_of c.args.self.now) c.args.number e c.args.seat.now.seat.me.0 c.requires.some c.requires.edges there c.requires.of.1 t.result t.new.seat.seat.me.0 (returns-clause-tried g c e there))

pub returns-clause-work : goal.returns-clause-work
returns-clause-work g c = (let t = c.append_at-tried in append_work g.C.NodeCalculator.laws t.result (key_of c.args.self.now).plan c.way-way.result.edge c.args.seat.now.seat.me.0 t.new.seat.seat.me.0 t.ensures.tried)

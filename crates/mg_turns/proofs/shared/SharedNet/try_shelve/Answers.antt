use Rattle.mg_turns.proofs.Keeping.{shelve_keeps}
use Rattle.mg_turns.proofs.shared.SharedNet.try_shelve.Goals as goal

pub returns-clause-keeps : goal.returns-clause-keeps
returns-clause-keeps g c = (let t = c.shelve_at-tried in shelve_keeps g.C.NodeCalculator.laws t.result c.args.outcome c.args.seat.now.seat.me.0 t.new.seat.seat.me.0 t.ensures.tried)

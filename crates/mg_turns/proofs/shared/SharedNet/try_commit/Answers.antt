use Rattle.mg_turns.specs.Calls.{key_of}
use Rattle.mg_turns.proofs.Keeping.{commit_keeps}
use Rattle.mg_turns.proofs.Telling.{commit_tells}
use Rattle.mg_turns.proofs.shared.SharedNet.try_commit.Goals as goal

pub returns-clause-keeps : goal.returns-clause-keeps
returns-clause-keeps g c = (let t = c.commit_at-tried in commit_keeps g.C.NodeCalculator.laws t.result c.args.outcome c.args.seat.now.seat.me.0 t.new.seat.seat.me.0 t.ensures.tried)

pub returns-clause-tells : goal.returns-clause-tells
returns-clause-tells g c = (let t = c.commit_at-tried in commit_tells t.result (key_of c.args.self.now) c.args.outcome c.args.seat.now.seat.me.0 t.new.seat.seat.me.0 c.requires.of.1 c.requires.node c.requires.some t.ensures.tried)

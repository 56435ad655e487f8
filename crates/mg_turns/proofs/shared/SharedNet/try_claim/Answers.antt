use Rattle.mg_turns.specs.Calls.{key_of}
use Rattle.mg_turns.proofs.Keeping.{claim_keeps}
use Rattle.mg_turns.proofs.Telling.{claim_tells}
use Rattle.mg_turns.proofs.shared.SharedNet.try_claim.Goals as goal

pub returns-clause-keeps : goal.returns-clause-keeps
returns-clause-keeps g c = (let t = c.claim_cell-tried in claim_keeps g.C.NodeCalculator.laws t.result c.args.node c.args.seat.now.seat.me.0 t.new.seat.seat.me.0 t.ensures.tried)

pub returns-clause-tells : goal.returns-clause-tells
returns-clause-tells g c = (let t = c.claim_cell-tried in claim_tells t.result (key_of c.args.self.now) c.args.node c.args.seat.now.seat.me.0 t.new.seat.seat.me.0 c.requires.of.1 c.requires.node c.requires.some t.ensures.tried)

use Rattle.mg_sched.proofs.Working.{engine_within, stops, goes_on}
use Rattle.mg_sched.proofs.net.Net.stop_ended.Goals as goal

pub index-requires : goal.index-requires
index-requires g c = engine_within _ c.args.self.now c.args.node _ c.self.view_is c.requires.engine c.self.inside.engines.ok.0

pub returns-then-has_ended : goal.returns-then-has_ended
returns-then-has_ended g c = λ engine at. stops _ c.args.self.now c.args.node c.index.result.now engine c.stop.new.self c.self.view_is c.requires.engine c.index.ensures at c.if-has_ended.ensures c.stop.ensures.stopped

pub returns-else-has_ended : goal.returns-else-has_ended
returns-else-has_ended g c = λ engine at. goes_on _ c.args.self.now c.args.node c.index.result.now engine c.self.view_is c.requires.engine c.index.ensures at c.if-has_ended.ensures

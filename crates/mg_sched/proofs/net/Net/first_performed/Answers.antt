use Rattle.mg_sched.proofs.Finding.{engine_read, engine_fits}
use Rattle.mg_sched.proofs.Sweeping.{shelf_found, shelf_none, some_engine}
use Rattle.mg_sched.proofs.net.Net.first_performed.Goals as goal

pub index-requires : goal.index-requires
index-requires g c = engine_fits _ c.args.self.now c.args.node _ c.self.view_is c.requires.stands c.requires.there c.self.inside.engines.ok.0

pub shelved-requires : goal.shelved-requires
shelved-requires g c =
    some_engine c.args.self.now c.args.node c.index.result.now c.requires.stands c.requires.running c.requires.there
    (engine_read _ c.args.self.now c.args.node _ c.self.view_is c.requires.stands c.requires.there c.index.ensures)

pub returns-clause-some : goal.returns-clause-some
returns-clause-some g c = shelf_found c.shelved.result c.args.self.now c.args.node c.index.result.now (engine_read _ c.args.self.now c.args.node _ c.self.view_is c.requires.stands c.requires.there c.index.ensures) c.shelved.ensures.some

pub returns-clause-none : goal.returns-clause-none
returns-clause-none g c = shelf_none c.shelved.result c.args.self.now c.args.node c.index.result.now (engine_read _ c.args.self.now c.args.node _ c.self.view_is c.requires.stands c.requires.there c.index.ensures) c.shelved.ensures.none

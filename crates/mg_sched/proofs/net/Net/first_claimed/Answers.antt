use Rattle.mg_sched.proofs.Finding.{work_queue_read, work_queue_fits}
use Rattle.mg_sched.proofs.Sweeping.{work_found, work_none}
use Rattle.mg_sched.proofs.net.Net.first_claimed.Goals as goal

pub index-requires : goal.index-requires
index-requires g c = work_queue_fits _ c.args.self.now c.args.node _ c.self.view_is c.requires.stands c.requires.there c.self.inside.work_queues.ok.0

pub returns-clause-some : goal.returns-clause-some
returns-clause-some g c = work_found c.first.result c.args.self.now c.args.node c.index.result.now (work_queue_read _ c.args.self.now c.args.node _ c.self.view_is c.requires.stands c.requires.there c.index.ensures) c.first.ensures.some

pub returns-clause-none : goal.returns-clause-none
returns-clause-none g c = work_none c.first.result c.args.self.now c.args.node c.index.result.now (work_queue_read _ c.args.self.now c.args.node _ c.self.view_is c.requires.stands c.requires.there c.index.ensures) c.first.ensures.none

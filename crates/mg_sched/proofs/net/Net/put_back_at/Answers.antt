use Rattle.mg_sched.proofs.Finding.{engine_read, work_queue_read, engine_fits, work_queue_fits}
use Rattle.mg_sched.proofs.Working.{works_at}
use Rattle.mg_sched.proofs.ComingApart.{puts_back_at}
use Rattle.mg_sched.proofs.net.Net.put_back_at.Goals as goal

pub index_mut-requires : goal.index_mut-requires
index_mut-requires g c = engine_fits _ c.args.self.now c.args.node _ c.self.view_is c.requires.stands c.requires.there c.self.inside.engines.ok.0

pub index_mut-requires-2 : goal.index_mut-requires-2
index_mut-requires-2 g c = work_queue_fits _ c.args.self.now c.args.node _ c.self.view_is c.requires.stands c.requires.there c.self.inside.work_queues.ok.0

pub put_back-requires-clause-out : goal.put_back-requires-clause-out
put_back-requires-clause-out g c =
    (works_at c.args.self.now c.args.node _ _ c.requires.stands c.requires.running c.requires.there
    (engine_read _ c.args.self.now c.args.node _ c.self.view_is c.requires.stands c.requires.there c.index_mut.ensures.value)
    (work_queue_read _ c.args.self.now c.args.node _ c.self.view_is c.requires.stands c.requires.there c.index_mut-2.ensures.value)).out

pub put_back-requires-clause-apart : goal.put_back-requires-clause-apart
put_back-requires-clause-apart g c =
    (works_at c.args.self.now c.args.node _ _ c.requires.stands c.requires.running c.requires.there
    (engine_read _ c.args.self.now c.args.node _ c.self.view_is c.requires.stands c.requires.there c.index_mut.ensures.value)
    (work_queue_read _ c.args.self.now c.args.node _ c.self.view_is c.requires.stands c.requires.there c.index_mut-2.ensures.value)).apart

pub returns : goal.returns
returns g c =
    puts_back_at _ c.args.self.now c.args.node c.index_mut.result.now c.put_back.new.engine c.index_mut-2.result.now c.put_back.new.work_queue c.self.view_is c.requires.stands c.requires.there c.index_mut.ensures.value c.index_mut-2.ensures.value
    c.put_back.ensures.engine c.put_back.ensures.work_queue

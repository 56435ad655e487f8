use Rattle.mg_sched.proofs.Finding.{engine_read, work_queue_read, engine_fits, work_queue_fits}
use Rattle.mg_sched.proofs.Working.{work_lawful, performed_out, left_is, has_room, has_place, performs_none, performs_did, performs_not}
use Rattle.mg_sched.proofs.net.Net.perform.Goals as goal

pub index_mut-requires : goal.index_mut-requires
index_mut-requires g c = work_queue_fits _ c.args.self.now c.args.node _ c.self.view_is c.requires.stands c.requires.there c.self.inside.work_queues.ok.0

pub returns-in_default : goal.returns-in_default
returns-in_default g c =
    performs_none _ c.args.self.now c.args.node c.args.number c.index_mut.result.now c.take.new.self c.self.view_is
    (work_queue_read _ c.args.self.now c.args.node _ c.self.view_is c.requires.stands c.requires.there c.index_mut.ensures.value) c.in_default.ensures.none c.in_default.ensures.unchanged

pub perform-requires : goal.perform-requires
perform-requires g c =
    work_lawful c.args.self.now c.args.node c.args.number c.in-Some.lay c.index_mut.result.now c.take.new.self c.in-Some.work c.requires.stands c.requires.running c.requires.there
    (work_queue_read _ c.args.self.now c.args.node _ c.self.view_is c.requires.stands c.requires.there c.index_mut.ensures.value) c.in-Some.ensures.taken

pub index_mut-requires-in-Ok : goal.index_mut-requires-in-Ok
index_mut-requires-in-Ok g c = engine_fits _ c.args.self.now c.args.node _ c.self.view_is c.requires.stands c.requires.there c.self.inside.engines.ok.0

pub shelve-requires : goal.shelve-requires
shelve-requires g c = record {
  out =
      performed_out c.args.self.now c.args.node c.args.number c.in-Some.lay c.index_mut-in-Ok.result.now c.index_mut.result.now c.take.new.self c.in-Some.work c.in-Ok.performed c.ran.result c.requires.stands c.requires.running c.requires.there
      (engine_read _ c.args.self.now c.args.node _ c.self.view_is c.requires.stands c.requires.there c.index_mut-in-Ok.ensures.value)
      (work_queue_read _ c.args.self.now c.args.node _ c.self.view_is c.requires.stands c.requires.there c.index_mut.ensures.value) c.in-Some.ensures.taken c.in-Ok.ensures.performed c.ran.ensures.outcome;
}

pub index_mut-requires-in-Err : goal.index_mut-requires-in-Err
index_mut-requires-in-Err g c = work_queue_fits _ c.args.self.now c.args.node _ c.self.view_is c.requires.stands c.requires.there c.self.inside.work_queues.ok.0

pub put_back-requires-clause-room : goal.put_back-requires-clause-room
put_back-requires-clause-room g c =
    has_room c.args.self.now c.args.node c.args.number c.in-Some.lay c.index_mut.result.now c.take.new.self c.index_mut-in-Err.result.now c.in-Some.work c.requires.stands c.requires.running c.requires.there
    (work_queue_read _ c.args.self.now c.args.node _ c.self.view_is c.requires.stands c.requires.there c.index_mut.ensures.value) c.in-Some.ensures.taken
    (left_is _ c.args.self.now c.args.node c.take.new.self c.index_mut-in-Err.result.now c.self.view_is c.requires.stands c.requires.there c.index_mut-in-Err.ensures.value)

pub put_back-requires-clause-place : goal.put_back-requires-clause-place
put_back-requires-clause-place g c =
    has_place c.args.number c.in-Some.lay c.index_mut.result.now c.take.new.self c.index_mut-in-Err.result.now c.in-Some.work c.in-Some.ensures.taken
    (left_is _ c.args.self.now c.args.node c.take.new.self c.index_mut-in-Err.result.now c.self.view_is c.requires.stands c.requires.there c.index_mut-in-Err.ensures.value)

pub returns-in-Ok : goal.returns-in-Ok
returns-in-Ok g c =
    performs_did _ c.args.self.now c.args.node c.args.number c.in-Some.lay c.index_mut-in-Ok.result.now c.shelve.new.self c.index_mut.result.now c.take.new.self c.in-Some.work c.in-Ok.performed c.ran.result c.self.view_is
    (engine_read _ c.args.self.now c.args.node _ c.self.view_is c.requires.stands c.requires.there c.index_mut-in-Ok.ensures.value)
    (work_queue_read _ c.args.self.now c.args.node _ c.self.view_is c.requires.stands c.requires.there c.index_mut.ensures.value) c.in-Some.ensures.taken c.in-Ok.ensures.performed c.ran.ensures.outcome c.shelve.ensures.shelved

pub returns-in-Err : goal.returns-in-Err
returns-in-Err g c =
    performs_not _ c.args.self.now c.args.node c.args.number c.in-Some.lay c.index_mut.result.now c.take.new.self c.index_mut-in-Err.result.now c.put_back.new.self c.in-Some.work c.in-Err.work c.self.view_is c.requires.stands c.requires.there
    (work_queue_read _ c.args.self.now c.args.node _ c.self.view_is c.requires.stands c.requires.there c.index_mut.ensures.value) c.in-Some.ensures.taken
    (left_is _ c.args.self.now c.args.node c.take.new.self c.index_mut-in-Err.result.now c.self.view_is c.requires.stands c.requires.there c.index_mut-in-Err.ensures.value)
    c.in-Err.ensures.unchanged c.put_back.ensures

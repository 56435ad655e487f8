use Rattle.std.proofs.Common.{◌<◌, length, slice_get, refl, subst, ap, ◌∙◌}
use Rattle.mg_node.proofs.Lemmas.{some_same}
use Rattle.mg_sched.specs.Views.{WorkQueueView}
use Rattle.mg_sched.specs.Code.AtOnce.{with_work}
use Rattle.mg_sched.proofs.WorkingAtOnce.{below, lawful_work, has_room_again}
use Rattle.mg_sched.proofs.net.Net.finish.Goals as goal

pub perform-requires : goal.perform-requires
perform-requires g c = lawful_work c.args.self.now c.args.node c.args.work.number c.requires.work_queue c.args.work c.requires.on c.requires.stands c.requires.running c.requires.there refl

pub lay-requires : goal.lay-requires
lay-requires g c = record { work = c.args.work; out = c.requires; done = c.in-Ok.ensures.performed; number_is = c.number-number.ensures }

pub returns-in-Ok : goal.returns-in-Ok
returns-in-Ok g c = λ work_queue on some running. c.lay.ensures work_queue c.args.work on some running c.in-Ok.ensures.performed c.number-number.ensures

pub put_on_work_queue-requires-clause-there : goal.put_on_work_queue-requires-clause-there
put_on_work_queue-requires-clause-there g c = below c.args.self.now.work_queues c.args.node c.requires.work_queue c.requires.on

pub put_on_work_queue-requires-clause-room : goal.put_on_work_queue-requires-clause-room
put_on_work_queue-requires-clause-room g c = λ work_queue on.
    subst (λ (d : WorkQueueView). length d.works < d.room) (some_same (slice_get c.args.self.now.work_queues c.args.node) c.requires.work_queue work_queue c.requires.on on)
    (has_room_again c.args.self.now c.args.node c.args.work.number c.requires.work_queue c.args.work c.requires.on c.requires.stands c.requires.running c.requires.there refl)

pub returns-in-Err : goal.returns-in-Err
returns-in-Err g c = λ work_queue on some running. c.put_on_work_queue.ensures work_queue on ∙ ap (with_work c.args.self.now c.args.node work_queue) c.in-Err.ensures.unchanged

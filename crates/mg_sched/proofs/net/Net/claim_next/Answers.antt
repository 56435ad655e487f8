use Rattle.std.proofs.Common.{◌<◌, List, length, inl, inr, refl, sym, subst}
use Rattle.mg_calc.specs.declared.event.Effect.TheVariants.{Did}
use Rattle.mg_sched.specs.Views.{WorkQueueView}
use Rattle.mg_sched.specs.Acts.{ClaimsNext}
use Rattle.mg_sched.proofs.Finding.{found, work_queue_there}
use Rattle.mg_sched.proofs.WorkingAtOnce.{hands_work, hands_none, work_queues_kept, on_kept, work_queue_room}
use Rattle.mg_sched.proofs.net.Net.claim_next.Goals as goal

pub put_on_work_queue-requires-clause-there : goal.put_on_work_queue-requires-clause-there
put_on_work_queue-requires-clause-there g c =
    subst (λ (ds : List WorkQueueView). c.args.node < length ds) (sym (work_queues_kept c.args.node _ c.args.self.now c.hand_out.new.self c.in-Work.ensures)) (work_queue_there c.args.self.now c.args.node c.requires.stands c.requires.there)

pub put_on_work_queue-requires-clause-room : goal.put_on_work_queue-requires-clause-room
put_on_work_queue-requires-clause-room g c = λ work_queue on.
    work_queue_room c.args.node c.in-Work.work c.args.self.now c.hand_out.new.self work_queue c.requires.stands c.requires.running c.requires.there c.in-Work.ensures on

pub returns-in-Work : goal.returns-in-Work
returns-in-Work g c =
    let work_queue = found c.args.self.now.work_queues c.args.node (work_queue_there c.args.self.now c.args.node c.requires.stands c.requires.there) in
    let on = on_kept c.args.node _ c.args.self.now c.hand_out.new.self work_queue.0 c.in-Work.ensures work_queue.1 in
    subst (ClaimsNext c.args.node Did c.args.self.now) (sym (c.put_on_work_queue.ensures work_queue.0 on)) (hands_work c.args.node c.in-Work.work c.args.self.now c.hand_out.new.self work_queue.0 c.in-Work.ensures work_queue.1)

pub returns-in-Answered : goal.returns-in-Answered
returns-in-Answered g c =
    let work_queue = found c.args.self.now.work_queues c.args.node (work_queue_there c.args.self.now c.args.node c.requires.stands c.requires.there) in
    hands_none c.args.node _ _ c.args.self.now c.hand_out.new.self work_queue.0 c.in-Answered.ensures work_queue.1 (inr (c.in-Answered.ensures.claims, refl))

pub returns-in-NotReady : goal.returns-in-NotReady
returns-in-NotReady g c =
    let work_queue = found c.args.self.now.work_queues c.args.node (work_queue_there c.args.self.now c.args.node c.requires.stands c.requires.there) in
    hands_none c.args.node _ _ c.args.self.now c.hand_out.new.self work_queue.0 c.in-NotReady.ensures work_queue.1 (inl c.in-NotReady.ensures.claims, refl)

pub returns-in-InFlightFull : goal.returns-in-InFlightFull
returns-in-InFlightFull g c =
    let work_queue = found c.args.self.now.work_queues c.args.node (work_queue_there c.args.self.now c.args.node c.requires.stands c.requires.there) in
    hands_none c.args.node _ _ c.args.self.now c.hand_out.new.self work_queue.0 c.in-InFlightFull.ensures work_queue.1 (inr (inl c.in-InFlightFull.ensures.claims), refl)

pub returns-in-Draining : goal.returns-in-Draining
returns-in-Draining g c =
    let work_queue = found c.args.self.now.work_queues c.args.node (work_queue_there c.args.self.now c.args.node c.requires.stands c.requires.there) in
    hands_none c.args.node _ _ c.args.self.now c.hand_out.new.self work_queue.0 c.in-Draining.ensures work_queue.1 (inr (inr (inl c.in-Draining.ensures.claims)), refl)

pub returns-in-Ended : goal.returns-in-Ended
returns-in-Ended g c =
    let work_queue = found c.args.self.now.work_queues c.args.node (work_queue_there c.args.self.now c.args.node c.requires.stands c.requires.there) in
    hands_none c.args.node _ _ c.args.self.now c.hand_out.new.self work_queue.0 c.in-Ended.ensures work_queue.1 (inr (inr (inr c.in-Ended.ensures.claims)), refl)

pub returns-in-OutOfMemory : goal.returns-in-OutOfMemory
returns-in-OutOfMemory g c =
    let work_queue = found c.args.self.now.work_queues c.args.node (work_queue_there c.args.self.now c.args.node c.requires.stands c.requires.there) in
    hands_none c.args.node _ _ c.args.self.now c.hand_out.new.self work_queue.0 c.in-OutOfMemory.ensures work_queue.1 (c.in-OutOfMemory.ensures.claims, refl)

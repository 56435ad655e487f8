use Rattle.std.proofs.Common.{inl, inr, refl}
use Rattle.mg_sched.proofs.Finding.{found, work_queue_there}
use Rattle.mg_sched.proofs.WorkingAtOnce.{hands_work, hands_none, handed_out, comes, nothing_came}
use Rattle.mg_sched.proofs.net.Net.turn_over.Goals as goal

pub finish-requires : goal.finish-requires
finish-requires g c =
    let work_queue = found c.args.self.now.work_queues c.args.node (work_queue_there c.args.self.now c.args.node c.requires.stands c.requires.there) in
    handed_out g.C.NodeCalculator.laws c.args.node c.in-Work.work c.args.self.now c.hand_out.new.self work_queue.0 c.requires.stands c.requires.running c.requires.there c.requires.free c.in-Work.ensures work_queue.1

pub returns-in-Work : goal.returns-in-Work
returns-in-Work g c =
    let work_queue = found c.args.self.now.work_queues c.args.node (work_queue_there c.args.self.now c.args.node c.requires.stands c.requires.there) in
    let out = handed_out g.C.NodeCalculator.laws c.args.node c.in-Work.work c.args.self.now c.hand_out.new.self work_queue.0 c.requires.stands c.requires.running c.requires.there c.requires.free c.in-Work.ensures work_queue.1 in
    comes g.C.NodeCalculator.laws c.args.node c.finish.result c.args.self.now _ c.finish.new.self c.requires.there (inr (c.requires.free, hands_work c.args.node c.in-Work.work c.args.self.now c.hand_out.new.self work_queue.0 c.in-Work.ensures work_queue.1))
    (c.finish.ensures work_queue.0 out.on out.stands out.running)

pub returns-in-Answered : goal.returns-in-Answered
returns-in-Answered g c =
    let work_queue = found c.args.self.now.work_queues c.args.node (work_queue_there c.args.self.now c.args.node c.requires.stands c.requires.there) in
    (c.hand_out.new.self, c.requires.there, inr (c.requires.free, hands_none c.args.node _ _ c.args.self.now c.hand_out.new.self work_queue.0 c.in-Answered.ensures work_queue.1 (inr (c.in-Answered.ensures.claims, refl))), refl)

pub returns-in-NotReady : goal.returns-in-NotReady
returns-in-NotReady g c =
    let work_queue = found c.args.self.now.work_queues c.args.node (work_queue_there c.args.self.now c.args.node c.requires.stands c.requires.there) in
    nothing_came c.args.node c.args.self.now c.hand_out.new.self c.requires.stands c.requires.running c.requires.there (inr (c.requires.free, hands_none c.args.node _ _ c.args.self.now c.hand_out.new.self work_queue.0 c.in-NotReady.ensures work_queue.1 (inl c.in-NotReady.ensures.claims, refl)))

pub returns-in-InFlightFull : goal.returns-in-InFlightFull
returns-in-InFlightFull g c =
    let work_queue = found c.args.self.now.work_queues c.args.node (work_queue_there c.args.self.now c.args.node c.requires.stands c.requires.there) in
    nothing_came c.args.node c.args.self.now c.hand_out.new.self c.requires.stands c.requires.running c.requires.there (inr (c.requires.free, hands_none c.args.node _ _ c.args.self.now c.hand_out.new.self work_queue.0 c.in-InFlightFull.ensures work_queue.1 (inr (inl c.in-InFlightFull.ensures.claims), refl)))

pub returns-in-Draining : goal.returns-in-Draining
returns-in-Draining g c =
    let work_queue = found c.args.self.now.work_queues c.args.node (work_queue_there c.args.self.now c.args.node c.requires.stands c.requires.there) in
    nothing_came c.args.node c.args.self.now c.hand_out.new.self c.requires.stands c.requires.running c.requires.there (inr (c.requires.free, hands_none c.args.node _ _ c.args.self.now c.hand_out.new.self work_queue.0 c.in-Draining.ensures work_queue.1 (inr (inr (inl c.in-Draining.ensures.claims)), refl)))

pub returns-in-Ended : goal.returns-in-Ended
returns-in-Ended g c =
    let work_queue = found c.args.self.now.work_queues c.args.node (work_queue_there c.args.self.now c.args.node c.requires.stands c.requires.there) in
    nothing_came c.args.node c.args.self.now c.hand_out.new.self c.requires.stands c.requires.running c.requires.there (inr (c.requires.free, hands_none c.args.node _ _ c.args.self.now c.hand_out.new.self work_queue.0 c.in-Ended.ensures work_queue.1 (inr (inr (inr c.in-Ended.ensures.claims)), refl)))

pub returns-in-OutOfMemory : goal.returns-in-OutOfMemory
returns-in-OutOfMemory g c =
    let work_queue = found c.args.self.now.work_queues c.args.node (work_queue_there c.args.self.now c.args.node c.requires.stands c.requires.there) in
    inr (c.requires.free, hands_none c.args.node _ _ c.args.self.now c.hand_out.new.self work_queue.0 c.in-OutOfMemory.ensures work_queue.1 (c.in-OutOfMemory.ensures.claims, refl))

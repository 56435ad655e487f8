use Rattle.std.proofs.Common.{List, Some, Result, subst, sym}
use Rattle.mg_calc.specs.declared.cause.Cause.{Cause}
use Rattle.mg_calc.specs.declared.emission.Laid.{Laid}
use Rattle.mg_node.specs.Code.QueueLaying.{HasRoomFor, IsLaid}
use Rattle.mg_node.specs.Commits.{raised_before}
use Rattle.mg_node.proofs.LayingBehind.{raised_room_for, raised_some, answer_put, cause_put}
use Rattle.mg_node.proofs.laying.lay.Goals as goal

pub lay_emission-requires-clause-stands : goal.lay_emission-requires-clause-stands
lay_emission-requires-clause-stands c = raised_some c.args.offset c.args.phase.now c.args.outputs.now c.raise_before.new.outputs c.raise_before.ensures.queues c.raise_before.ensures.timed c.requires.stands

pub lay_emission-requires-clause-room : goal.lay_emission-requires-clause-room
lay_emission-requires-clause-room c =
    subst (λ (a : Result (List Laid) Cause). HasRoomFor c.raise_before.new.outputs a) c.in-Ok.is
    (raised_room_for c.args.offset c.args.phase.now c.args.answer c.args.outputs.now c.raise_before.new.outputs c.raise_before.ensures.queues c.requires.room)

pub returns-in-Ok : goal.returns-in-Ok
returns-in-Ok c =
    subst (λ (a : Result (List Laid) Cause). IsLaid c.args.offset c.args.phase.now (raised_before c.args.offset c.args.phase.now) a c.args.outputs.now c.lay_emission.new.outputs c.lay_emission.result) (sym c.in-Ok.is)
    (answer_put c.args.offset c.args.phase.now _ c.args.outputs.now c.raise_before.new.outputs c.lay_emission.new.outputs c.lay_emission.result c.raise_before.ensures.queues c.raise_before.ensures.timed c.lay_emission.ensures)

pub returns-in-Err : goal.returns-in-Err
returns-in-Err c =
    subst (λ (a : Result (List Laid) Cause). IsLaid c.args.offset c.args.phase.now (raised_before c.args.offset c.args.phase.now) a c.args.outputs.now c.raise_before.new.outputs (Some c.in-Err.cause)) (sym c.in-Err.is)
    (answer_put c.args.offset c.args.phase.now _ c.args.outputs.now c.raise_before.new.outputs c.raise_before.new.outputs (Some c.in-Err.cause) c.raise_before.ensures.queues c.raise_before.ensures.timed (cause_put c.args.offset c.args.phase.now c.in-Err.cause c.raise_before.new.outputs))

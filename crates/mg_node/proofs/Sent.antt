-- Intakes, works and engines may cross threads as their calculators may, and so may what keeps a place for one. What holds a type asks it
-- of a field, which is another term than the type's row. A type with a model asks it of its inside first.
use denote.RattleType.{RattleType}
use denote.Enum.Declared.{shape as choice}
use denote.Param.Send.{IsSend, enum_send, recorded_send, sendable}
use Rattle.std.proofs.Crossing.{crosses}
use Rattle.std.specs.contracts.option.Option as Maybe
use Rattle.mg_time.proofs.timestamp.Timestamp.TheSendSync.{the_send as timestamp}
use Rattle.mg_value.proofs.payload_list.PayloadList.TheLaws.TheKnot.{crosses as knot}
use Rattle.mg_value.specs.contracts.packet.Packet as Packet
use Rattle.mg_settled.specs.contracts.input_set.InputSet as InputSet
use Rattle.mg_stream.specs.contracts.queue.Queue as Queue
use Rattle.mg_calc.specs.declared.node_calculator.NodeCalculator.{Ghosts}
use Rattle.mg_calc.proofs.node_fault.Phase.TheSendSync.{the_field_send as phase}
use Rattle.mg_calc.proofs.node_fault.NodeFault.TheSendSync.{the_field_send as fault}
use Rattle.mg_calc.proofs.cause.Cause.TheSendSync.{the_field_send as cause}
use Rattle.mg_batch.proofs.Sent.{emission}
use Rattle.mg_route.proofs.Sent.{holder_field}
use Rattle.mg_route.specs.contracts.holder.Holder as Holder
use Rattle.mg_node.proofs.role.Role.TheSendSync.{the_field_send as role}
use Rattle.mg_node.specs.contracts.context.Context as Context
use Rattle.mg_node.specs.contracts.context.Context.TheInside as ContextInside
use Rattle.mg_node.specs.contracts.work.Work as Work
use Rattle.mg_node.specs.contracts.work.Work.TheInside as WorkInside
use Rattle.mg_node.specs.contracts.performed.Performed as Performed
use Rattle.mg_node.specs.contracts.performed.Performed.TheInside as PerformedInside
use Rattle.mg_node.specs.contracts.outcome.Outcome as Outcome
use Rattle.mg_node.specs.contracts.outcome.Outcome.TheInside as OutcomeInside
use Rattle.mg_node.specs.contracts.entry.Entry as Entry
use Rattle.mg_node.specs.contracts.entry.Entry.TheInside as EntryInside
use Rattle.mg_node.specs.contracts.intake.Intake as Intake
use Rattle.mg_node.specs.contracts.intake.Intake.TheInside as IntakeInside
use Rattle.mg_node.specs.contracts.engine.Engine as Engine
use Rattle.mg_node.specs.contracts.engine.Engine.TheInside as EngineInside

-- A place that may be empty, as a field and as a row.
pub maybe_field : (R : RattleType) → IsSend R → IsSend (Maybe.the_field R).row
maybe_field R s = enum_send (choice (Maybe.the_type R)) (tt, ((s, tt), tt))

pub maybe : (R : RattleType) → IsSend R → IsSend (Maybe.the_row R)
maybe R s = recorded_send (Maybe.the_field R).row _ _ (Maybe.the_type R).to_one (maybe_field R s)

packet : IsSend (Packet.the_field).row
packet = search (sendable, crosses, knot, timestamp) depth 40 fits 20000

set : IsSend (InputSet.the_field).row
set = search (packet, sendable, crosses) depth 20 fits 20000

queue : IsSend (Queue.the_field).row
queue = search (packet, timestamp, sendable, crosses) depth 20 fits 20000

intake_inside : IsSend IntakeInside.the_row
intake_inside = search (queue, packet, timestamp, sendable, crosses) depth 40 fits 20000

pub intake : IsSend Intake.the_row
intake = search (intake_inside, sendable) depth 40 fits 20000

pub intake_field : IsSend (Intake.the_field).row
intake_field = search (intake_inside, sendable) depth 40 fits 20000

module _ (C : RattleType) (g : Ghosts C.Denot) (s : IsSend C) where
  holder : IsSend (Holder.the_field C g).row
  holder = holder_field C g s

  context_inside : IsSend (ContextInside.the_row C g)
  context_inside = search (holder, set, sendable, crosses) depth 40 fits 20000

  pub context : IsSend (Context.the_field C g).row
  context = search (context_inside, sendable) depth 40 fits 20000

  work_inside : IsSend (WorkInside.the_row C g)
  work_inside = search (context, phase, sendable) depth 40 fits 20000

  pub work : IsSend (Work.the_row C g)
  work = search (work_inside, sendable) depth 40 fits 20000

  pub work_field : IsSend (Work.the_field C g).row
  work_field = search (work_inside, sendable) depth 40 fits 20000

  performed_inside : IsSend (PerformedInside.the_row C g)
  performed_inside = search (work_field, emission, cause, sendable) depth 40 fits 20000

  pub performed : IsSend (Performed.the_row C g)
  performed = search (performed_inside, sendable) depth 40 fits 20000

  outcome_inside : IsSend (OutcomeInside.the_row C g)
  outcome_inside = search (work_field, emission, cause, sendable) depth 40 fits 20000

  pub outcome : IsSend (Outcome.the_row C g)
  outcome = search (outcome_inside, sendable) depth 40 fits 20000

  outcome_field : IsSend (Outcome.the_field C g).row
  outcome_field = search (outcome_inside, sendable) depth 40 fits 20000

  entry_inside : IsSend (EntryInside.the_row C g)
  entry_inside = search (outcome_field, phase, sendable) depth 40 fits 20000

  entry : IsSend (Entry.the_field C g).row
  entry = search (entry_inside, sendable) depth 40 fits 20000

  engine_inside : IsSend (EngineInside.the_row C g)
  engine_inside = search (entry, context, queue, role, fault, sendable, crosses) depth 40 fits 20000

  pub engine : IsSend (Engine.the_row C g)
  engine = search (engine_inside, sendable) depth 40 fits 20000

  pub engine_field : IsSend (Engine.the_field C g).row
  engine_field = search (engine_inside, sendable) depth 40 fits 20000

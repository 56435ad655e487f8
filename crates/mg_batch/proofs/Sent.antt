-- A law may cross threads, and so may what holds one. The search over all of a law's variants first needs this of its emissions. A
-- struct needs the same of a field, which is another term than the row of the field's type.
use denote.Param.Send.{IsSend, sendable}
use Rattle.std.proofs.Crossing.{crosses}
use Rattle.mg_time.proofs.timestamp.Timestamp.TheSendSync.{the_send as timestamp}
use Rattle.mg_value.proofs.payload_list.PayloadList.TheLaws.TheKnot.{crosses as knot}
use Rattle.mg_value.specs.contracts.packet.Packet as Packet
use Rattle.mg_value.specs.contracts.block_list.BlockList as BlockList
use Rattle.mg_settled.specs.contracts.input_set.InputSet as InputSet
use Rattle.mg_calc.specs.contracts.short_list.ShortList as ShortList
use Rattle.mg_calc.specs.contracts.emission.Laid as Laid
use Rattle.mg_calc.specs.contracts.law.Law as Law
use Rattle.mg_calc.specs.contracts.call.Call as Call
use Rattle.mg_calc.specs.contracts.state.State as State
use Rattle.mg_calc.proofs.shape.Shape.TheSendSync.{the_field_send as shape}
use Rattle.mg_batch.specs.contracts.call_log.CallLog as CallLog
use Rattle.mg_batch.specs.contracts.batch_box.BatchBox as BatchBox
use Rattle.mg_batch.specs.contracts.batch_box.BatchBox.TheInside as Inside

pub packet : IsSend Packet.the_row
packet = search (sendable, crosses, knot, timestamp) depth 40 fits 20000

packets : IsSend (ShortList.the_row Packet.the_row)
packets = search (packet, sendable, crosses) depth 40 fits 20000

pub laid : IsSend Laid.the_row
laid = search (packets, timestamp, sendable, crosses) depth 20

pub emission : IsSend (ShortList.the_row Laid.the_row)
emission = search (laid, sendable, crosses) depth 40 fits 20000

emissions : IsSend (BlockList.the_row (ShortList.the_row Laid.the_row))
emissions = search (emission, sendable, crosses) depth 20

state_row : IsSend State.the_row
state_row = search (sendable, crosses, knot) depth 40 fits 20000

pub state : IsSend (State.the_field).row
state = search (sendable, crosses, knot) depth 40 fits 20000

pub law : IsSend (Law.the_field).row
law = search (emission, emissions, timestamp, state, state_row, sendable) depth 60 fits 50000

set : IsSend InputSet.the_row
set = search (packet, sendable, crosses) depth 20 fits 20000

call : IsSend Call.the_row
call = search (set, timestamp, sendable) depth 20 fits 20000

calls : IsSend (BlockList.the_row Call.the_row)
calls = search (call, sendable, crosses) depth 20

pub call_log : IsSend CallLog.the_row
call_log = search (calls, sendable) depth 20 fits 20000

inside : IsSend Inside.the_row
inside = search (law, shape, state, call_log, sendable) depth 60 fits 50000

pub batch_box : IsSend BatchBox.the_row
batch_box = search (inside, sendable) depth 20 fits 20000

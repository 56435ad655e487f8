-- What a calculator of an author's own is made of may cross threads: its law, its shape, a state and a list of calls. The search over a
-- law's variants first needs this of its emissions. A struct needs the same of a field, which is another term than the row of the
-- field's type.
use denote.Param.Send.{IsSend}
pub use denote.Param.Send.{sendable}
pub use Rattle.std.proofs.Crossing.{crosses}
pub use Rattle.mg_time.proofs.timestamp.Timestamp.TheSendSync.{the_send as timestamp}
pub use Rattle.mg_value.proofs.payload_list.PayloadList.TheLaws.TheKnot.{crosses as knot}
use Rattle.mg_value.specs.contracts.packet.Packet as Packet
use Rattle.mg_value.specs.contracts.block_list.BlockList as BlockList
use Rattle.mg_settled.specs.contracts.input_set.InputSet as InputSet
use Rattle.mg_calc.specs.contracts.short_list.ShortList as ShortList
use Rattle.mg_calc.specs.contracts.emission.Laid as Laid
use Rattle.mg_calc.specs.contracts.law.Law as Law
use Rattle.mg_calc.specs.contracts.call.Call as Call
use Rattle.mg_calc.specs.contracts.state.State as State
pub use Rattle.mg_calc.proofs.shape.Shape.TheSendSync.{the_field_send as shape}

packet : IsSend Packet.the_row
packet = search (sendable, crosses, knot, timestamp) depth 40 fits 20000

packets : IsSend (ShortList.the_row Packet.the_row)
packets = search (packet, sendable, crosses) depth 40 fits 20000

laid : IsSend Laid.the_row
laid = search (packets, timestamp, sendable, crosses) depth 20

emission : IsSend (ShortList.the_row Laid.the_row)
emission = search (laid, sendable, crosses) depth 40 fits 20000

emissions : IsSend (BlockList.the_row (ShortList.the_row Laid.the_row))
emissions = search (emission, sendable, crosses) depth 20

pub state_row : IsSend State.the_row
state_row = search (sendable, crosses, knot) depth 40 fits 20000

pub state : IsSend (State.the_field).row
state = search (sendable, crosses, knot) depth 40 fits 20000

pub law : IsSend (Law.the_field).row
law = search (emission, emissions, timestamp, state, sendable) depth 60 fits 50000

set : IsSend InputSet.the_row
set = search (packet, sendable, crosses) depth 20 fits 20000

call : IsSend Call.the_row
call = search (set, timestamp, sendable) depth 20 fits 20000

pub calls : IsSend (BlockList.the_row Call.the_row)
calls = search (call, sendable, crosses) depth 20

-- what shows of a calculator in its box that it may cross threads, if its other parts are numbers, texts, payloads and times
pub ruleset sent = (law, shape, state, state_row, calls, timestamp, sendable, crosses, knot)

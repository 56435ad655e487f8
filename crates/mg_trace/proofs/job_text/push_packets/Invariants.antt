use Rattle.std.proofs.Common.{◌≡◌, ◌++◌, drop, map}
use Rattle.mg_feed.specs.Output.{packet_data}
use Rattle.mg_trace.specs.Code.{data_text}
use Rattle.mg_trace.proofs.job_text.push_packets.Given as goal

-- the lines so far stand before those of the packets that are left
abbrev pub invariant-loop-packet : goal.invariant-loop-packet
invariant-loop-packet l =
    l.fn.text.items ++ data_text (map (packet_data l.name) l.packets)
    ≡ l.text.items ++ data_text (map (packet_data l.name) (drop l.packet-index l.packets))

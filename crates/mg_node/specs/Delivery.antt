-- Deliveries: how packets that were laid at an output reach the queue of a port.
use Rattle.std.specs.Prelude.{◌≡◌, ℕ, ◌-◌, ◌<◌, ◌≤◌, ◌==◌, nat_lt, min, List, [], ◌∷◌, take, drop, length, if◌then◌else◌}
use Rattle.mg_value.specs.Payload.{Plain}
use Rattle.mg_value.specs.Packet.{Stamped}
use Rattle.mg_settled.specs.Prefix.{StreamPrefix, IsPrefix}
use Rattle.mg_settled.specs.Extension.{IsExtendedBy}
use Rattle.mg_stream.specs.Queue.{Waiting, StandsFor, count_of, with_packet, raised_to}
use Rattle.mg_node.specs.declared.pending.Pending.{Pending}
use Rattle.mg_node.specs.declared.delivered.Delivered.{Delivered}
use Rattle.mg_node.specs.declared.delivered.Delivered.TheVariants.{Moved, OutOfMemory}
use Rattle.mg_node.specs.Ports.{port_queue, with_port, with_room}

-- the packets of an output that a port hasn't got
abbrev pub missing : Waiting Plain → Waiting Plain → List (Stamped Plain)
missing output port = drop (count_of port - output.gone) output.packets

-- a queue with some packets after those that wait
abbrev pub with_packets : Waiting Plain → List (Stamped Plain) → Waiting Plain
with_packets q [] = q
with_packets q (p ∷ ps) = with_packets (with_packet q p) ps

-- the queue of a port once n of the packets that it hadn't got have come; if these are all, its bound is raised too
abbrev pub delivered : Waiting Plain → Waiting Plain → ℕ → Waiting Plain
delivered output port n =
    if n == length (missing output port)
    then raised_to (with_packets port (missing output port)) output.bound
    else with_packets port (take n (missing output port))

-- what a delivery of at most `most` packets answers and leaves. It moves as many as the port hasn't got, and returns whether it raised the
-- bound after them. If memory is short, the packets that it has moved by then stay.
abbrev pub Delivers : Delivered → Waiting Plain → ℕ → ℕ → Pending → Pending → Type 0
Delivers (Moved packets raised) output port most before now =
    (packets ≡ min most (length (missing output (port_queue before port))))
    × (now ≡ with_port before port (with_room (delivered output (port_queue before port) packets) (port_queue now port).spare))
    × (raised ≡ nat_lt (with_packets (port_queue before port) (take packets (missing output (port_queue before port)))).bound (port_queue now port).bound)
Delivers (OutOfMemory packets) output port most before now =
    (packets < min most (length (missing output (port_queue before port))))
    × (now ≡ with_port before port (with_room (with_packets (port_queue before port) (take packets (missing output (port_queue before port)))) (port_queue now port).spare))

-- an output and a port are of one stream. The stream extends what was laid at the output and what came to the port. The output still keeps
-- the first packet that the port hasn't got.
pub record AreOfOne (output port : Waiting Plain) : Type 0 where
  pub stream : StreamPrefix Plain
  pub whole : IsPrefix stream
  pub laid : StreamPrefix Plain
  pub came : StreamPrefix Plain
  pub stands : StandsFor output laid
  pub stands_there : StandsFor port came
  pub extended : IsExtendedBy laid stream
  pub extended_there : IsExtendedBy came stream
  pub held : output.gone ≤ count_of port

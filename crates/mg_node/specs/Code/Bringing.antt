-- A delivery under way: a port has got some of the packets of an output that it hadn't got before.
use Rattle.std.specs.Prelude.{◌≡◌, ℕ, ◌<◌, ◌≤◌, take, drop, length, Result, Ok, Err, min}
use Rattle.mg_value.specs.Payload.{Plain}
use Rattle.mg_stream.specs.Queue.{Waiting}
use Rattle.mg_node.specs.declared.pending.Pending.{Pending}
use Rattle.mg_node.specs.Ports.{ports_in, port_queue, with_port, with_room}
use Rattle.mg_node.specs.Delivery.{missing, with_packets, AreOfOne}

-- a port has got the first n of the packets of an output that it hadn't got before, and not yet the bound
pub record Brought (output : Waiting Plain) (port n : ℕ) (before now : Pending) : Type 0 where
  pub there : port < ports_in now
  pub of_one : AreOfOne output (port_queue now port)
  pub within : n ≤ length (missing output (port_queue before port))
  pub came : now ≡ with_port before port (with_room (with_packets (port_queue before port) (take n (missing output (port_queue before port)))) (port_queue now port).spare)
  pub left : missing output (port_queue now port) ≡ drop n (missing output (port_queue before port))

-- as many packets have come as the port hadn't got, and at most `most`; or fewer, if memory is short
abbrev pub BroughtAll : Result ℕ ℕ → Waiting Plain → ℕ → ℕ → Pending → Pending → Type 0
BroughtAll (Ok n) output port most before now = Brought output port n before now × (n ≡ min most (length (missing output (port_queue before port))))
BroughtAll (Err n) output port most before now = Brought output port n before now × (n < min most (length (missing output (port_queue before port))))

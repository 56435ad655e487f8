-- Whether as many packets wait at a port as its queue's limit is, or more.
use Rattle.std.specs.Prelude.{◌≡◌, ℕ, ◌+◌, ◌<◌, Bool, true, false, List, length, option_and_then, slice_get}
use Rattle.mg_node.specs.declared.pending.Pending.{Pending}
use Rattle.mg_node.specs.Ports.{ports_in, port_queue}
use Rattle.mg_throttle.specs.declared.queue.Queue.{Queue}
use Rattle.mg_throttle.specs.Throttle.{is_limit_reached}

-- this many packets are as many as the limit of the queue of this number, or more
abbrev pub is_at_limit : List Queue → ℕ → ℕ → Bool
is_at_limit queues number packets = is_limit_reached (option_and_then (λ q. q.limit) (slice_get queues number)) packets

-- as many packets wait at a port as its queue's limit is, or more; the queues of the ports have the numbers from `first` on
abbrev pub is_port_at_limit : List Queue → ℕ → Pending → ℕ → Bool
is_port_at_limit queues first waits port = is_at_limit queues (first + port) (length (port_queue waits port).packets)

-- as many packets as the limit, or more, wait at some port, or at none
abbrev pub TellsAtLimit : Bool → List Queue → ℕ → Pending → Type 0
TellsAtLimit true queues first waits = (port : ℕ) × (port < ports_in waits) × (is_port_at_limit queues first waits port ≡ true)
TellsAtLimit false queues first waits = (port : ℕ) → port < ports_in waits → is_port_at_limit queues first waits port ≡ false

-- The packets that wait at one node: a queue for each of its ports, with room for all of them in common.
use Rattle.std.specs.Prelude.{ℕ, List, [], length, map, sum_by, slice_index_or, slice_set}
use Rattle.mg_time.specs.Time.{pre_stream}
use Rattle.mg_value.specs.Packet.{Stamped}
use Rattle.mg_stream.specs.Queue.{Waiting}

-- a queue without its room: how many packets are gone, those that wait, and the bound
pub record Backlog (X : Type 0) : Type 0 where
  pub gone : ℕ
  pub packets : List (Stamped X)
  pub bound : ℕ

-- a pool: what waits at each port, and for how many more packets there is room, at whatever ports they come
pub record Pooled (X : Type 0) : Type 0 where
  pub ports : List (Backlog X)
  pub spare : ℕ

-- a port to which nothing came yet
abbrev pub empty_backlog : {X : Type 0} → Backlog X
empty_backlog = record { gone = 0; packets = []; bound = pre_stream }

-- a backlog as a queue with this room
abbrev pub queue_of : {X : Type 0} → ℕ → Backlog X → Waiting X
queue_of spare b = record { gone = b.gone; packets = b.packets; bound = b.bound; spare = spare }

-- a queue as a backlog, without its room
abbrev pub backlog_of : {X : Type 0} → Waiting X → Backlog X
backlog_of q = record { gone = q.gone; packets = q.packets; bound = q.bound }

-- the queues of all ports: each has the room of the whole pool
abbrev pub queues_of : {X : Type 0} → Pooled X → List (Waiting X)
queues_of pool = map (queue_of pool.spare) pool.ports

-- the queue of a port
abbrev pub queue_at : {X : Type 0} → Pooled X → ℕ → Waiting X
queue_at pool port = queue_of pool.spare (slice_index_or pool.ports port empty_backlog)

-- the pool with a queue at a port, in place of the queue that was there. The new queue's room becomes the room of the whole
-- pool
abbrev pub with_queue : {X : Type 0} → Pooled X → ℕ → Waiting X → Pooled X
with_queue pool port q = record { ports = slice_set pool.ports port (backlog_of q); spare = q.spare }

-- how many packets wait in a pool
abbrev pub pool_len : {X : Type 0} → Pooled X → ℕ
pool_len pool = sum_by (λ b. length b.packets) pool.ports

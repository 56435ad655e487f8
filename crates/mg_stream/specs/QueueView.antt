-- What contracts see of a queue's fields.
use Rattle.std.specs.Prelude.{◌-◌}
use Rattle.std.specs.VecDeque.{deque_items, deque_len, deque_capacity}
use Rattle.mg_value.specs.Payload.{Plain}
use Rattle.mg_stream.specs.Queue.{Waiting}
use Rattle.mg_stream.specs.declared.queue.Queue.TheInside.{Inside}

-- a queue as contracts see it
abbrev pub queue_view : Inside → Waiting Plain
queue_view q = record {
  gone = q.gone;
  packets = deque_items q.packets;
  bound = q.bound;
  spare = deque_capacity q.packets - deque_len q.packets;
}

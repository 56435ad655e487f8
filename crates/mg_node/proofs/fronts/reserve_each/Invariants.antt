-- The outputs before the place have room.
use Rattle.std.proofs.Common.{◌≡◌, ◌≤◌, ◌<◌, ℕ, map}
use Rattle.mg_stream.specs.Pool.{backlog_of}
use Rattle.mg_node.specs.Code.QueueLaying.{packets_by, room_at}
use Rattle.mg_node.proofs.fronts.reserve_each.Given as goal

abbrev pub invariant-loop-i : goal.invariant-loop-i
invariant-loop-i l = record {
  same : map backlog_of l.outputs ≡ map backlog_of l.fn.outputs;
  room : (k : ℕ) → k < l.i → packets_by k l.answer ≤ room_at k l.outputs;
}

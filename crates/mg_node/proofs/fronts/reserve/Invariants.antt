-- The outputs before the place have room.
use Rattle.std.proofs.Common.{◌≡◌, ◌≤◌, ◌<◌, ℕ, map}
use Rattle.mg_stream.specs.Pool.{backlog_of}
use Rattle.mg_node.specs.Code.QueueLaying.{room_at}
use Rattle.mg_node.specs.Code.FrontLaying.{needed}
use Rattle.mg_node.proofs.fronts.reserve.Given as goal

abbrev pub invariant-loop-i : goal.invariant-loop-i
invariant-loop-i g l = record {
  same : map backlog_of l.outputs ≡ map backlog_of l.fn.outputs;
  room : (k : ℕ) → k < l.i → needed k l.window.items ≤ room_at k l.outputs;
}

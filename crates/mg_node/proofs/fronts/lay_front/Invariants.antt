-- Laying what is left of the window gives the same front.
use Rattle.std.proofs.Common.{◌≡◌, ◌+◌, ◌≤◌, vec_len, vec_capacity}
use Rattle.std.specs.VecDeque.{deque_len, deque_capacity}
use Rattle.mg_node.specs.Code.QueueLaying.{StandForSome}
use Rattle.mg_node.specs.Code.FrontLaying.{HasRoom, counted_in}
use Rattle.mg_node.proofs.FrontSteps.{IsUnderWay}
use Rattle.mg_node.proofs.fronts.lay_front.Given as goal

abbrev pub invariant-loop-offset : goal.invariant-loop-offset
invariant-loop-offset g l = record {
  way : IsUnderWay l.fn.offset l.fn.outputs l.outputs l.fn.window.items l.window.items l.fn.idle.items l.idle.items l.laid;
  stands : StandForSome l.outputs;
  room : HasRoom l.outputs l.window.items;
  few : l.laid + deque_len l.window ≤ deque_len l.fn.window;
  count : l.laid + counted_in l.window.items ≡ counted_in l.fn.window.items;
  contexts : vec_len l.idle + deque_len l.window ≡ vec_len l.fn.idle + deque_len l.fn.window;
  idle : vec_capacity l.idle ≡ vec_capacity l.fn.idle;
  window : deque_capacity l.window ≡ deque_capacity l.fn.window;
}

abbrev pub decreases-loop-offset : goal.decreases-loop-offset
decreases-loop-offset g l = deque_len l.window

-- The first free nodes have taken nothing.
use Rattle.std.proofs.Common.{◌≡◌, ℕ, [], length, false, slice_get, Some}
use Rattle.mg_free.specs.declared.node.FreeNode.{FreeNode}
use Rattle.mg_live.specs.declared.taker.Taker.{Taker}
use Rattle.mg_live.specs.Takes.{HasTaken, handed_of}
use Rattle.mg_live.proofs.InTurn.{zeros}
use Rattle.mg_live.proofs.live_nodes.takers_of.Given as goal

abbrev pub invariant-loop-free : goal.invariant-loop-free
invariant-loop-free l = record {
  count : length l.takers.items ≡ l.free-index;
  handed : handed_of l.takers.items ≡ zeros l.free-index;
  each : (place : ℕ) (free : FreeNode) (taker : Taker) → slice_get l.frees place ≡ Some free → slice_get l.takers.items place ≡ Some taker → HasTaken free (record { log = []; closed = false }) taker;
}

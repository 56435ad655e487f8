use Rattle.std.proofs.Common.{length, take}
use Rattle.mg_check.specs.Code.Taking.{HasPassing, HasReleased, may_be_taken}
use Rattle.mg_check.proofs.waiting.release.Given as goal

abbrev pub invariant-loop-node : goal.invariant-loop-node
invariant-loop-node l = record {
  released : HasReleased (take l.node-index l.readers) l.initial.waiting l.waiting;
  free : HasPassing (length l.waiting) (may_be_taken l.taken l.waiting) l.ready;
}

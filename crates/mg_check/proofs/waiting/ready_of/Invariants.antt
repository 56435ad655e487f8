use Rattle.mg_check.specs.Code.Taking.{HasPassing, may_be_taken}
use Rattle.mg_check.proofs.waiting.ready_of.Given as goal

abbrev pub invariant-loop-node : goal.invariant-loop-node
invariant-loop-node l = HasPassing l.node (may_be_taken l.taken l.waiting) l.ready

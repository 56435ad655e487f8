use Rattle.std.proofs.Common.{◌-◌}
use Rattle.mg_node.proofs.Filling.{GivesUp}
use Rattle.mg_node.proofs.laid.give_up.Given as goal

abbrev pub invariant-loop-queue : goal.invariant-loop-queue
invariant-loop-queue l = GivesUp l.initial.queue l.queue l.got

abbrev pub decreases-loop-queue : goal.decreases-loop-queue
decreases-loop-queue l = l.got - l.queue.gone

use Rattle.mg_node.proofs.Filling.{IsFilled}
use Rattle.mg_node.proofs.laid.fill.Given as goal

abbrev pub invariant-loop-packet : goal.invariant-loop-packet
invariant-loop-packet l = IsFilled l.initial.queue l.queue l.packets l.packet-index

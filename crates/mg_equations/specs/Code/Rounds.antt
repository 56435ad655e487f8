-- The faults that a round tells of.
use Rattle.std.specs.Prelude.{ℕ, Option, option_map}
use Rattle.mg_calc.specs.declared.node_fault.NodeFault.{NodeFault}
use Rattle.mg_calc.specs.Outcome.{Failure}

-- the fault of a node with the node's number, if the node has one
abbrev pub numbered_fault : ℕ × Option Failure → Option NodeFault
numbered_fault entry = option_map (λ failure. record { node = entry.0; phase = failure.phase; cause = failure.cause }) entry.1

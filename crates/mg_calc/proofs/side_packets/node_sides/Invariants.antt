-- The side packets so far, and then those of the ports that are left, are all side packets of the node.
use Rattle.std.proofs.Common.{◌≡◌, ◌++◌, map, drop, slice_get}
use Rattle.std.specs.Option.{option_and_then}
use Rattle.mg_calc.specs.Given.{given}
use Rattle.mg_calc.specs.Plan.{node_sides, side_packet}
use Rattle.mg_calc.proofs.side_packets.node_sides.Given as goal

abbrev pub invariant-loop-number : goal.invariant-loop-number
invariant-loop-number l =
    map given l.sides.items ++ map (λ number. option_and_then (λ side. side_packet l.handed_in side.value) (slice_get l.plan.sides number)) (drop l.number-index l.number-items)
    ≡ node_sides l.plan l.handed_in l.node

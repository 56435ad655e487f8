-- What is left decides.
use Rattle.std.proofs.Common.{◌≡◌, List, drop}
use Rattle.mg_value.specs.Payload.{Plain}
use Rattle.mg_settled.specs.Prefix.{StreamPrefix}
use Rattle.mg_calc.specs.Laying.{laid_behind}
use Rattle.mg_route.specs.Reasons.{reason_of}
use Rattle.mg_node.specs.Code.QueueLaying.{Stand}
use Rattle.mg_node.proofs.laying.parts_fault.Given as goal

abbrev pub invariant-loop-i : goal.invariant-loop-i
invariant-loop-i l =
    (whole : List (StreamPrefix Plain)) → Stand l.outputs whole
    → reason_of (laid_behind l.offset l.phase whole l.emission) ≡ reason_of (laid_behind l.offset l.phase (drop l.i whole) (drop l.i l.emission))

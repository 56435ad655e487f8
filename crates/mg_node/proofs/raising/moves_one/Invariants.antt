-- What is left decides.
use Rattle.std.proofs.Common.{◌≡◌, map, drop}
use Rattle.mg_stream.specs.Pool.{backlog_of}
use Rattle.mg_node.specs.Advances.{any_moved}
use Rattle.mg_node.proofs.raising.moves_one.Given as goal

abbrev pub invariant-loop-i : goal.invariant-loop-i
invariant-loop-i l = any_moved l.bound (map backlog_of (drop l.i l.outputs)) ≡ any_moved l.bound (map backlog_of l.outputs)

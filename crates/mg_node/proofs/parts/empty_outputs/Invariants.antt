use Rattle.std.proofs.Common.{◌≡◌, ◌≤◌, map, replicate, vec_len, vec_capacity}
use Rattle.mg_stream.specs.Pool.{backlog_of, empty_backlog}
use Rattle.mg_node.proofs.parts.empty_outputs.Given as goal

abbrev pub invariant-loop : goal.invariant-loop
invariant-loop l = (map backlog_of l.outputs.items ≡ replicate l.counter empty_backlog) × (vec_len l.outputs ≡ l.counter) × (l.fn.count ≤ vec_capacity l.outputs)

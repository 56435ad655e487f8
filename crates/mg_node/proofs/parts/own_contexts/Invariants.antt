use Rattle.std.proofs.Common.{◌≡◌, ◌<◌, replicate, vec_len, vec_capacity}
use Rattle.mg_node.specs.Fresh.{own_told, context_of}
use Rattle.mg_node.proofs.parts.own_contexts.Given as goal

abbrev pub invariant-loop : goal.invariant-loop
invariant-loop g l = (l.contexts.items ≡ replicate l.counter (context_of l.fn.node (own_told l.fn.node))) × (vec_len l.contexts ≡ l.counter) × (l.fn.count < vec_capacity l.contexts)

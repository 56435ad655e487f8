use Rattle.std.proofs.Common.{ℕ, ◌<◌, slice_index}
use Rattle.mg_ready.proofs.order.table_len.Given as goal

abbrev pub invariant-loop-node : goal.invariant-loop-node
invariant-loop-node l = (k : ℕ) → k < l.node-index → slice_index l.order k < l.len

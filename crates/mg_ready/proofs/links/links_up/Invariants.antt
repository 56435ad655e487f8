use Rattle.std.proofs.Common.{◌≡◌, ℕ, ◌+◌, ◌<◌, slice_index, vec_len}
use Rattle.mg_ready.proofs.links.links_up.Given as goal

abbrev pub invariant-loop-slot : goal.invariant-loop-slot
invariant-loop-slot l = (vec_len l.above ≡ l.slot) × ((s : ℕ) → s < l.slot → slice_index l.above.items s ≡ s + 33)

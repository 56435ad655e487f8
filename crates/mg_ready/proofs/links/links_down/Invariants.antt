use Rattle.std.proofs.Common.{◌≡◌, ℕ, ◌+◌, ◌<◌, slice_index, vec_len, max}
use Rattle.mg_ready.proofs.links.links_down.Given as goal

abbrev pub invariant-loop-slot : goal.invariant-loop-slot
invariant-loop-slot l = (vec_len l.below ≡ l.slot) × ((s : ℕ) → s < l.slot → slice_index l.below.items s + 33 ≡ max s 33)

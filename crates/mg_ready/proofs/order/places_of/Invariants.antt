use Rattle.std.proofs.Common.{◌≡◌, ℕ, ◌<◌, All, slice_index, length}
use Rattle.mg_ready.proofs.order.places_of.Given as goal

-- the nodes so far have their places
abbrev pub invariant-loop-place : goal.invariant-loop-place
invariant-loop-place l =
    (All (λ node. node < length l.places.items) l.order)
    × ((k : ℕ) → k < l.place → slice_index l.places.items (slice_index l.order k) ≡ k)

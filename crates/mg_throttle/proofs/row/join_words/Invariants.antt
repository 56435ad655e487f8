use Rattle.std.proofs.Common.{◌≡◌, ℕ, ◌<◌, ◌≤◌, slice_index}
use Rattle.std.specs.Prelude.{bit_or}
use Rattle.mg_throttle.proofs.row.join_words.Given as goal

abbrev pub invariant-loop-k : goal.invariant-loop-k
invariant-loop-k l =
    ((j : ℕ) → j < l.k → slice_index l.into j ≡ bit_or (slice_index l.initial.into j) (slice_index l.from j))
    × ((j : ℕ) → l.k ≤ j → slice_index l.into j ≡ slice_index l.initial.into j)

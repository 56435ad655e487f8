use Rattle.std.proofs.Common.{◌≢◌, ℕ, ◌<◌, slice_index}
use Rattle.mg_test_flow.proofs.ready.is_distinct.Given as goal

-- the numbers so far are apart
abbrev pub invariant-loop-place : goal.invariant-loop-place
invariant-loop-place l = (i j : ℕ) → i < j → j < l.place → slice_index l.order i ≢ slice_index l.order j

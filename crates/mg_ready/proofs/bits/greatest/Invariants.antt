use Rattle.std.proofs.Common.{◌≡◌, ℕ, ◌≤◌, slice_index}
use Rattle.mg_ready.proofs.bits.greatest.Given as goal

-- the words from here on are 0
abbrev pub invariant-loop-i : goal.invariant-loop-i
invariant-loop-i l = (j : ℕ) → l.i ≤ j → slice_index l.words j ≡ 0

use Rattle.std.proofs.Common.{◌≡◌, ◌≤◌, replicate, zero, vec_len, vec_capacity}
use Rattle.mg_turns.proofs.memory.free_words.Given as goal

abbrev pub invariant-loop : goal.invariant-loop
invariant-loop l = (l.words.items ≡ replicate l.counter zero) × (vec_len l.words ≡ l.counter) × (l.size ≤ vec_capacity l.words) × (l.counter ≤ l.size)

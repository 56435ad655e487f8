use Rattle.std.proofs.Common.{◌≡◌, ◌+◌, ◌≤◌, ◌++◌, length, vec_len, vec_capacity}
use Rattle.std.specs.Vec.Iter.{into_iter_items}
use Rattle.mg_turns.specs.Code.Stored.{somes}
use Rattle.mg_turns.proofs.memory.all_out.Given as goal

abbrev pub invariant-loop-slot : goal.invariant-loop-slot
invariant-loop-slot g l =
    (l.parts.items ++ somes (into_iter_items l.slot-iterator) ≡ somes l.fn.slots.items)
    × (vec_len l.parts + length (into_iter_items l.slot-iterator) ≤ vec_capacity l.parts)

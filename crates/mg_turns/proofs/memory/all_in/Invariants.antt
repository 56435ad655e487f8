use Rattle.std.proofs.Common.{◌≡◌, ◌+◌, ◌≤◌, ◌++◌, map, length, vec_len, vec_capacity, Some}
use Rattle.std.specs.Vec.Iter.{into_iter_items}
use Rattle.mg_turns.proofs.memory.all_in.Given as goal

abbrev pub invariant-loop-part : goal.invariant-loop-part
invariant-loop-part g l =
    (l.slots.items ++ map Some (into_iter_items l.part-iterator) ≡ map Some l.fn.parts.items)
    × (vec_len l.slots + length (into_iter_items l.part-iterator) ≤ vec_capacity l.slots)

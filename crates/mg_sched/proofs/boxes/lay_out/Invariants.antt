-- The calculators in places, and after them those that are left, from the last one to the first, are all of them.
use Rattle.std.proofs.Common.{◌≡◌, ◌+◌, ◌≤◌, ◌++◌, Some, map, reverse, vec_len, vec_capacity}
use Rattle.mg_sched.proofs.boxes.lay_out.Given as goal

abbrev pub decreases-loop-calculator : goal.decreases-loop-calculator
decreases-loop-calculator g l = vec_len l.boxes

abbrev pub invariant-loop-calculator : goal.invariant-loop-calculator
invariant-loop-calculator g l = (l.places.items ++ map Some (reverse l.boxes.items) ≡ l.fn.places.items ++ map Some l.fn.boxes.items)
    × (vec_len l.places + vec_len l.boxes ≡ vec_len l.fn.places + vec_len l.fn.boxes)
    × (vec_len l.places + vec_len l.boxes ≤ vec_capacity l.places)
    × (vec_capacity l.boxes ≡ vec_capacity l.fn.boxes)

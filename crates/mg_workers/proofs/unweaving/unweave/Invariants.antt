-- With the parts that are left the result is the same, and there is room for all.
use Rattle.std.proofs.Common.{◌≡◌, ◌≤◌, ◌++◌, reverse, length, vec_len, vec_capacity}
use Rattle.mg_workers.specs.Code.Weaving.{engines_in, intakes_in, IsWovenFrom}
use Rattle.mg_workers.proofs.unweaving.unweave.Given as goal

abbrev pub invariant-loop-part : goal.invariant-loop-part
invariant-loop-part g l =
    IsWovenFrom l.nodes (engines_in l.fn.parts.items ++ reverse l.initial.engines.items) (intakes_in l.fn.parts.items ++ reverse l.initial.intakes.items) l.parts.items l.engines.items l.intakes.items
    × (length (engines_in l.fn.parts.items ++ reverse l.initial.engines.items) ≤ vec_capacity l.engines)
    × (length (intakes_in l.fn.parts.items ++ reverse l.initial.intakes.items) ≤ vec_capacity l.intakes)
    × (vec_capacity l.engines ≡ vec_capacity l.initial.engines)
    × (vec_capacity l.intakes ≡ vec_capacity l.initial.intakes)

abbrev pub decreases-loop-part : goal.decreases-loop-part
decreases-loop-part g l = vec_len l.parts

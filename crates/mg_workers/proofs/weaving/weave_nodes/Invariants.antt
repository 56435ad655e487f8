-- The engines and the intakes of the first nodes are woven, a number of them.
use Rattle.std.proofs.Common.{◌≡◌, ◌+◌, ◌*◌, ◌≤◌, reverse, length, vec_capacity}
use Rattle.mg_workers.specs.Code.Weaving.{IsWovenFrom}
use Rattle.mg_workers.proofs.weaving.weave_nodes.Given as goal

abbrev pub invariant-loop : goal.invariant-loop
invariant-loop g l =
    IsWovenFrom l.nodes (reverse l.initial.engines.items) (reverse l.initial.intakes.items) l.parts.items l.engines.items l.intakes.items
    × (length l.parts.items ≡ 2 * l.counter)
    × (length l.engines.items + l.counter ≡ length l.initial.engines.items)
    × (length l.intakes.items + l.counter ≡ length l.initial.intakes.items)
    × (vec_capacity l.engines ≡ vec_capacity l.initial.engines)
    × (vec_capacity l.intakes ≡ vec_capacity l.initial.intakes)
    × (vec_capacity l.parts ≡ vec_capacity l.initial.parts)
    × (l.counter ≤ l.nodes)

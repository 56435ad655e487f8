use Rattle.std.proofs.Common.{◌≡◌, map}
use Rattle.std.specs.Vec.Iter.{into_iter_items}
use Rattle.mg_node.proofs.HandedBack.{first_told}
use Rattle.mg_node.proofs.leaving.from_contexts.Given as goal

abbrev pub invariant-loop-context : goal.invariant-loop-context
invariant-loop-context g l = first_told (map (λ b. b.told) (into_iter_items l.context-iterator)) ≡ first_told (map (λ b. b.told) l.fn.contexts.items)

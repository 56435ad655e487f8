use Rattle.std.proofs.Common.{◌≡◌, ◌<◌, ℕ, true, false, map}
use Rattle.mg_subgraph.specs.Code.Places.{flag_at, IsCyclic}
use Rattle.mg_subgraph.proofs.used.recursive_place.Given as goal

abbrev pub invariant-loop-place : goal.invariant-loop-place
invariant-loop-place l = (place : ℕ) → place < l.place → flag_at l.used place ≡ true → IsCyclic (map (λ list. list.items) l.links) place false

use Rattle.std.proofs.Common.{◌≡◌, ◌<◌, All, length, map, take}
use Rattle.mg_levels.specs.Hands.{hand_id, queue_id}
use Rattle.mg_levels.specs.Code.Rows.{views_in, portions_in, joined_all}
use Rattle.mg_levels.proofs.rows.join_all.Given as goal

abbrev pub invariant-loop-other : goal.invariant-loop-other
invariant-loop-other l =
    (map hand_id l.hands ≡ map queue_id l.queues)
    × (map hand_id l.others.items ≡ take (length l.others.items) (map queue_id l.queues))
    × All (λ p. 0 < p) (portions_in l.hands)
    × All (λ p. 0 < p) (portions_in l.others.items)
    × (joined_all (views_in l.hands) (views_in l.others.items) ≡ joined_all (views_in l.initial.hands) (views_in l.initial.others.items))

abbrev pub decreases-loop-other : goal.decreases-loop-other
decreases-loop-other l = length l.others.items

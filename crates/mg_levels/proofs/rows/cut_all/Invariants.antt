use Rattle.std.proofs.Common.{◌≡◌, ◌++◌, map, take, drop, replicate, vec_capacity}
use Rattle.mg_levels.specs.Hands.{hand_id, queue_id, kept_hand, fresh}
use Rattle.mg_levels.specs.Code.Rows.{views_in}
use Rattle.mg_levels.proofs.rows.cut_all.Given as goal

abbrev pub invariant-loop-level : goal.invariant-loop-level
invariant-loop-level l =
    (map hand_id l.hands ≡ map hand_id l.initial.hands)
    × (views_in l.hands ≡ map (λ h. kept_hand h l.portion) (take l.level (views_in l.initial.hands)) ++ drop l.level (views_in l.initial.hands))
    × (map hand_id l.into.items ≡ take l.level (map queue_id l.queues))
    × (views_in l.into.items ≡ replicate l.level (fresh l.portion))
    × (vec_capacity l.into ≡ vec_capacity l.initial.into)

use Rattle.std.proofs.Common.{ℕ, ◌≡◌, ◌+◌, ◌≤◌, All, length, map, take, sum, vec_capacity}
use Rattle.crossbeam_queue.specs.Passes.{ruled_capacity}
use Rattle.mg_levels.specs.Balance.{whole}
use Rattle.mg_levels.specs.Hands.{hand_id, queue_id}
use Rattle.mg_levels.specs.Places.{times}
use Rattle.mg_levels.specs.Code.Rows.{views_in, portions_in, total_put, total_taken}
use Rattle.mg_levels.proofs.rows.drain_all.Given as goal

abbrev pub invariant-loop-hand : goal.invariant-loop-hand
invariant-loop-hand g l =
    (map hand_id l.hands.items ≡ take (length l.hands.items) (map queue_id l.queues))
    × All (λ p. p ≡ whole) (portions_in l.hands.items)
    × (length l.left.items + sum (take (length l.hands.items) (map ruled_capacity l.queues)) ≤ sum (map ruled_capacity l.queues))
    × (vec_capacity l.left ≡ vec_capacity l.initial.left)
    × ((node : ℕ) → total_put l.order node (views_in l.fn.hands.items) + total_taken l.order node (views_in l.hands.items)
    ≡ total_taken l.order node (views_in l.fn.hands.items) + times node l.left.items + total_put l.order node (views_in l.hands.items))

abbrev pub decreases-loop-hand : goal.decreases-loop-hand
decreases-loop-hand g l = length l.hands.items

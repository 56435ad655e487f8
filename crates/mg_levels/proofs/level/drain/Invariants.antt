use Rattle.std.proofs.Common.{◌≡◌, vec_capacity}
use Rattle.crossbeam_queue.specs.Passes.{view, IsPassOf}
use Rattle.mg_levels.specs.Code.Drained.{IsDraining}
use Rattle.mg_levels.proofs.level.drain.Given as goal

abbrev pub invariant-loop-done : goal.invariant-loop-done
invariant-loop-done g l =
    (IsPassOf l.queue l.pass × (vec_capacity l.left ≡ vec_capacity l.initial.left))
    × IsDraining l._done l.order (view l.fn.hand.pass) (view l.pass) l.initial.left.items l.left.items

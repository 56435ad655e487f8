use Rattle.std.proofs.Common.{◌≡◌, map}
use Rattle.mg_levels.specs.Hands.{hand_id}
use Rattle.mg_levels.specs.Places.{FoundEmptyFrom}
use Rattle.mg_levels.specs.Code.Rows.{portions_in, views_in}
use Rattle.mg_levels.proofs.rows.take_last.Given as goal

abbrev pub invariant-loop-level : goal.invariant-loop-level
invariant-loop-level g l =
    (map hand_id l.hands ≡ map hand_id l.initial.hands)
    × (portions_in l.hands ≡ portions_in l.initial.hands)
    × FoundEmptyFrom l.level (views_in l.initial.hands) (views_in l.hands)

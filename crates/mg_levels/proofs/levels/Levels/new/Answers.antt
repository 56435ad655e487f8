use Rattle.std.proofs.Common.{◌+◌, ◌/◌, ◌<◌, refl, ap, ◌∙◌, subst, arith}
use Rattle.std.proofs.lemmas.List.{length-map}
use Rattle.crossbeam_queue.specs.Passes.{ruled_capacity}
use Rattle.mg_levels.specs.Balance.{whole}
use Rattle.mg_levels.specs.Hands.{fresh}
use Rattle.mg_levels.specs.Places.{room_for}
use Rattle.mg_levels.proofs.SeatSteps.{even_from, all_fresh}
use Rattle.mg_levels.proofs.levels.Levels.new.Goals as goal

pub invariant_of-seat : goal.invariant_of-seat
invariant_of-seat c = record { even = even_from _ _ whole c.in_ok-queues.ensures.hands; some = omega arith }

pub returns-clause-rooms : goal.returns-clause-rooms
returns-clause-rooms c = let m = c.in_ok-queues.ensures in record {
  count = length-map _ ruled_capacity ∙ m.count_is ∙ ap (λ n. (n + 31) / 32) c.len.ensures;
  each = λ level below. m.rooms level (subst (λ n. level < n) (length-map _ ruled_capacity ∙ m.count_is) below) ∙ ap (λ n. room_for n level) c.len.ensures;
}

pub returns-clause-seat : goal.returns-clause-seat
returns-clause-seat c = let m = c.in_ok-queues.ensures in (m.ids, refl, all_fresh _ _ (fresh whole) m.hands)

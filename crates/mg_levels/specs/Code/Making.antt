-- How levels are made, one after the other.
use Rattle.std.specs.Prelude.{◌≡◌, ℕ, ◌+◌, ◌*◌, ◌<◌, [], ◌∷◌, ◌++◌, length, map, replicate, sum, get_or}
use Rattle.crossbeam_queue.specs.Passes.{ruled_capacity}
use Rattle.mg_levels.specs.Balance.{whole}
use Rattle.mg_levels.specs.Hands.{hand_view, hand_id, queue_id, fresh}
use Rattle.mg_levels.specs.Places.{room_for}
use Rattle.mg_levels.specs.declared.making.Made.{Made}

-- a level for so many nodes was made after the others
pub record MakesLevel (nodes : ℕ) (old new : Made) : Type 0 where
  pub rooms : map ruled_capacity new.queues.items ≡ map ruled_capacity old.queues.items ++ (4 * nodes) ∷ []
  pub hands : map hand_view new.hands.items ≡ map hand_view old.hands.items ++ fresh whole ∷ []
  pub ids : map hand_id old.hands.items ≡ map queue_id old.queues.items → map hand_id new.hands.items ≡ map queue_id new.queues.items
  pub room : new.room ≡ old.room + 4 * nodes

-- the first `count` levels of an order of so many nodes are made
pub record AreMade (nodes count : ℕ) (m : Made) : Type 0 where
  pub count_is : length m.queues.items ≡ count
  pub rooms : (level : ℕ) → level < count → get_or (map ruled_capacity m.queues.items) level 0 ≡ room_for nodes level
  pub hands : map hand_view m.hands.items ≡ replicate count (fresh whole)
  pub ids : map hand_id m.hands.items ≡ map queue_id m.queues.items
  pub room : m.room ≡ sum (map ruled_capacity m.queues.items)

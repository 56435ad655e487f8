-- Levels: the nodes of an order in buckets of 32 places, each with a queue. What a seat has done is counted node by node and level by
-- level.
use Rattle.std.specs.Prelude.{◌≡◌, ℕ, ◌+◌, ◌/◌, ◌<◌, List, length, map, Some, slice_get, slice_set, get_or}
use Rattle.crossbeam_queue.specs.Passes.{ruled_capacity}
use Rattle.mg_levels.specs.Balance.{total}
use Rattle.mg_levels.specs.Hands.{HandView, hand_view, hand_id, queue_id, fresh, more, HeldThen}
use Rattle.mg_levels.specs.Places.{node_of, times_of, room_for, sums, TookLast}
use Rattle.mg_levels.specs.declared.levels.Levels.{Levels}
use Rattle.mg_levels.specs.declared.seat.LevelSeat.{LevelSeat}

-- the order of the levels' nodes
abbrev pub order_of : Levels → List ℕ
order_of levels = levels.order

-- what a seat has done at each level
abbrev pub hands_of : LevelSeat → List HandView
hands_of seat = map hand_view seat.hands.items

-- the portion of a seat
abbrev pub portion_of : LevelSeat → ℕ
portion_of seat = seat.portion

-- how often a seat put a node in
abbrev pub puts_of : List ℕ → ℕ → LevelSeat → ℕ
puts_of order node seat = total (λ (h : HandView). times_of order node h.put) (hands_of seat)

-- how often a seat took a node out
abbrev pub takes_of : List ℕ → ℕ → LevelSeat → ℕ
takes_of order node seat = total (λ (h : HandView). times_of order node h.taken) (hands_of seat)

-- how often a seat found each level full
abbrev pub fulls_of : LevelSeat → List ℕ
fulls_of seat = map (λ (h : HandView). h.fulls) (hands_of seat)

-- how often a seat found each level empty
abbrev pub empties_of : LevelSeat → List ℕ
empties_of seat = map (λ (h : HandView). h.empties) (hands_of seat)

-- a seat is one of these levels
abbrev pub IsSeatOf : Levels → LevelSeat → Type 0
IsSeatOf levels seat = map hand_id seat.hands.items ≡ map queue_id levels.queues.items

-- how many entries each level has room for: four for each of its nodes
abbrev pub rooms_in : Levels → List ℕ
rooms_in levels = map ruled_capacity levels.queues.items

-- there is a level for each 32 places of the order, and each has room for four entries for each of its nodes
pub record HasRooms (levels : Levels) : Type 0 where
  pub count : length (rooms_in levels) ≡ (length (order_of levels) + 31) / 32
  pub each : (level : ℕ) → level < length (rooms_in levels) → get_or (rooms_in levels) level 0 ≡ room_for (length (order_of levels)) level

-- a seat has put in and taken out nothing yet, and found no level full or empty
abbrev pub HasDoneNothing : LevelSeat → Type 0
HasDoneNothing seat = (level : ℕ) (h : HandView) → slice_get (hands_of seat) level ≡ Some h → h ≡ fresh (portion_of seat)

-- a seat has done the same as before
pub record SameCounts (order : List ℕ) (old new : LevelSeat) : Type 0 where
  pub puts : (node : ℕ) → puts_of order node new ≡ puts_of order node old
  pub takes : (node : ℕ) → takes_of order node new ≡ takes_of order node old
  pub fulls : fulls_of new ≡ fulls_of old
  pub empties : empties_of new ≡ empties_of old

-- the new seat has done what the old one and the other have
pub record AddsCounts (order : List ℕ) (old other new : LevelSeat) : Type 0 where
  pub puts : (node : ℕ) → puts_of order node new ≡ puts_of order node old + puts_of order node other
  pub takes : (node : ℕ) → takes_of order node new ≡ takes_of order node old + takes_of order node other
  pub fulls : fulls_of new ≡ sums (fulls_of old) (fulls_of other)
  pub empties : empties_of new ≡ sums (empties_of old) (empties_of other)

-- the level of a node was full at one moment, which is counted
pub record FoundFullAt (levels : Levels) (node : ℕ) (old new : LevelSeat) : Type 0 where
  pub place : ℕ
  pub stands : slice_get (order_of levels) place ≡ Some node
  pub hand : HandView
  pub at : slice_get (hands_of old) (place / 32) ≡ Some hand
  pub counted : fulls_of new ≡ slice_set (fulls_of old) (place / 32) (more hand.fulls)
  pub held : HeldThen (get_or (rooms_in levels) (place / 32) 0) hand

-- a node was taken out of a level, after each later level was found empty
pub record TookNode (order : List ℕ) (node : ℕ) (old new : LevelSeat) : Type 0 where
  pub place : ℕ
  pub is : node ≡ node_of order place
  pub took : TookLast place (hands_of old) (hands_of new)

-- A worker's seat at the levels, and the node that it keeps.
use Rattle.std.specs.Prelude.{ℕ, ◌≤◌, Option, IfSome, Contains}
use Rattle.mg_levels.specs.Levels.{order_of, portion_of, IsSeatOf}
use Rattle.mg_levels.specs.declared.levels.Levels.{Levels}
use Rattle.mg_levels.specs.declared.seat.LevelSeat.{LevelSeat}
use Rattle.mg_crew.specs.declared.putting.Place.{Place}

-- if there is a seat, it is one at these levels
abbrev pub IsAnyOf : Levels → Option LevelSeat → Type 0
IsAnyOf levels seat = IfSome seat (λ s. IsSeatOf levels s)

-- if there is a seat, at least so much of the portion is left to it
abbrev pub LeavesPortion : ℕ → Option LevelSeat → Type 0
LeavesPortion portion seat = IfSome seat (λ s. portion ≤ portion_of s)

-- a worker's place is at these levels: its seat is, and the node that it keeps is one of theirs
pub record IsPlaceAt (levels : Levels) (place : Place) : Type 0 where
  pub seat : IsAnyOf levels place.seat
  pub kept : IfSome place.kept (λ node. Contains (order_of levels) node)

-- if a place has a seat, at least so much of the portion is left to it
abbrev pub HasPortion : ℕ → Place → Type 0
HasPortion portion place = LeavesPortion portion place.seat

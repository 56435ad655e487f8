-- What is left at a level goes into a list, as nodes.
use Rattle.std.specs.Prelude.{◌≡◌, ℕ, ◌+◌, ◌≤◌, List, ◌++◌, length, map}
use Rattle.mg_levels.specs.Balance.{weigh, share}
use Rattle.mg_levels.specs.declared.share.Share.{Share}
use Rattle.mg_levels.specs.Hands.{HandView}
use Rattle.mg_levels.specs.Places.{node_of}

-- what is left at a level by a hand, `room` places at most, stands in the list as nodes, after what was there
pub record Drained (room : ℕ) (order : List ℕ) (h : HandView) (old new : List ℕ) : Type 0 where
  pub places : List ℕ
  pub few : length places ≤ room
  pub put : new ≡ old ++ map (node_of order) places
  pub even : (weight : ℕ → ℕ) → weigh weight h.put ≡ weigh weight h.taken + weigh weight places

-- this many places were taken out of a level, and stand in the list as nodes, after what was there
pub record IsDraining (count : ℕ) (order : List ℕ) (v now : Share) (old new : List ℕ) : Type 0 where
  pub places : List ℕ
  pub many : length places ≡ count
  pub put : new ≡ old ++ map (node_of order) places
  pub now_is : now ≡ share v.portion v.put (v.taken ++ places)

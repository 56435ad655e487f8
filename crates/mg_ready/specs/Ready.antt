-- The nodes that may run: a set of nodes. Each of them has a place in an order. A node that stands later in the order has the
-- higher priority.
use Rattle.std.specs.Prelude.{◌≡◌, ◌≢◌, ℕ, ◌<◌, ◌≤◌, ◌↔◌, Bool, true, false, List, length, replicate, slice_index, slice_index_or}

-- a set of nodes: the order, and for each of its places whether the node there is in the set
pub record ReadyNodes : Type 0 where
  pub order : List ℕ
  pub is_in : List Bool

-- the empty set of nodes with an order
abbrev pub none_ready : List ℕ → ReadyNodes
none_ready order = record { order = order; is_in = replicate (length order) false }

-- the node at a place of the order, which is in the set
pub record HasAt (r : ReadyNodes) (place node : ℕ) : Type 0 where
  pub within : place < length r.order
  pub node_at : slice_index r.order place ≡ node
  pub there : slice_index_or r.is_in place false ≡ true

-- a node is in the set
abbrev pub IsIn : ReadyNodes → ℕ → Type 0
IsIn r node = (place : ℕ) × HasAt r place node

-- no node is in the set
abbrev pub IsEmpty : ReadyNodes → Type 0
IsEmpty r = (node : ℕ) → ¬ IsIn r node

-- a node of the set, after which no node of the set stands in the order
pub record IsHighest (r : ReadyNodes) (node : ℕ) : Type 0 where
  pub place : ℕ
  pub here : HasAt r place node
  pub highest : (other_place other : ℕ) → HasAt r other_place other → other_place ≤ place

-- the order stays, and every node but one is in the new set if it was in the old one
pub record ChangesOnly (old new : ReadyNodes) (node : ℕ) : Type 0 where
  pub order : new.order ≡ old.order
  pub others : (other : ℕ) → other ≢ node → IsIn new other ↔ IsIn old other

-- Orders of a few nodes, to read the definition by.
use Rattle.std.proofs.Common.{◌≡◌, List, [], ◌∷◌, refl}
use Rattle.mg_check.specs.declared.ordering.Link.{Link}
use Rattle.mg_check.specs.Order.{order_of, left_out}
use Rattle.mg_check.specs.Cycle.{largest_cycle}

-- a source that feeds the last two nodes, while the last node also feeds the node before it
abbrev fed : List Link
fed = record { from = 1; to = 3 } ∷ record { from = 3; to = 2 } ∷ record { from = 1; to = 2 } ∷ []

-- The source comes first, then the node that nobody feeds. Each other node comes after all nodes that feed it.
in_order : order_of 4 (1 ∷ []) fed ≡ 1 ∷ 0 ∷ 3 ∷ 2 ∷ []
in_order = refl

-- two nodes that feed each other are left out, and so is a node that waits for them
abbrev ring : List Link
ring = record { from = 1; to = 2 } ∷ record { from = 2; to = 1 } ∷ record { from = 2; to = 3 } ∷ []

ring_order : order_of 4 (0 ∷ []) ring ≡ 0 ∷ []
ring_order = refl

ring_out : left_out 4 (0 ∷ []) ≡ 1 ∷ 2 ∷ 3 ∷ []
ring_out = refl

-- These nodes are the largest set that feeds itself: each reads what a node of the set writes.
ring_cycle : largest_cycle 4 ring ≡ 1 ∷ 2 ∷ 3 ∷ []
ring_cycle = refl

no_cycle : largest_cycle 4 fed ≡ []
no_cycle = refl

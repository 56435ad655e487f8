-- What goes first of an agenda's places.
use Rattle.std.proofs.Common.{Contains, ℕ, subst}
use Rattle.std.proofs.lemmas.List.Elements.{Contains-get_or}
use Rattle.mg_ready.specs.Ready.{ReadyNodes, IsHighest}

-- what goes first stands in the order
pub highest_there : (r : ReadyNodes) (node : ℕ) → IsHighest r node → Contains r.order node
highest_there r node h = subst (Contains r.order) h.here.node_at (Contains-get_or r.order h.place 0 h.here.within)

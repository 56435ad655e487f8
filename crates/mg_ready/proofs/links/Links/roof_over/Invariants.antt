use Rattle.std.proofs.Common.{◌≡◌, ◌<◌, ◌≤◌, true, length}
use Rattle.mg_ready.specs.Code.Links.{top_of, is_linked}
use Rattle.mg_ready.proofs.links.Links.roof_over.Given as goal

-- a linked slot above
abbrev pub invariant-loop-self : goal.invariant-loop-self
invariant-loop-self l =
    (l.slot < l.upper) × (l.upper ≤ top_of (length l.self-inside.is_in.items)) × (is_linked l.self-inside.is_in.items l.upper ≡ true)

abbrev pub decreases-loop-self : goal.decreases-loop-self
decreases-loop-self l = l.upper

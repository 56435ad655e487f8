-- The sum so far, together with what the remaining entries need, is what all entries need.
use Rattle.std.proofs.Common.{◌≡◌, ◌+◌, drop}
use Rattle.mg_node.specs.Code.FrontLaying.{needed}
use Rattle.mg_node.proofs.fronts.needed.Given as goal

abbrev pub invariant-loop-place : goal.invariant-loop-place
invariant-loop-place g l = l.sum + needed l.output (drop l.place l.window.items) ≡ needed l.output l.window.items

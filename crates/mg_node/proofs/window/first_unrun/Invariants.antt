use Rattle.std.proofs.Common.{◌≡◌, drop}
use Rattle.mg_node.specs.Claims.{first_unrun}
use Rattle.mg_node.proofs.window.first_unrun.Given as goal

-- what is left has the first one
abbrev pub invariant-loop-place : goal.invariant-loop-place
invariant-loop-place g l = first_unrun l.place (drop l.place l.window.items) ≡ first_unrun 0 l.window.items

-- The payloads found so far are those of the full places among the first.
use Rattle.std.proofs.Common.{◌≡◌, map, take}
use Rattle.mg_calc.specs.Given.{given}
use Rattle.mg_calc.specs.Values.{stored}
use Rattle.mg_calc.specs.State.{kept_list}
use Rattle.mg_calc.specs.Code.StateView.{shared_plain}
use Rattle.mg_calc.proofs.state.full_ones.Given as goal

abbrev pub invariant-loop-place : goal.invariant-loop-place
invariant-loop-place l = map shared_plain l.list.items ≡ kept_list (map (λ place. stored (given place)) (take l.place-index l.places))

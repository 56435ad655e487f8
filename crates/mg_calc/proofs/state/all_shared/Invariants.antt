-- The payloads shared so far are the first of the list.
use Rattle.std.proofs.Common.{◌≡◌, map, take}
use Rattle.mg_calc.specs.Code.StateView.{shared_plain}
use Rattle.mg_calc.proofs.state.all_shared.Given as goal

abbrev pub invariant-loop-payload : goal.invariant-loop-payload
invariant-loop-payload l = map shared_plain l.copies.items ≡ map shared_plain (take l.payload-index l.list)

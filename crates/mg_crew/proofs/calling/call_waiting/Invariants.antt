use Rattle.mg_crew.specs.Code.Places.{IsPlaceAt}
use Rattle.mg_crew.proofs.calling.call_waiting.Given as goal

abbrev pub invariant-loop : goal.invariant-loop
invariant-loop g l = IsPlaceAt l.shop.tools.now.levels l.place

use Rattle.mg_crew.specs.Code.Places.{IsPlaceAt}
use Rattle.mg_crew.proofs.throttling.put_all_held.Given as goal

abbrev pub invariant-loop-k : goal.invariant-loop-k
invariant-loop-k g l = IsPlaceAt l.tools.levels l.place

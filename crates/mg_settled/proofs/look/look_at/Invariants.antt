use Rattle.std.proofs.Common.{◌≡◌, take}
use Rattle.mg_settled.specs.Settled.{low}
use Rattle.mg_settled.specs.FirstSet.{earliest}
use Rattle.mg_settled.proofs.look.look_at.Given as goal

abbrev pub invariant-loop-rest : goal.invariant-loop-rest
invariant-loop-rest l = record {
  earliest : l.earliest ≡ earliest (take l.rest-index l.rests);
  low : l.low ≡ low (take l.rest-index l.rests);
}

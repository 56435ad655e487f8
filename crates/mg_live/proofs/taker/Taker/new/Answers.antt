use Rattle.std.proofs.Common.{ap}
use Rattle.mg_free.specs.Free.{FreeRest}
use Rattle.mg_live.proofs.RestTaken.{none_taken}
use Rattle.mg_live.proofs.taker.Taker.new.Goals as goal

pub returns-clause-taken : goal.returns-clause-taken
returns-clause-taken c = none_taken c.args.free.now c.in_ok-taker.taker c.in_ok-taker.ensures.counted c.in_ok-taker.ensures.rest

pub returns-clause-handed : goal.returns-clause-handed
returns-clause-handed c = ap (λ (r : FreeRest). r.handed) c.in_ok-taker.ensures.rest

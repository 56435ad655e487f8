use Rattle.mg_policy.proofs.PoolRests.{rests-prefixes}
use Rattle.mg_policy.proofs.selecting.select_port.Goals as goal

pub returns-clause-prefixes : goal.returns-clause-prefixes
returns-clause-prefixes c = rests-prefixes c.args.pool.now c.ports.ensures.rests

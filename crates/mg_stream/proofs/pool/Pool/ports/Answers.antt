use Rattle.mg_stream.proofs.PoolSteps.{rests_all}
use Rattle.mg_stream.proofs.pool.Pool.ports.Goals as goal

pub returns-clause-rests : goal.returns-clause-rests
returns-clause-rests c = λ port. rests_all c.self.inside c.args.self.now c.self.view_is c.self.invariant port

use Rattle.mg_stream.proofs.QueueSteps.{stands_closed}
use Rattle.mg_stream.specs.Pool.{queue_at}
use Rattle.mg_stream.proofs.Laid.{stands_with}
use Rattle.mg_stream.proofs.PoolSteps.{closed_step}
use Rattle.mg_stream.proofs.pool.Pool.close.Goals as goal

pub invariant_of-self : goal.invariant_of-self
invariant_of-self c = (closed_step c.self.inside c.args.self.now c.args.port c.index-chain.result.now c.self.view_is c.self.invariant c.requires c.index-chain.ensures).0

pub returns-clause-closed : goal.returns-clause-closed
returns-clause-closed c = (closed_step c.self.inside c.args.self.now c.args.port c.index-chain.result.now c.self.view_is c.self.invariant c.requires c.index-chain.ensures).1

pub returns-clause-stands : goal.returns-clause-stands
returns-clause-stands c = λ s h.
    stands_with c.args.self.now _ c.args.port _ _ c.requires
    (closed_step c.self.inside c.args.self.now c.args.port c.index-chain.result.now c.self.view_is c.self.invariant c.requires c.index-chain.ensures).1
    (stands_closed (queue_at c.args.self.now c.args.port) s h)

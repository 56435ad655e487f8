use Rattle.mg_stream.proofs.QueueSteps.{stands_raised}
use Rattle.mg_stream.specs.Pool.{queue_at}
use Rattle.mg_stream.proofs.Laid.{stands_with}
use Rattle.mg_stream.proofs.PoolSteps.{raised_step}
use Rattle.mg_stream.proofs.pool.Pool.raise.Goals as goal

pub invariant_of-self : goal.invariant_of-self
invariant_of-self c = (raised_step c.self.inside c.args.self.now c.args.port c.args.bound c.later.result c.index-chain.result.now c.self.view_is c.self.invariant c.requires c.index-chain.ensures c.done_is_greatest.ensures c.later.ensures).0

pub returns-clause-raised : goal.returns-clause-raised
returns-clause-raised c = (raised_step c.self.inside c.args.self.now c.args.port c.args.bound c.later.result c.index-chain.result.now c.self.view_is c.self.invariant c.requires c.index-chain.ensures c.done_is_greatest.ensures c.later.ensures).1

pub returns-clause-stands : goal.returns-clause-stands
returns-clause-stands c = λ s h.
    stands_with c.args.self.now _ c.args.port _ _ c.requires
    (raised_step c.self.inside c.args.self.now c.args.port c.args.bound c.later.result c.index-chain.result.now c.self.view_is c.self.invariant c.requires c.index-chain.ensures c.done_is_greatest.ensures c.later.ensures).1
    (stands_raised (queue_at c.args.self.now c.args.port) c.args.bound s c.done_is_greatest.ensures h)

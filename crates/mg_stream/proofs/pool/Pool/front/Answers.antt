use Rattle.std.proofs.Common.{◌<◌, refl, sym, arith}
use Rattle.mg_stream.proofs.Linked.{begins}
use Rattle.mg_stream.proofs.PoolSteps.{whole_read, front_none, front_some, rest_read}
use Rattle.mg_stream.proofs.pool.Pool.front.Goals as goal

pub index-requires : goal.index-requires
index-requires c =
    let chain = c.index-chain in
    let waits : 0 < chain.result.now.waiting = (let some = c.if-chain-eq0.false in omega (arith, some)) in
    rw (begins c.self.inside.entries.slots chain.result.now (whole_read c.self.inside c.args.self.now c.args.port chain.result.now c.self.view_is c.self.invariant c.requires chain.ensures) waits).there refl

pub returns-then-chain-eq0-clause-front : goal.returns-then-chain-eq0-clause-front
returns-then-chain-eq0-clause-front c =
    let chain = c.index-chain in
    sym (front_none c.self.inside c.args.self.now c.args.port chain.result.now c.self.view_is c.requires chain.ensures c.if-chain-eq0.true)

pub returns-then-chain-eq0-clause-rest : goal.returns-then-chain-eq0-clause-rest
returns-then-chain-eq0-clause-rest c =
    let chain = c.index-chain in
    rest_read c.self.inside c.args.self.now c.args.port chain.result.now c.self.view_is c.self.invariant c.requires chain.ensures

pub returns-clause-front : goal.returns-clause-front
returns-clause-front c =
    let chain = c.index-chain in
    let waits : 0 < chain.result.now.waiting = (let some = c.if-chain-eq0.false in omega (arith, some)) in
    sym (front_some c.self.inside c.args.self.now c.args.port chain.result.now c.index.result.now c.self.view_is c.self.invariant c.requires chain.ensures waits c.index.ensures)

pub returns-clause-rest : goal.returns-clause-rest
returns-clause-rest c =
    let chain = c.index-chain in
    rest_read c.self.inside c.args.self.now c.args.port chain.result.now c.self.view_is c.self.invariant c.requires chain.ensures

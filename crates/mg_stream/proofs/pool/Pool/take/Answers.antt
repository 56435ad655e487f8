use Rattle.std.proofs.Common.{◌<◌, ◌∙◌, ap, refl, length}
use Rattle.std.specs.Vec.{with_item}
use Rattle.mg_value.specs.Payload.{Plain}
use Rattle.mg_stream.specs.Queue.{popped}
use Rattle.mg_stream.specs.Pool.{Pooled, queue_at, with_queue}
use Rattle.mg_stream.specs.declared.pool.Pool.TheInside.{Inside}
use Rattle.mg_stream.proofs.PoolSteps.{whole_read, port_there, chain_read, chain_waits, Pops, pop_step}
use Rattle.mg_stream.proofs.pool.Pool.take.Goals as goal

pub pop_first-packet-requires-clause-whole : goal.pop_first-packet-requires-clause-whole
pop_first-packet-requires-clause-whole c = whole_read c.self.inside c.args.self.now c.args.port c.index.result.now c.self.view_is c.self.invariant c.requires.port c.index.ensures

pub invariant_of-self : goal.invariant_of-self
invariant_of-self c =
    let p = c.self.inside in
    let old = c.index.result.now in
    let pops = c.pop_first-packet in
    let now : Inside = record { entries = pops.new.entries; chains = with_item p.chains c.args.port pops.new.chain; room = p.room } in
    let there : c.args.port < length p.chains.items = port_there p c.args.self.now c.args.port c.self.view_is c.requires.port in
    let is = chain_read p.chains.items c.args.port old there c.index.ensures in
    let waits : 0 < old.waiting = chain_waits p c.args.self.now c.args.port old c.self.view_is c.self.invariant c.requires.port c.index.ensures c.requires.waits in
    let facts : Pops p now old pops.new.chain pops.result = record { waits = waits; entries = pops.ensures.entries; chain = pops.ensures.chain; others = pops.ensures.others; len = pops.ensures.len; capacity = pops.ensures.capacity; room = refl } in
    let step = pop_step p now c.args.port old pops.new.chain pops.result c.self.invariant there is refl facts in
    step.0

pub returns-clause-popped : goal.returns-clause-popped
returns-clause-popped c =
    let p = c.self.inside in
    let old = c.index.result.now in
    let pops = c.pop_first-packet in
    let now : Inside = record { entries = pops.new.entries; chains = with_item p.chains c.args.port pops.new.chain; room = p.room } in
    let there : c.args.port < length p.chains.items = port_there p c.args.self.now c.args.port c.self.view_is c.requires.port in
    let is = chain_read p.chains.items c.args.port old there c.index.ensures in
    let waits : 0 < old.waiting = chain_waits p c.args.self.now c.args.port old c.self.view_is c.self.invariant c.requires.port c.index.ensures c.requires.waits in
    let facts : Pops p now old pops.new.chain pops.result = record { waits = waits; entries = pops.ensures.entries; chain = pops.ensures.chain; others = pops.ensures.others; len = pops.ensures.len; capacity = pops.ensures.capacity; room = refl } in
    let step = pop_step p now c.args.port old pops.new.chain pops.result c.self.invariant there is refl facts in
    step.1 ∙ ap (λ (v : Pooled Plain). with_queue v c.args.port (popped (queue_at v c.args.port))) c.self.view_is

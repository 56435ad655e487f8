use Rattle.std.proofs.Common.{◌<◌, ◌-◌, ◌∙◌, ap, sym, subst, refl, length, arith}
use Rattle.std.specs.Vec.{with_item}
use Rattle.mg_value.specs.Payload.{Plain}
use Rattle.mg_stream.specs.Queue.{Waiting, MayCome, with_packet}
use Rattle.mg_stream.specs.Pool.{Pooled, queue_at, with_queue}
use Rattle.mg_stream.specs.PoolView.{pool_view}
use Rattle.mg_stream.specs.declared.pool.Pool.TheInside.{Inside}
use Rattle.mg_stream.proofs.PoolSteps.{whole_read, waiting_few, port_there, chain_read, Pushes, push_step}
use Rattle.mg_stream.proofs.pool.Pool.put.Goals as goal

pub push_last-requires-clause-whole : goal.push_last-requires-clause-whole
push_last-requires-clause-whole c = whole_read c.self.inside c.args.self.now c.args.port c.index.result.now c.self.view_is c.self.invariant c.requires.port c.index.ensures

pub push_last-requires-clause-few : goal.push_last-requires-clause-few
push_last-requires-clause-few c =
    let few = waiting_few c.self.inside.entries.slots c.index.result.now (whole_read c.self.inside c.args.self.now c.args.port c.index.result.now c.self.view_is c.self.invariant c.requires.port c.index.ensures) in
    omega (arith, few)

pub invariant_of-self : goal.invariant_of-self
invariant_of-self c =
    let p = c.self.inside in
    let old = c.index.result.now in
    let push = c.push_last in
    let now : Inside = record { entries = push.new.entries; chains = with_item p.chains c.args.port push.new.chain; room = p.room } in
    let there : c.args.port < length p.chains.items = port_there p c.args.self.now c.args.port c.self.view_is c.requires.port in
    let is = chain_read p.chains.items c.args.port old there c.index.ensures in
    let facts : Pushes p now old push.new.chain c.args.packet p.entries.vacant_key = record { entries = push.ensures.entries; chain = push.ensures.chain; vacant = push.ensures.vacant; others = push.ensures.others; len = push.ensures.len; capacity = push.ensures.capacity; room = refl } in
    let may : MayCome (queue_at (pool_view p) c.args.port) c.args.packet.at = subst (λ (v : Pooled Plain). MayCome (queue_at v c.args.port) c.args.packet.at) (sym c.self.view_is) c.requires.may_come in
    let some : 0 < (pool_view p).spare = subst (λ (v : Pooled Plain). 0 < v.spare) (sym c.self.view_is) c.requires.room in
    let step = push_step p now c.args.port p.entries.vacant_key old push.new.chain c.args.packet c.self.invariant there is refl may some facts in
    step.0

pub returns : goal.returns
returns c =
    let p = c.self.inside in
    let old = c.index.result.now in
    let push = c.push_last in
    let now : Inside = record { entries = push.new.entries; chains = with_item p.chains c.args.port push.new.chain; room = p.room } in
    let there : c.args.port < length p.chains.items = port_there p c.args.self.now c.args.port c.self.view_is c.requires.port in
    let is = chain_read p.chains.items c.args.port old there c.index.ensures in
    let facts : Pushes p now old push.new.chain c.args.packet p.entries.vacant_key = record { entries = push.ensures.entries; chain = push.ensures.chain; vacant = push.ensures.vacant; others = push.ensures.others; len = push.ensures.len; capacity = push.ensures.capacity; room = refl } in
    let may : MayCome (queue_at (pool_view p) c.args.port) c.args.packet.at = subst (λ (v : Pooled Plain). MayCome (queue_at v c.args.port) c.args.packet.at) (sym c.self.view_is) c.requires.may_come in
    let some : 0 < (pool_view p).spare = subst (λ (v : Pooled Plain). 0 < v.spare) (sym c.self.view_is) c.requires.room in
    let step = push_step p now c.args.port p.entries.vacant_key old push.new.chain c.args.packet c.self.invariant there is refl may some facts in
    step.1 ∙ ap (λ (v : Pooled Plain). with_queue v c.args.port (let q : Waiting Plain = record (with_packet (queue_at v c.args.port) c.args.packet) { spare = v.spare - 1 } in q)) c.self.view_is

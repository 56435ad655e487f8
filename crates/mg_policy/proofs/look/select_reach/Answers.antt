use Rattle.std.proofs.Common.{◌≡◌, ◌∙◌, ◌∷◌, sym, ap}
use Rattle.mg_value.specs.Payload.{Plain}
use Rattle.mg_settled.specs.Prefix.{StreamPrefix}
use Rattle.mg_stream.specs.Pool.{queues_of}
use Rattle.mg_policy.specs.Inbox.{rests}
use Rattle.mg_policy.proofs.PoolRests.{select-at, reach_from, reach_from-settled}
use Rattle.mg_policy.proofs.look.select_reach.Goals as goal

pub loop-packet-init : goal.loop-packet-init
loop-packet-init c =
    let pool = c.args.pool.now in
    let ss = rests (queues_of pool) in
    let all = c.into_iter-packet-iterator.ensures.into_iter_gives ∙ c.waits-packet-items.ensures
    ∙ sym (ap (λ (s : StreamPrefix Plain). s.packets) (select-at pool c.select_port-select.result c.select_port-select.ensures.number)) in
    record { can = tt; finite = tt; reach = ap (reach_from ss) all }

pub loop-packet-preserved : goal.loop-packet-preserved
loop-packet-preserved c =
    let ss = rests (queues_of c.args.pool.now) in
    let left : c.loop-packet.packet-iterator ≡ c.in-Some.packet.now ∷ c.next.new.self = c.in-Some.ensures.steps in
    record {
      can = tt;
      finite = tt;
      reach =
          sym (reach_from-settled ss c.in-Some.packet.now c.next.new.self (sym c.if-not-is_settled.ensures))
          ∙ sym (ap (reach_from ss) left)
          ∙ c.loop-packet.invariant.reach;
    }

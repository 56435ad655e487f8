use Rattle.std.proofs.Common.{◌≡◌, ◌<◌, ◌∙◌, Some, ltb, ap, sym, rules, arith, length}
use Rattle.mg_value.specs.Payload.{Plain}
use Rattle.mg_value.specs.Packet.{Stamped}
use Rattle.mg_settled.specs.Prefix.{StreamPrefix}
use Rattle.mg_settled.specs.Settled.{selected}
use Rattle.mg_settled.proofs.MuxSets.{selected_another}
use Rattle.mg_stream.specs.Pool.{queues_of}
use Rattle.mg_policy.specs.Inbox.{rests}
use Rattle.mg_policy.proofs.PoolRests.{rests-long, rest-at, settled-by}
use Rattle.mg_policy.proofs.selecting.is_settled.Goals as goal

pub returns-in-Some : goal.returns-in-Some
returns-in-Some c =
    let pool = c.args.pool.now in
    let p = c.args.packet.now in
    let port = c.in-Some.port in
    let long : c.ports.result ≡ length pool.ports = c.ports.ensures.ports in
    let at : c.packet.inside.at ≡ p.at = ap (λ (q : Stamped Plain). q.at) c.packet.view_is in
    let chosen : selected c.ports.result p.value ≡ Some port = ap (λ (q : Stamped Plain). selected c.ports.result q.value) (sym c.packet.view_is) ∙ cc (c.deref.ensures, c.selected.ensures, c.in-Some.is) in
    let there : port < length pool.ports = (let another = selected_another c.ports.result p.value port chosen in omega (arith, another, long)) in
    let tests : c.lt.result ≡ ltb c.packet.inside.at c.bound.result = search rules in
    tests
    ∙ ap (λ t. ltb t c.bound.result) at
    ∙ sym (settled-by (rests (queues_of pool)) p c.ports.result port c.bound.result (rests-long pool ∙ sym long) chosen (ap (λ (s : StreamPrefix Plain). s.bound) (rest-at pool port there) ∙ sym c.bound.ensures))

use Rattle.std.proofs.Common.{◌≡◌, ℕ, ◌<◌, ◌∙◌, Bool, List, Option, None, cond, length, length-set, get_or, ap, ap₂, sym, arith}
use Rattle.std.proofs.lemmas.List.{get_or_default}
use Rattle.mg_value.specs.Payload.{Plain}
use Rattle.mg_value.specs.Packet.{Stamped}
use Rattle.mg_settled.specs.Prefix.{StreamPrefix}
use Rattle.mg_settled.specs.Settled.{packet_at, port_of, shows}
use Rattle.mg_settled.specs.FirstSet.{is_shown}
use Rattle.mg_settled.proofs.SetSteps.{shown-set, shown-is, place-more, mapped-more, mapped-later}
use Rattle.mg_stream.specs.Pool.{Backlog, Pooled, empty_backlog, queues_of}
use Rattle.mg_policy.specs.Inbox.{rests}
use Rattle.mg_policy.proofs.Answered.{told_time}
use Rattle.mg_policy.proofs.PoolRests.{rests-long, rest-at, rests-prefixes}
use Rattle.mg_policy.proofs.Claims.{taken, room_taken, mapped_long}
use Rattle.mg_policy.proofs.taking.take_set.Goals as goal

pub loop-port-preserved : goal.loop-port-preserved
loop-port-preserved c =
    let old = c.args.pool.now in
    let pool = c.loop-port.pool in
    let ss = rests (queues_of old) in
    let at = c.args.at in
    let policy = c.args.policy in
    let i = c.loop-port.port in
    let was = c.loop-port.invariant in
    let next = told_time policy (queues_of old) at (rests-prefixes old c.ports-ports.ensures.rests) c.requires.next in
    let in_old : i < length old.ports = (let end = c.loop-port-test.true in let long = c.ports-ports.ensures.ports in omega (arith, end, long)) in
    let b : Backlog Plain = get_or pool.ports i empty_backlog in
    let same : b ≡ get_or old.ports i empty_backlog = ap (λ (bs : List (Backlog Plain)). get_or bs i empty_backlog) was.ports ∙ mapped-later (taken at) old.ports i empty_backlog in_old in
    let is : b ≡ get_or old.ports i b = same ∙ get_or_default old.ports i empty_backlog b in_old in
    let in_pool : i < length pool.ports = omega (arith, in_old, ap (λ (bs : List (Backlog Plain)). length bs) was.ports, mapped_long (taken at) old.ports i) in
    let want : ℕ → Option (Stamped Plain) = λ k. cond (shows policy ss at k) (packet_at at (port_of ss k).packets) None in
    let ports : c.ports-ports.result ≡ length ss = c.ports-ports.ensures.ports ∙ sym (rests-long old) in
    let shown : c.is_shown-shown.result ≡ shows policy ss at i =
    c.is_shown-shown.ensures
    ∙ ap₂ (λ (n : ℕ) (chosen : Option ℕ). is_shown policy n chosen i) ports c.chosen_port-chosen.ensures
    ∙ shown-is policy ss at i next in
    let packet : c.where_shown.result ≡ want i =
    c.where_shown.ensures
    ∙ ap₂ (λ (s : Bool) (o : Option (Stamped Plain)). cond s o None) shown
    (c.take_through-packet.ensures.packet ∙ ap (λ (r : Backlog Plain). packet_at at r.packets) same ∙ sym (ap (λ (s : StreamPrefix Plain). packet_at at s.packets) (rest-at old i in_old))) in
    let places = was.places in
    let in_set : i < length c.loop-port.into = omega (arith, in_old, places) in
    let took = c.take_through-packet.ensures.pool in
    record {
      places = ap length c.put.ensures ∙ length-set c.loop-port.into i c.where_shown.result ∙ places;
      set = rw c.put.ensures (place-more c.loop-port.into want i c.where_shown.result in_set packet was.set);
      ports = ap (λ (v : Pooled Plain). v.ports) took ∙ mapped-more (taken at) old.ports pool.ports i b in_old is was.ports;
      room = room_taken pool c.take_through-packet.new.pool i at in_pool took ∙ was.room;
    }

pub returns-clause-set : goal.returns-clause-set
returns-clause-set c =
    let old = c.args.pool.now in
    let ss = rests (queues_of old) in
    let long = rests-long old in
    let prefixes = rests-prefixes old c.ports-ports.ensures.rests in
    shown-set c.args.policy ss c.args.at c.loop-port.into prefixes (told_time c.args.policy (queues_of old) c.args.at prefixes c.requires.next) (c.loop-port.invariant.places ∙ sym long)
    (λ k there. c.loop-port.invariant.set k (let end = c.loop-port-test.false in let ports = c.ports-ports.ensures.ports in omega (arith, there, long, end, ports)))

pub returns-clause-prefixes : goal.returns-clause-prefixes
returns-clause-prefixes c = rests-prefixes c.args.pool.now c.ports-ports.ensures.rests

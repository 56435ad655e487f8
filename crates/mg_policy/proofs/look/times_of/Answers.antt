use Rattle.std.proofs.Common.{◌≡◌, ◌<◌, ◌≤◌, ◌∙◌, List, min, length, unwrap_or, ap, sym, arith}
use Rattle.std.proofs.lemmas.List.{get_or_default, take_all}
use Rattle.mg_time.specs.Time.{done}
use Rattle.mg_value.specs.Payload.{Plain}
use Rattle.mg_settled.specs.Prefix.{StreamPrefix, closed, empty_prefix, first_time}
use Rattle.mg_settled.specs.Settled.{low, port_of}
use Rattle.mg_settled.specs.FirstSet.{earliest}
use Rattle.mg_settled.proofs.Looking.{low-more, earliest-more}
use Rattle.mg_stream.specs.Pool.{queues_of, queue_at}
use Rattle.mg_policy.specs.Inbox.{rests}
use Rattle.mg_policy.proofs.PoolRests.{rests-long, rest-at, rests-prefixes, first_time-is}
use Rattle.mg_policy.proofs.look.times_of.Goals as goal

pub loop-port-preserved : goal.loop-port-preserved
loop-port-preserved c =
    let pool = c.args.pool.now in
    let ss = rests (queues_of pool) in
    let i = c.loop-port.port in
    let in_pool : i < length pool.ports = (let end = c.loop-port-test.true in let long = c.ports-port-end.ensures.ports in omega (arith, end, long)) in
    let below : i < length ss = (let long = rests-long pool in omega (arith, in_pool, long)) in
    let here = rest-at pool i in_pool in
    let is : port_of ss i ≡ _ = get_or_default ss i (closed empty_prefix) (port_of ss i) below in
    record {
      earliest =
          c.lesser-earliest.ensures
          ∙ ap (min c.loop-port.earliest) (c.unwrap_or-first.ensures ∙ ap (λ o. unwrap_or o done) c.first.ensures.first ∙ first_time-is (queue_at pool i).packets done
          ∙ sym (ap (λ (s : StreamPrefix Plain). first_time s.packets done) here))
          ∙ earliest-more ss i (port_of ss i) c.loop-port.earliest below is c.loop-port.invariant.earliest;
      low =
          c.lesser-low.ensures
          ∙ ap (min c.loop-port.low) (c.bound.ensures ∙ sym (ap (λ (s : StreamPrefix Plain). s.bound) here))
          ∙ low-more ss i (port_of ss i) c.loop-port.low below is c.loop-port.invariant.low;
    }

pub returns-clause-earliest : goal.returns-clause-earliest
returns-clause-earliest c =
    let ss = rests (queues_of c.args.pool.now) in
    let all : length ss ≤ c.loop-port.port = (let end = c.loop-port-test.false in let long = c.ports-port-end.ensures.ports in let as_many = rests-long c.args.pool.now in omega (arith, end, long, as_many)) in
    c.loop-port.invariant.earliest ∙ ap (λ (rs : List (StreamPrefix Plain)). earliest rs) (take_all c.loop-port.port ss all)

pub returns-clause-low : goal.returns-clause-low
returns-clause-low c =
    let ss = rests (queues_of c.args.pool.now) in
    let all : length ss ≤ c.loop-port.port = (let end = c.loop-port-test.false in let long = c.ports-port-end.ensures.ports in let as_many = rests-long c.args.pool.now in omega (arith, end, long, as_many)) in
    c.loop-port.invariant.low ∙ ap (λ (rs : List (StreamPrefix Plain)). low rs) (take_all c.loop-port.port ss all)

pub returns-clause-prefixes : goal.returns-clause-prefixes
returns-clause-prefixes c = rests-prefixes c.args.pool.now c.ports-port-end.ensures.rests

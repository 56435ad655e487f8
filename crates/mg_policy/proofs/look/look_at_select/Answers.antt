use Rattle.std.proofs.Common.{◌∙◌, subst, ap, sym, eqb-true, eq-eqb}
use Rattle.mg_time.specs.Time.{done}
use Rattle.mg_value.specs.Payload.{Plain}
use Rattle.mg_settled.specs.Prefix.{StreamPrefix, IsPrefix}
use Rattle.mg_settled.specs.Settled.{select_of}
use Rattle.mg_stream.specs.Pool.{queues_of, queue_at}
use Rattle.mg_policy.specs.Inbox.{rests}
use Rattle.mg_policy.proofs.PoolRests.{select-at, reach-none, reach-unsettled}
use Rattle.mg_policy.proofs.look.look_at_select.Goals as goal

pub returns-in_default-clause-ended : goal.returns-in_default-clause-ended
returns-in_default-clause-ended c =
    let pool = c.args.pool.now in
    let ss = rests (queues_of pool) in
    let select = select-at pool c.select_port-select.result c.select_port-select.ensures.number in
    let reach = reach-none ss (queue_at pool c.select_port-select.result).packets (ap (λ (s : StreamPrefix Plain). s.packets) select) (sym c.in_default.ensures.front)
    ∙ ap (λ (s : StreamPrefix Plain). s.bound) select ∙ sym c.bound.ensures in (
      (λ ended. reach ∙ eqb-true c.bound.result done (sym c.eq.ensures ∙ ended)),
      (λ ended. c.eq.ensures ∙ eq-eqb c.bound.result done (sym reach ∙ ended)),
    )

pub returns-clause-ended : goal.returns-clause-ended
returns-clause-ended c =
    let pool = c.args.pool.now in
    let ss = rests (queues_of pool) in
    let select = select-at pool c.select_port-select.result c.select_port-select.ensures.number in
    let prefix : IsPrefix (select_of ss) = subst (λ (s : StreamPrefix Plain). IsPrefix s) (sym select) c.front.ensures.rest in (
      (λ no. absurd cc),
      (λ ended. absurd (reach-unsettled ss (queue_at pool c.select_port-select.result).packets c.in-Some.packet.now prefix (ap (λ (s : StreamPrefix Plain). s.packets) select)
          (sym c.in-Some.ensures.front) (sym c.if-is_settled.ensures) ended)),
    )

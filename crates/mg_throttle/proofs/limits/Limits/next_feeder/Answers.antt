use Rattle.std.proofs.Common.{ap, sym, subst, length, arith}
use Rattle.mg_throttle.specs.Throttle.{QueueLimits, AreLimitsOf, IsThrottled, FeederReaches}
use Rattle.mg_throttle.proofs.Firsts.{FindsFirst, if_found, if_none_found, row_len, found_feeder, missed_feeder}
use Rattle.mg_throttle.proofs.limits.Limits.next_feeder.Goals as goal

pub uncounted-requires : goal.uncounted-requires
uncounted-requires c = row_len c.self.inside.queues.items c.self.inside.rows.items c.self.inside.counts.items _ c.args.node c.index.result.now c.self.invariant.0
    (let rows = ap (λ (t : QueueLimits). length t.reached) c.self.view_is in omega arith) c.index.ensures c.deref.ensures.value

pub returns-clause-place : goal.returns-clause-place
returns-clause-place c = if_found _ _ c.args.from _ c.uncounted.result (subst (λ counts. FindsFirst c.index.result.now counts c.args.from c.uncounted.result) c.deref.ensures.value c.uncounted.ensures)
    (λ number first. let count = ap (λ (t : QueueLimits). t.feeders) c.self.view_is in let below = first.below in (first.above, omega (arith, below, count)))

pub returns-clause-found : goal.returns-clause-found
returns-clause-found c = if_found _ _ c.args.from _ c.uncounted.result (subst (λ counts. FindsFirst c.index.result.now counts c.args.from c.uncounted.result) c.deref.ensures.value c.uncounted.ensures)
    (λ number first plan f of at. subst (λ (t : QueueLimits). FeederReaches plan f c.args.node × ¬ IsThrottled plan t f) c.self.view_is
    (found_feeder c.self.inside.queues.items c.self.inside.rows.items c.self.inside.counts.items _ c.args.node c.index.result.now c.self.invariant.0
    (let rows = ap (λ (t : QueueLimits). length t.reached) c.self.view_is in omega arith) c.index.ensures plan (subst (AreLimitsOf plan) (sym c.self.view_is) of) c.args.from number f first at))

pub returns-clause-first : goal.returns-clause-first
returns-clause-first c = if_found _ _ c.args.from _ c.uncounted.result (subst (λ counts. FindsFirst c.index.result.now counts c.args.from c.uncounted.result) c.deref.ensures.value c.uncounted.ensures)
    (λ number first plan before f of at low less reaches. subst (λ (t : QueueLimits). IsThrottled plan t f) c.self.view_is
    (missed_feeder c.self.inside.queues.items c.self.inside.rows.items c.self.inside.counts.items _ c.args.node c.index.result.now c.self.invariant.0
    (let rows = ap (λ (t : QueueLimits). length t.reached) c.self.view_is in omega arith) c.index.ensures plan (subst (AreLimitsOf plan) (sym c.self.view_is) of) c.args.from number before f first.none (λ _. less) at low reaches))

pub returns-clause-none : goal.returns-clause-none
returns-clause-none c = if_none_found _ _ c.args.from _ c.uncounted.result (subst (λ counts. FindsFirst c.index.result.now counts c.args.from c.uncounted.result) c.deref.ensures.value c.uncounted.ensures)
    (λ none plan number f of at low reaches. subst (λ (t : QueueLimits). IsThrottled plan t f) c.self.view_is
    (missed_feeder c.self.inside.queues.items c.self.inside.rows.items c.self.inside.counts.items _ c.args.node c.index.result.now c.self.invariant.0
    (let rows = ap (λ (t : QueueLimits). length t.reached) c.self.view_is in omega arith) c.index.ensures plan (subst (AreLimitsOf plan) (sym c.self.view_is) of) c.args.from (length c.self.inside.counts.items) number f none (λ within. within) at low reaches))

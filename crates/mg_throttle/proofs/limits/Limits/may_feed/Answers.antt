use Rattle.std.proofs.Common.{◌≡◌, ◌↔◌, subst, sym, ap, eqb, false, arith}
use Rattle.mg_throttle.specs.Throttle.{AreLimitsOf, IsThrottled}
use Rattle.mg_throttle.proofs.Pressing.{throttled_by_count}
use Rattle.mg_throttle.proofs.limits.Limits.may_feed.Goals as goal

pub returns : goal.returns
returns c plan feeder of at =
    let counts = ap (λ t. t.feeders) c.self.view_is in
    subst (λ t. (eqb c.index.result.now 0 ≡ false) ↔ IsThrottled plan t feeder) c.self.view_is
    (throttled_by_count c.self.inside.queues.items c.self.inside.rows.items c.self.inside.counts.items _ c.args.feeder c.index.result.now c.self.invariant.0 (omega arith) c.index.ensures
    plan feeder (subst (AreLimitsOf plan) (sym c.self.view_is) of) at)

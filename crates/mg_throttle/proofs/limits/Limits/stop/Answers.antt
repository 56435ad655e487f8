use Rattle.std.proofs.Common.{◌∙◌, ap, sym, subst, map, length, arith}
use Rattle.mg_throttle.specs.Throttle.{stopped, AreLimitsOf}
use Rattle.mg_throttle.proofs.Counts.{whole, AreLimitsOf-stopped, limits_with}
use Rattle.mg_throttle.proofs.Listing.{listed_stopped}
use Rattle.mg_throttle.proofs.Pressing.{enough_stopped, IsKept-stopped, IsKept-stopped_none}
use Rattle.mg_throttle.proofs.limits.Limits.stop.Goals as goal

pub change-requires-clause-enough : goal.change-requires-clause-enough
change-requires-clause-enough c =
    let nodes = ap (λ t. length t.reached) c.self.view_is in
    enough_stopped c.self.inside.queues.items c.deref_mut.result.now c.self.inside.rows.items c.self.inside.counts.items _ c.args.node _ _ c.self.invariant.0 (omega arith)
    c.deref_mut.ensures.value c.stop_queues-full.ensures.full c.index.ensures c.deref_mut-then-full-gt0.ensures.value

pub invariant_of-self : goal.invariant_of-self
invariant_of-self c =
    let nodes = ap (λ t. length t.reached) c.self.view_is in
    let again = whole c.self.inside.queues.len c.stop_queues-full.new.queues c.self.inside.queues.items (omega arith) in
    let new = c.stop_queues-full.ensures.queues ∙ ap (map (stopped c.args.node)) c.deref_mut.ensures.value in
    let counts = whole c.self.inside.counts.len c.change.new.counts c.self.inside.counts.items (omega arith) in (
      rw (again, new, counts)
          (IsKept-stopped c.self.inside.queues.items c.deref_mut.result.now c.self.inside.rows.items c.self.inside.counts.items _ _ c.args.node _ _ c.self.invariant.0 (omega arith)
          c.deref_mut.ensures.value c.stop_queues-full.ensures.full c.index.ensures c.deref_mut-then-full-gt0.ensures.value c.change.ensures),
      rw (again, new) (listed_stopped c.args.node c.self.inside.queues.items c.self.inside.listed c.self.invariant.1),
    )

pub invariant_of-self-else-full-gt0 : goal.invariant_of-self-else-full-gt0
invariant_of-self-else-full-gt0 c =
    let again = whole c.self.inside.queues.len c.stop_queues-full.new.queues c.self.inside.queues.items (omega arith) in
    let new = c.stop_queues-full.ensures.queues ∙ ap (map (stopped c.args.node)) c.deref_mut.ensures.value in (
      rw (again, new)
          (IsKept-stopped_none c.self.inside.queues.items c.deref_mut.result.now c.self.inside.rows.items c.self.inside.counts.items c.args.node _ c.self.invariant.0
          c.deref_mut.ensures.value c.stop_queues-full.ensures.full c.if-full-gt0.false),
      rw (again, new) (listed_stopped c.args.node c.self.inside.queues.items c.self.inside.listed c.self.invariant.1),
    )

pub returns-then-full-gt0-clause-of : goal.returns-then-full-gt0-clause-of
returns-then-full-gt0-clause-of c plan of =
    let again = whole c.self.inside.queues.len c.stop_queues-full.new.queues c.self.inside.queues.items (omega arith) in
    let new = c.stop_queues-full.ensures.queues ∙ ap (map (stopped c.args.node)) c.deref_mut.ensures.value in
    subst (λ qs. AreLimitsOf plan (limits_with qs c.self.inside.rows.items c.self.inside.counts.len)) (sym (again ∙ new))
    (AreLimitsOf-stopped c.args.node c.self.inside.queues.items c.self.inside.rows.items _ _ c.self.view_is plan of)

pub returns-else-full-gt0-clause-of : goal.returns-else-full-gt0-clause-of
returns-else-full-gt0-clause-of c plan of =
    let again = whole c.self.inside.queues.len c.stop_queues-full.new.queues c.self.inside.queues.items (omega arith) in
    let new = c.stop_queues-full.ensures.queues ∙ ap (map (stopped c.args.node)) c.deref_mut.ensures.value in
    subst (λ qs. AreLimitsOf plan (limits_with qs c.self.inside.rows.items c.self.inside.counts.len)) (sym (again ∙ new))
    (AreLimitsOf-stopped c.args.node c.self.inside.queues.items c.self.inside.rows.items _ _ c.self.view_is plan of)

use Rattle.std.proofs.Common.{◌≡◌, List, ◌++◌, length, replicate, take, drop, ◌∙◌, ap, sym, subst, map, arith}
use Rattle.std.specs.List.{list_any}
use Rattle.mg_throttle.specs.declared.queue.Queue.{Queue}
use Rattle.mg_throttle.specs.Throttle.{QueueLimits, is_full, relaxed, AreLimitsOf}
use Rattle.mg_throttle.specs.Code.Kept.{IsKept, AreListed}
use Rattle.mg_throttle.proofs.Counts.{whole, IsKept-relaxed, AreLimitsOf-relaxed, limits_with}
use Rattle.mg_throttle.proofs.Listing.{listed_relaxed, none_counted, none_relaxed}
use Rattle.mg_throttle.proofs.limits.Limits.relax.Goals as goal

pub relax_listed-any-requires-clause-listed : goal.relax_listed-any-requires-clause-listed
relax_listed-any-requires-clause-listed c = subst (λ qs. AreListed qs c.self.inside.listed) (sym c.deref_mut.ensures.value) c.self.invariant.1

pub clear-requires : goal.clear-requires
clear-requires c = record {
  zeros = λ is.
      let any = c.relax_listed-any.ensures.any ∙ ap (list_any is_full) c.deref_mut.ensures.value in
      subst (λ ns. ns ≡ replicate (length ns) 0) (sym c.deref_mut-2.ensures.value)
      (none_counted c.self.inside.queues.items c.self.inside.rows.items c.self.inside.counts.items c.self.invariant.0 (sym any ∙ is));
}

pub invariant_of-self : goal.invariant_of-self
invariant_of-self c =
    let again = whole c.self.inside.queues.len c.relax_listed-any.new.queues c.self.inside.queues.items (omega arith) in
    let new = c.relax_listed-any.ensures.relaxed ∙ ap (map relaxed) c.deref_mut.ensures.value in (
      subst (λ qs. IsKept qs c.self.inside.rows.items (take c.self.inside.counts.len (c.clear.new.counts ++ drop (length c.clear.new.counts) c.self.inside.counts.items))) (sym (again ∙ new))
          (IsKept-relaxed c.self.inside.queues.items c.self.inside.rows.items _ _ _ c.self.invariant.0
          (whole c.self.inside.counts.len c.clear.new.counts c.self.inside.counts.items (omega arith) ∙ c.clear.ensures.zeros) (ap length c.deref_mut-2.ensures.value)),
      subst (λ qs. AreListed qs c.relax_listed-any.new.listed) (sym (again ∙ new))
          (listed_relaxed c.self.inside.queues.items c.self.inside.listed c.relax_listed-any.new.listed c.self.invariant.1 c.relax_listed-any.ensures.order),
    )

pub returns-clause-of : goal.returns-clause-of
returns-clause-of c plan of =
    let again = whole c.self.inside.queues.len c.relax_listed-any.new.queues c.self.inside.queues.items (omega arith) in
    let new = c.relax_listed-any.ensures.relaxed ∙ ap (map relaxed) c.deref_mut.ensures.value in
    subst (λ qs. AreLimitsOf plan (limits_with qs c.self.inside.rows.items c.self.inside.counts.len)) (sym (again ∙ new))
    (AreLimitsOf-relaxed c.self.inside.queues.items c.self.inside.rows.items _ _ c.self.view_is plan of)

pub returns-clause-relaxed : goal.returns-clause-relaxed
returns-clause-relaxed c =
    let again = whole c.self.inside.queues.len c.relax_listed-any.new.queues c.self.inside.queues.items (omega arith) in
    let new = c.relax_listed-any.ensures.relaxed ∙ ap (map relaxed) c.deref_mut.ensures.value in
    ap (λ qs. limits_with qs c.self.inside.rows.items c.self.inside.counts.len) (again ∙ new)
    ∙ ap (λ (t : QueueLimits). (let u : QueueLimits = record t { queues = map relaxed t.queues } in u)) c.self.view_is

pub returns-clause-none : goal.returns-clause-none
returns-clause-none c = λ is.
    let any = c.relax_listed-any.ensures.any ∙ ap (list_any is_full) c.deref_mut.ensures.value ∙ ap (λ (t : QueueLimits). list_any is_full t.queues) c.self.view_is in
    returns-clause-relaxed c ∙ ap (λ (qs : List Queue). (let u : QueueLimits = record c.args.self.now { queues = qs } in u)) (none_relaxed c.args.self.now.queues (sym any ∙ is))

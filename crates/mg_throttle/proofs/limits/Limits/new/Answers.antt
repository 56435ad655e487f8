use Rattle.std.proofs.Common.{ℕ, ◌≡◌, ◌∙◌, ap, sym, subst, map, length, arith}
use Rattle.std.proofs.lemmas.List.{length-replicate, length-map}
use Rattle.mg_calc.specs.Plan.{HasEachOnce}
use Rattle.mg_throttle.proofs.Listing.{listed_fresh}
use Rattle.mg_throttle.specs.Throttle.{new_queue}
use Rattle.mg_throttle.specs.Code.Reach.{sources_among}
use Rattle.mg_throttle.proofs.Feeding.{length-feeders}
use Rattle.mg_throttle.proofs.Pressing.{IsKept-fresh, AreLimitsOf-fresh, none_full}
use Rattle.mg_throttle.proofs.limits.Limits.new.Goals as goal

pub invariant_of-result : goal.invariant_of-result
invariant_of-result c =
    let found = ap length c.in_ok-sources.ensures ∙ ap (λ n. length (sources_among n)) c.as_slice.ensures in
    let edges = c.requires.ranges.edges in
    let new = c.in_ok-queues.ensures ∙ ap (λ n. map (new_queue n c.limit_of-limit.result) c.as_slice-3.result.now) c.len-3.ensures
    ∙ ap (map (new_queue (length c.args.plan.now.nodes) c.limit_of-limit.result)) c.as_slice-3.ensures in
    let long : length c.in_ok-queues.queues.items ≡ length c.args.plan.now.edges = ap length new ∙ length-map c.args.plan.now.edges (new_queue (length c.args.plan.now.nodes) c.limit_of-limit.result) in
    let numbers : HasEachOnce (length c.in_ok-queues.queues.items) c.in_ok-numbers.numbers = subst (λ n. HasEachOnce n c.in_ok-numbers.numbers) (c.len-4.ensures ∙ sym long) c.in_ok-numbers.ensures in (
      IsKept-fresh c.args.plan.now c.requires _ _ _ c.limit_of-limit.result _ _ c.limit_of-limit.ensures (omega arith) new c.in_ok-rows.ensures.shape c.in_ok-counts.ensures
          (omega (arith, length-feeders c.args.plan.now, c.len-2.ensures, c.len.ensures)),
      listed_fresh _ c.in_ok-listed.listed (none_full _ _ _ _ _ c.limit_of-limit.ensures new)
          (subst (λ r. HasEachOnce (length c.in_ok-queues.queues.items) r.order) (sym c.in_ok-listed.ensures) numbers),
    )

pub returns-clause-of : goal.returns-clause-of
returns-clause-of c =
    let found = ap length c.in_ok-sources.ensures ∙ ap (λ n. length (sources_among n)) c.as_slice.ensures in
    let new = c.in_ok-queues.ensures ∙ ap (λ n. map (new_queue n c.limit_of-limit.result) c.as_slice-3.result.now) c.len-3.ensures
    ∙ ap (map (new_queue (length c.args.plan.now.nodes) c.limit_of-limit.result)) c.as_slice-3.ensures in
    AreLimitsOf-fresh c.args.plan.now _ _ _ c.limit_of-limit.result new c.in_ok-rows.ensures.shape
    (omega (arith, ap length c.in_ok-counts.ensures, length-replicate {A = ℕ}, length-feeders c.args.plan.now, c.len-2.ensures, c.len.ensures)) c.in_ok-rows.ensures.reached

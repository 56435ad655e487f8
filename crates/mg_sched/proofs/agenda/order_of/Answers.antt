use Rattle.std.proofs.Common.{◌≡◌, ◌+◌, suc, ℕ, List, [], ◌∷◌, ◌++◌, length, vec_len, ap, sym, subst, ◌∙◌, arith}
use Rattle.std.specs.List.{range_with_len}
use Rattle.mg_calc.specs.Plan.{HasEachOnce}
use Rattle.mg_throttle.proofs.Ranges.{range_more, each_once_before}
use Rattle.mg_sched.proofs.agenda.order_of.Goals as goal

pub loop-place-preserved : goal.loop-place-preserved
loop-place-preserved c =
    let nodes = length c.args.plan.now.nodes in
    let so_far = vec_len c.loop-place.places in
    let place = c.loop-place.place in
    let one : suc so_far ≡ vec_len c.push.new.self = omega (arith, c.in_ok-push.ensures.len) in record {
      count = omega (arith, c.loop-place.invariant.count, one);
      places = c.in_ok-push.ensures.items
          ∙ (ap (λ (l : List ℕ). l ++ place ∷ []) c.loop-place.invariant.places
          ∙ (sym (range_more nodes so_far place c.loop-place.invariant.count) ∙ ap (range_with_len nodes) one));
    }

pub returns-clause-each : goal.returns-clause-each
returns-clause-each c =
    let plan = c.args.plan.now in
    let so_far = vec_len c.loop-place.places in
    let last : length plan.nodes + so_far ≡ c.args.count = omega (arith, c.loop-place.invariant.count, c.loop-place-test.false, c.loop-place.auto.place-end, c.len-place.ensures, c.requires.count) in
    let places = c.in_ok-from_vec.ensures.entries
    ∙ (c.in_ok-extend_from_slice.ensures.items
    ∙ (ap (λ (l : List ℕ). l ++ c.as_slice.result.now) c.loop-place.invariant.places
    ∙ ap (λ (l : List ℕ). range_with_len (length plan.nodes) so_far ++ l) c.as_slice.ensures)) in
    subst (HasEachOnce c.args.count) (sym places) (each_once_before (length plan.nodes) so_far c.args.count plan.order last c.requires.valid.order)

pub returns-clause-order : goal.returns-clause-order
returns-clause-order c =
    let plan = c.args.plan.now in
    let so_far = vec_len c.loop-place.places in
    let last : so_far ≡ length plan.inputs = omega (arith, c.loop-place.invariant.count, c.loop-place-test.false, c.loop-place.auto.place-end, c.len-place.ensures, c.requires.count) in
    c.in_ok-from_vec.ensures.entries
    ∙ (c.in_ok-extend_from_slice.ensures.items
    ∙ (ap (λ (l : List ℕ). l ++ c.as_slice.result.now) c.loop-place.invariant.places
    ∙ (ap (λ (l : List ℕ). range_with_len (length plan.nodes) so_far ++ l) c.as_slice.ensures
    ∙ ap (λ (n : ℕ). range_with_len (length plan.nodes) n ++ plan.order) last)))

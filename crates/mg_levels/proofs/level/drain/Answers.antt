use Rattle.std.proofs.Common.{arith, refl, ap, ◌∙◌, ◌≡◌, ◌<◌, ◌≤◌, ◌+◌, length, ◌++◌, vec_len, vec_capacity, ◌∷◌, [], subst}
use Rattle.crossbeam_queue.specs.Passes.{view, ruled_capacity}
use Rattle.mg_levels.specs.declared.share.Share.{Share}
use Rattle.mg_levels.specs.Balance.{whole}
use Rattle.mg_levels.specs.Code.Drained.{IsDraining}
use Rattle.mg_levels.proofs.Shares.{takes, learns}
use Rattle.mg_levels.proofs.Draining.{left_then, goes_on, drained, length_then}
use Rattle.mg_levels.proofs.level.drain.Goals as goal

pub len_as-count-requires-clause-rule : goal.len_as-count-requires-clause-rule
len_as-count-requires-clause-rule g c = learns _ _

pub pop_as-requires-clause-rule : goal.pop_as-requires-clause-rule
pop_as-requires-clause-rule g c =
    let p : (view c.loop-done.pass).portion ≡ whole = ap (λ (s : Share). s.portion) c.loop-done.invariant.1.now_is ∙ c.requires.whole in
    (takes _ _ (omega (arith, p)), learns _ _)

pub push_reserved-requires : goal.push_reserved-requires
push_reserved-requires g c =
    let room : length c.args.left.now.items + ruled_capacity c.args.queue.now ≤ vec_capacity c.args.left.now = c.requires.room in
    let size : vec_capacity c.loop-done.left ≡ vec_capacity c.args.left.now = c.loop-done.invariant.0.1 in
    let few : c.len_as-count.result ≤ ruled_capacity c.args.queue.now = c.len_as-count.ensures.rule.0 in
    let test : c.loop-done._done < c.len_as-count.result = c.loop-done-test.true in
    let long : length c.loop-done.left.items ≡ length c.args.left.now.items + c.loop-done._done = length_then _ _ _ _ _ _ c.loop-done.invariant.1 in
    let len : vec_len c.loop-done.left ≡ length c.loop-done.left.items = c.loop-done.left.ok.0 in
    omega (arith, room, size, few, test, long, len)

pub unreachable-requires : goal.unreachable-requires
unreachable-requires g c =
    let all = left_then c.args.order.now (view c.args.hand.pass) (view c.loop-done.pass) c.args.left.now.items c.loop-done.left.items c.loop-done._done c.len_as-count.result 0
    c.loop-done.invariant.1 c.requires.whole c.len_as-count.ensures.rule.1 c.in-None.ensures.rule.1 in
    let test : c.loop-done._done < c.len_as-count.result = c.loop-done-test.true in
    omega (arith, all, test)

pub loop-done-preserved : goal.loop-done-preserved
loop-done-preserved g c =
    let same = c.in-Some.ensures.queue in
    let was = c.loop-done.invariant in (
      ((same.0 ∙ was.0.0.0, same.2 ∙ was.0.0.1), c.push_reserved.ensures.capacity ∙ was.0.1),
      goes_on _ _ _ _ _ _ _ _ _ was.1 c.in-Some.ensures.rule (c.push_reserved.ensures.items ∙ ap (λ x. c.loop-done.left.items ++ x ∷ []) c.node_in.ensures),
    )

pub learn_as-requires-clause-rule : goal.learn_as-requires-clause-rule
learn_as-requires-clause-rule g c = learns _ _

pub returns-clause-left : goal.returns-clause-left
returns-clause-left g c =
    let over : c.len_as-count.result ≤ c.loop-done._done = c.loop-done-test.false in
    let within : c.loop-done._done ≤ c.len_as-count.result = c.loop-done.auto._done-end in
    let all : c.loop-done._done ≡ c.len_as-count.result = omega (arith, over, within) in
    let d = subst (λ n. IsDraining n c.args.order.now (view c.args.hand.pass) (view c.loop-done.pass) c.args.left.now.items c.loop-done.left.items) all c.loop-done.invariant.1 in
    drained _ _ _ _ _ _ _ _ d refl c.requires.whole c.len_as-count.ensures.rule.1 c.learn_as.ensures.rule c.len_as-count.ensures.rule.0

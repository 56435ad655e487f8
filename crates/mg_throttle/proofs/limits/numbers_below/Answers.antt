use Rattle.std.proofs.Common.{suc, ◌≡◌, ◌+◌, ◌∙◌, ◌++◌, ◌∷◌, [], ap, sym, subst, arith}
use Rattle.std.specs.List.{range_with_len}
use Rattle.mg_calc.specs.Plan.{HasEachOnce}
use Rattle.mg_throttle.proofs.Ranges.{range_more, each_below}
use Rattle.mg_throttle.proofs.limits.numbers_below.Goals as goal

pub loop-number-preserved : goal.loop-number-preserved
loop-number-preserved c =
    let n = c.loop-number.number in
    let next : suc n ≡ n + 1 = omega arith in
    c.in_ok-push.ensures.items ∙ ap (λ l. l ++ n ∷ []) c.loop-number.invariant ∙ sym (range_more 0 n n (omega arith)) ∙ ap (range_with_len 0) next

pub returns : goal.returns
returns c =
    let all : c.loop-number.number ≡ c.args.count = omega (arith, c.loop-number-test.false, c.loop-number.auto.number-end) in
    subst (HasEachOnce c.args.count) (sym (c.in_ok-from_vec.ensures.entries ∙ c.loop-number.invariant ∙ ap (range_with_len 0) all)) (each_below c.args.count)

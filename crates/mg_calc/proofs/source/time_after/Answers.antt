use Rattle.std.proofs.Common.{◌≡◌, ◌∙◌, ap, pos, ◌+ℤ◌, ◌*ℤ◌, arith, rules, w64}
use Rattle.std.proofs.lemmas.Int.{ints, to_z-of_z}
use Rattle.mg_calc.proofs.source.time_after.Goals as goal

pub returns : goal.returns
returns c =
    let sum : c.in-Ok.sum ≡ c.args.start +ℤ c.steps.result = omega (arith, ints, c.in-Ok.ensures.ok, c.from.ensures) in
    let steps : c.steps.result ≡ pos c.args.number *ℤ c.args.step =
    c.steps.ensures.value ∙ ap (λ s. pos c.args.number *ℤ s) (to_z-of_z w64 c.args.step c.ranges.step) in
    let same : c.in-Ok.sum ≡ c.args.start +ℤ (pos c.args.number *ℤ c.args.step) = sum ∙ ap (λ more. c.args.start +ℤ more) steps in
    rw (← same) (search rules)

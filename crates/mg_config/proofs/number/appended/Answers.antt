use Rattle.std.proofs.Common.{ℕ, ◌≡◌, ◌≤◌, ◌<◌, ◌*◌, ◌+◌, ◌^◌, ap, ◌∙◌, arith}
use Rattle.std.proofs.Math.Nat.{mul-le-mul_left}
use Rattle.mg_config.proofs.number.appended.Goals as goal

fits : (base value digit a b d : ℕ) → base ≤ 16 → digit < 16 → value < 2 ^ 64 → a ≡ value → b ≡ base → d ≡ digit → a * b + d < 2 ^ 128
fits base value digit a b d small low range p q r =
    let h = mul-le-mul_left value small in
    let e : a * b ≡ value * base = ap (λ x. x * b) p ∙ ap (λ x. value * x) q in
    omega (arith, h)

pub overflow_mul-result : goal.overflow_mul-result
overflow_mul-result c =
    let h = fits c.args.base c.args.value c.args.digit c.from.result c.from-2.result c.args.digit c.requires.base c.requires.digit c.ranges.value.fits c.from.ensures c.from-2.ensures (omega arith) in
    omega (arith, h)

pub overflow_add-result : goal.overflow_add-result
overflow_add-result c =
    let h = fits c.args.base c.args.value c.args.digit c.from.result c.from-2.result c.from-3.result c.requires.base c.requires.digit c.ranges.value.fits c.from.ensures c.from-2.ensures c.from-3.ensures in
    omega (arith, h)

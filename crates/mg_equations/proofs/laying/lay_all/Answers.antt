use Rattle.std.proofs.Common.{◌≡◌, ◌<◌, ◌∙◌, List, length, get_or, ap, arith}
use Rattle.mg_calc.specs.declared.emission.Laid.{Laid}
use Rattle.mg_route.specs.Reasons.{laid_on}
use Rattle.mg_route.proofs.LayingLemmas.{laid_further, laid_beyond}
use Rattle.mg_equations.proofs.laying.lay_all.Goals as goal
use Rattle.mg_equations.proofs.laying.lay_all.Goals.{then-i-outputs+in_ok-lay, else-i-outputs}

pub loop-i-preserved : goal.loop-i-preserved
loop-i-preserved c =
    let emission = c.args.emission.now in
    let whole : c.as_slice-laid-items.result.now ≡ emission = c.as_slice-laid-items.ensures in
    let below : c.loop-i.i < length emission = omega (arith, ap length whole) in
    let laid = c.laid-item.result in
    let laid_is : laid ≡ get_or emission c.loop-i.i laid = c.laid-item.is ∙ ap (λ (es : List Laid). get_or es c.loop-i.i laid) whole in
    elim c.if-i-outputs.branch [
      | then-i-outputs+in_ok-lay w ↦
          w.outputs-is ∙ laid_further laid_on c.args.outputs.now c.loop-i.outputs emission c.loop-i.i w.index-outputs-i.result _ laid c.loop-i.invariant below laid_is w.index-outputs-i.is w.in_ok-lay.ensures
      | else-i-outputs w ↦
          w.outputs-is ∙ laid_beyond laid_on c.args.outputs.now c.loop-i.outputs emission c.loop-i.i c.loop-i.invariant (omega (arith, w.if-i-outputs.false))
    ]

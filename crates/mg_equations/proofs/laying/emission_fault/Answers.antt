use Rattle.std.proofs.Common.{◌∙◌, List, length, get_or, sym, ap, arith}
use Rattle.mg_calc.specs.declared.emission.Laid.{Laid}
use Rattle.mg_route.proofs.LayingLemmas.{IsPart, emission_refused, emission_passed}
use Rattle.mg_equations.proofs.laying.emission_fault.Goals as goal

pub returns-then-is_some : goal.returns-then-is_some
returns-then-is_some c =
    let outputs = c.args.outputs.now in
    let emission = c.args.emission.now in
    let i = c.loop-i.i in
    let laid = c.laid-item.result in
    let part : IsPart outputs emission i c.index-outputs-i.result laid = record {
      output_there = omega arith;
      output_is = c.index-outputs-i.is;
      laid_there = omega (arith, ap length c.as_slice-laid-items.ensures);
      laid_is = c.laid-item.is ∙ ap (λ (es : List Laid). get_or es i laid) c.as_slice-laid-items.ensures;
    } in
    emission_refused c.args.offset c.args.phase.now outputs emission i c.index-outputs-i.result laid c.output_fault-fault.result part c.loop-i.invariant c.output_fault-fault.ensures (sym c.is_some.ensures ∙ c.if-is_some.true)

pub loop-i-preserved : goal.loop-i-preserved
loop-i-preserved c =
    let outputs = c.args.outputs.now in
    let emission = c.args.emission.now in
    let i = c.loop-i.i in
    let laid = c.laid-item.result in
    let part : IsPart outputs emission i c.index-outputs-i.result laid = record {
      output_there = omega arith;
      output_is = c.index-outputs-i.is;
      laid_there = omega (arith, ap length c.as_slice-laid-items.ensures);
      laid_is = c.laid-item.is ∙ ap (λ (es : List Laid). get_or es i laid) c.as_slice-laid-items.ensures;
    } in
    emission_passed c.args.offset c.args.phase.now outputs emission i c.index-outputs-i.result laid c.output_fault-fault.result part c.loop-i.invariant c.output_fault-fault.ensures (sym c.is_some.ensures ∙ c.if-is_some.false)

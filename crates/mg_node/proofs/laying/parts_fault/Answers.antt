use Rattle.std.proofs.Common.{◌<◌, ◌≡◌, ◌∙◌, List, length, get_or, sym, ap, arith}
use Rattle.mg_calc.specs.declared.emission.Laid.{Laid}
use Rattle.mg_node.proofs.LayingBehind.{fault_found, fault_passed, fault_none}
use Rattle.mg_node.proofs.laying.parts_fault.Goals as goal

pub returns-then-i-outputs : goal.returns-then-i-outputs
returns-then-i-outputs c = λ whole stand. fault_none c.args.offset c.args.phase.now c.args.outputs.now whole c.args.emission.now c.loop-i.i stand (omega (arith, c.if-i-outputs.true)) (c.loop-i.invariant whole stand)

pub returns-then-is_some : goal.returns-then-is_some
returns-then-is_some c = λ whole stand.
    let below : c.loop-i.i < length c.args.emission.now = omega (arith, ap length c.as_slice-laid-items.ensures) in
    let is : c.laid-item.result ≡ get_or c.args.emission.now c.loop-i.i c.laid-item.result = c.laid-item.is ∙ ap (λ (es : List Laid). get_or es c.loop-i.i c.laid-item.result) c.as_slice-laid-items.ensures in
    fault_found c.args.offset c.args.phase.now c.args.outputs.now whole c.args.emission.now c.loop-i.i c.index-outputs-i.result c.laid-item.result c.output_fault-fault.result stand (omega (arith, c.if-i-outputs.false)) c.index-outputs-i.is below is
    (c.loop-i.invariant whole stand) c.output_fault-fault.ensures (sym c.is_some.ensures ∙ c.if-is_some.true)

pub loop-i-preserved : goal.loop-i-preserved
loop-i-preserved c = λ whole stand.
    let below : c.loop-i.i < length c.args.emission.now = omega (arith, ap length c.as_slice-laid-items.ensures) in
    let is : c.laid-item.result ≡ get_or c.args.emission.now c.loop-i.i c.laid-item.result = c.laid-item.is ∙ ap (λ (es : List Laid). get_or es c.loop-i.i c.laid-item.result) c.as_slice-laid-items.ensures in
    fault_passed c.args.offset c.args.phase.now c.args.outputs.now whole c.args.emission.now c.loop-i.i c.index-outputs-i.result c.laid-item.result c.output_fault-fault.result stand (omega (arith, c.if-i-outputs.false)) c.index-outputs-i.is below is
    (c.loop-i.invariant whole stand) c.output_fault-fault.ensures (sym c.is_some.ensures ∙ c.if-is_some.false)

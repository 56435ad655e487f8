use Rattle.std.proofs.Common.{◌<◌, [], ◌∷◌, length, refl, arith}
use Rattle.mg_node.proofs.LayingBehind.{fault_none, part_reason}
use Rattle.mg_node.proofs.laying.part_fault.Goals as goal

pub returns-then-outputs-eq0 : goal.returns-then-outputs-eq0
returns-then-outputs-eq0 c = λ whole stand. fault_none c.args.offset c.args.phase.now c.args.outputs.now whole (c.args.laid.now ∷ []) 0 stand (omega (arith, c.if-outputs-eq0.true)) refl

pub returns : goal.returns
returns c = λ whole stand.
    let some : 0 < length c.args.outputs.now = (let there = c.if-outputs-eq0.false in omega (arith, there)) in
    part_reason c.args.offset c.args.phase.now c.args.outputs.now whole c.index-outputs-0.result c.args.laid.now c.output_fault.result stand some c.index-outputs-0.is c.output_fault.ensures

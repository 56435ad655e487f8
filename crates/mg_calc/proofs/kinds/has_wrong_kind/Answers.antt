use Rattle.std.proofs.Common.{◌≡◌, ◌+◌, ◌<◌, length, arith, sym, ◌∙◌, refl}
use Rattle.mg_calc.proofs.KindLemmas.{wrong_from, wrong_from-step}
use Rattle.mg_calc.proofs.kinds.has_wrong_kind.Goals as goal

pub returns-then-is_wrong_at : goal.returns-then-is_wrong_at
returns-then-is_wrong_at c =
    let below : c.loop-port.port < length c.args.set.now = omega (arith, c.len-port-end.ensures) in
    let step = wrong_from-step c.args.law.now c.loop-port.port c.args.set.now below in
    rw (← c.loop-port.invariant, step, ← c.is_wrong_at.ensures, c.if-is_wrong_at.true) refl

pub loop-port-preserved : goal.loop-port-preserved
loop-port-preserved c =
    let below : c.loop-port.port < length c.args.set.now = omega (arith, c.len-port-end.ensures) in
    let step = wrong_from-step c.args.law.now c.loop-port.port c.args.set.now below in
    let same : wrong_from c.args.law.now c.loop-port.port c.args.set.now ≡ wrong_from c.args.law.now (c.loop-port.port + 1) c.args.set.now =
    rw (step, ← c.is_wrong_at.ensures, c.if-is_wrong_at.false) refl in
    sym same ∙ c.loop-port.invariant

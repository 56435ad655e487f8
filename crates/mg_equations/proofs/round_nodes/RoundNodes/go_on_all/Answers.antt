use Rattle.std.proofs.Common.{◌<◌, length, get_or, arith}
use Rattle.std.proofs.lemmas.List.{get_or_default}
use Rattle.mg_equations.proofs.RoundNodeSteps.{still_can, gone_more}
use Rattle.mg_equations.proofs.round_nodes.RoundNodes.go_on_all.Goals as goal

pub go_on-requires-clause-can : goal.go_on-requires-clause-can
go_on-requires-clause-can c =
    let k = get_or c.args.numbers.now c.loop-number.number-index 0 in
    λ not node progress at there.
    still_can c.args.plan.now.nodes c.args.streams.now c.args.self.now.nodes.items c.args.numbers.now c.loop-number.number-index k c.loop-number.self node progress c.loop-number.invariant c.requires.can not at there

pub loop-number-preserved : goal.loop-number-preserved
loop-number-preserved c =
    let numbers = c.args.numbers.now in
    let i = c.loop-number.number-index in
    let k = get_or numbers i 0 in
    let below : i < length numbers = omega (arith, c.loop-number-test.true) in
    gone_more c.args.plan.now.nodes c.args.streams.now c.args.self.now.nodes.items numbers i k c.loop-number.self c.go_on.new.self c.loop-number.invariant c.in_ok-go_on.ensures (get_or_default numbers i 0 k below)
    (omega (arith, c.requires.numbers i 0 below, c.requires.nodes))

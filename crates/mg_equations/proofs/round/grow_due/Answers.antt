use Rattle.std.proofs.Common.{◌<◌, length, get_or, arith}
use Rattle.std.proofs.lemmas.List.{get_or_default}
use Rattle.mg_equations.specs.Code.Growing.{given_streams}
use Rattle.mg_equations.proofs.DueSteps.{one_extends, one_grown, all_grown, all_changed}
use Rattle.mg_equations.proofs.round.grow_due.Goals as goal

pub grow_one-requires-clause-extends : goal.grow_one-requires-clause-extends
grow_one-requires-clause-extends c =
    let i = c.loop-number.number-index in
    one_extends c.args.streams.now.items (given_streams c.args.inputs.now c.args.nodes.now) c.args.due.now i c.loop-number.streams.items c.loop-number.changed.items (get_or c.args.due.now i 0) c.requires.extended c.loop-number.invariant
    (c.requires.within i 0 (omega (arith, c.loop-number-test.true)))

pub loop-number-preserved : goal.loop-number-preserved
loop-number-preserved c =
    let i = c.loop-number.number-index in
    let s = get_or c.args.due.now i 0 in
    let below : i < length c.args.due.now = omega (arith, c.loop-number-test.true) in
    one_grown c.args.streams.now.items (given_streams c.args.inputs.now c.args.nodes.now) c.args.due.now i c.loop-number.streams.items c.grow_one.new.streams.items c.loop-number.changed.items c.note_if.new.noted.items s c.in_ok-change.change c.requires.extended c.loop-number.invariant below
    (get_or_default c.args.due.now i 0 s below) (c.requires.within i 0 below) c.in_ok-change.ensures.streams c.in_ok-change.ensures.change c.in_ok-note_if.ensures

pub returns-clause-streams : goal.returns-clause-streams
returns-clause-streams c =
    all_grown c.args.streams.now.items (given_streams c.args.inputs.now c.args.nodes.now) c.args.due.now c.loop-number.number-index c.loop-number.streams.items c.loop-number.changed.items c.requires.extended c.loop-number.invariant
    (omega (arith, c.loop-number-test.false)) c.requires.others

pub returns-clause-changed : goal.returns-clause-changed
returns-clause-changed c =
    all_changed c.args.streams.now.items (given_streams c.args.inputs.now c.args.nodes.now) c.args.due.now c.loop-number.number-index c.loop-number.streams.items c.loop-number.changed.items c.loop-number.invariant (returns-clause-streams c)

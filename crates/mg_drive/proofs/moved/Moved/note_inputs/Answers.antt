use Rattle.std.proofs.Common.{arith}
use Rattle.std.proofs.lemmas.Option.{slice_get_within}
use Rattle.mg_live.proofs.Places.{number_at}
use Rattle.mg_drive.proofs.Moving.{more_noted}
use Rattle.mg_drive.proofs.moved.Moved.note_inputs.Goals as goal

pub loop-i-preserved : goal.loop-i-preserved
loop-i-preserved c = record {
  noted = more_noted c.args.first c.args.inputs.now c.loop-i.i _ c.loop-i.self c.note_input.new.self (number_at c.args.inputs.now c.loop-i.i (omega (arith, c.loop-i-test.true))) c.note_input.ensures.noted c.note_input.ensures.others c.loop-i.invariant.noted;
  others = λ other unmoved. c.loop-i.invariant.others other (c.note_input.ensures.others other unmoved);
}

pub returns-clause-noted : goal.returns-clause-noted
returns-clause-noted c = λ i input at.
    c.loop-i.invariant.noted i input (let within = slice_get_within c.args.inputs.now i input at in let past = c.loop-i-test.false in omega (arith, within, past)) at

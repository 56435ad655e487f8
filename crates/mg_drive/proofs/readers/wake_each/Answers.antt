use Rattle.std.proofs.Common.{arith}
use Rattle.std.proofs.lemmas.Option.{slice_get_within}
use Rattle.mg_live.proofs.Places.{number_at}
use Rattle.mg_drive.proofs.Reading.{more_woken}
use Rattle.mg_drive.proofs.readers.wake_each.Goals as goal

pub loop-i-init : goal.loop-i-init
loop-i-init c = record {
  woken = λ k reader less. absurd (omega (arith, less));
  others = λ other undue. undue;
}

pub loop-i-preserved : goal.loop-i-preserved
loop-i-preserved c = record {
  woken = more_woken c.args.readers.now c.loop-i.i _ c.loop-i.due c.wake.new.self (number_at c.args.readers.now c.loop-i.i (omega (arith, c.loop-i-test.true))) c.wake.ensures.woken c.wake.ensures.others c.loop-i.invariant.woken;
  others = λ other undue. c.loop-i.invariant.others other (c.wake.ensures.others other undue);
}

pub returns-clause-woken : goal.returns-clause-woken
returns-clause-woken c = λ reader undue k at.
    c.loop-i.invariant.woken k reader (let within = slice_get_within c.args.readers.now k reader at in let past = c.loop-i-test.false in omega (arith, within, past)) at undue

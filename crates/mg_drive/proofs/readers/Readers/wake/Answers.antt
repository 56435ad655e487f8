use Rattle.std.proofs.Common.{arith}
use Rattle.std.proofs.lemmas.Option.{slice_get_within}
use Rattle.mg_live.proofs.InTurn.{read_there}
use Rattle.mg_drive.proofs.Reading.{more_readers_woken}
use Rattle.mg_drive.proofs.readers.Readers.wake.Goals as goal

pub loop-i-init : goal.loop-i-init
loop-i-init c = record {
  woken = λ k place reader less. absurd (omega (arith, less));
  others = λ other undue. undue;
}

pub loop-i-preserved : goal.loop-i-preserved
loop-i-preserved c = record {
  woken = more_readers_woken c.args.moved.now.places.items c.args.self.now.by_place.items c.loop-i.i _ c.loop-i.due c.wake_at.new.due (read_there c.args.moved.now.places.items c.loop-i.i c.index.result.now (let long = c.args.moved.now.places.ok.0 in let less = c.loop-i-test.true in omega (arith, long, less)) c.index.ensures) c.wake_at.ensures.woken c.wake_at.ensures.others c.loop-i.invariant.woken;
  others = λ other undue. c.loop-i.invariant.others other (c.wake_at.ensures.others other undue);
}

pub returns-clause-woken : goal.returns-clause-woken
returns-clause-woken c = λ place reader has less undue.
    (c.if-moved.false, λ k at. c.loop-i.invariant.woken k place reader (let within = slice_get_within c.args.moved.now.places.items k place at in let past = c.loop-i-test.false in omega (arith, within, past)) at has less undue)

pub returns-then-moved-clause-woken : goal.returns-then-moved-clause-woken
returns-then-moved-clause-woken c = λ place reader has less undue. absurd (c.wake_all.ensures reader undue)

pub returns-then-moved-clause-others : goal.returns-then-moved-clause-others
returns-then-moved-clause-others c = λ other undue. absurd (c.wake_all.ensures other undue)

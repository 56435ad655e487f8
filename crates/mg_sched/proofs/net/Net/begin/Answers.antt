use Rattle.mg_sched.proofs.AllBegun.{begins_none, begins_on, still_some, all_begun, more_left, fewer_left}
use Rattle.mg_sched.proofs.net.Net.begin.Goals as goal

pub loop-self-init : goal.loop-self-init
loop-self-init g c = record { begins = begins_none c.args.self.now; keeps = λ job h. h }

pub begin_next-requires-clause-there : goal.begin_next-requires-clause-there
begin_next-requires-clause-there g c = more_left _ c.loop-self.self c.len.result c.self.view_is c.len.ensures c.loop-self-test.true

pub begin_next-requires-clause-stands : goal.begin_next-requires-clause-stands
begin_next-requires-clause-stands g c = still_some c.args.self.now c.loop-self.self c.requires.stands c.loop-self.invariant.keeps

pub returns-in_err-begin_next-clause-begins : goal.returns-in_err-begin_next-clause-begins
returns-in_err-begin_next-clause-begins g c = begins_on c.args.self.now c.loop-self.self c.begin_next.new.self c.loop-self.invariant.begins c.in_err-begin_next.ensures.begins

pub returns-in_err-begin_next-clause-stands : goal.returns-in_err-begin_next-clause-stands
returns-in_err-begin_next-clause-stands g c = λ job h. c.in_err-begin_next.ensures.stands job (c.loop-self.invariant.keeps job h)

pub loop-self-preserved : goal.loop-self-preserved
loop-self-preserved g c = record {
  begins = begins_on c.args.self.now c.loop-self.self c.begin_next.new.self c.loop-self.invariant.begins c.in_ok-begin_next.ensures.begins;
  keeps = λ job h. c.in_ok-begin_next.ensures.stands job (c.loop-self.invariant.keeps job h);
}

pub loop-self-smaller : goal.loop-self-smaller
loop-self-smaller g c = fewer_left c.loop-self.self c.begin_next.new.self c.in_ok-begin_next.ensures.begins c.in_ok-begin_next.ensures.next (more_left _ c.loop-self.self c.len.result c.self.view_is c.len.ensures c.loop-self-test.true)

pub returns-clause-running : goal.returns-clause-running
returns-clause-running g c = all_begun _ c.loop-self.self c.len.result c.self.view_is (still_some c.args.self.now c.loop-self.self c.requires.stands c.loop-self.invariant.keeps) c.len.ensures c.loop-self-test.false

pub returns-clause-begins : goal.returns-clause-begins
returns-clause-begins g c = c.loop-self.invariant.begins

pub returns-clause-stands : goal.returns-clause-stands
returns-clause-stands g c = c.loop-self.invariant.keeps

use Rattle.std.proofs.Common.{refl}
use Rattle.mg_calc.specs.declared.event.Event.TheVariants.{Advance}
use Rattle.mg_sched.proofs.Becoming.{becomes_runs, becomes_some, becomes_trans}
use Rattle.mg_sched.proofs.Sweeping.{goes_then, steps_go, still_there}
use Rattle.mg_sched.proofs.HeardOn.{heard_then, heard_then_some, on_err}
use Rattle.mg_sched.proofs.Touching.{only_then}
use Rattle.mg_sched.proofs.net.Net.work_until_idle.Goals as goal

pub step-requires-clause-event : goal.step-requires-clause-event
step-requires-clause-event g c = still_there c.args.node c.args.self.now c.do_works.new.self c.in_ok-worked.ensures.becomes c.requires.there

pub step-requires-clause-running : goal.step-requires-clause-running
step-requires-clause-running g c = becomes_runs c.args.self.now c.do_works.new.self c.requires.running c.in_ok-worked.ensures.becomes

pub step-requires-clause-stands : goal.step-requires-clause-stands
step-requires-clause-stands g c = becomes_some c.args.self.now c.do_works.new.self c.requires.running c.requires.stands c.in_ok-worked.ensures.becomes

pub returns-in_err-raised-clause-becomes : goal.returns-in_err-raised-clause-becomes
returns-in_err-raised-clause-becomes g c = becomes_trans c.args.self.now c.do_works.new.self c.step.new.self c.in_ok-worked.ensures.becomes c.in_err-raised.ensures.becomes

pub returns-clause-becomes : goal.returns-clause-becomes
returns-clause-becomes g c = becomes_trans c.args.self.now c.do_works.new.self c.step.new.self c.in_ok-worked.ensures.becomes c.in_ok-raised.ensures.becomes

pub returns-clause-goes : goal.returns-clause-goes
returns-clause-goes g c =
    goes_then c.in_ok-worked.worked c.in_ok-raised.raised c.args.self.now c.do_works.new.self c.step.new.self c.in_ok-worked.ensures.goes
    (steps_go g.C.NodeCalculator.laws c.in_ok-raised.raised (Advance c.args.node) c.do_works.new.self c.step.new.self c.in_ok-raised.ensures.steps)

pub returns-in_err-raised-clause-heard_some : goal.returns-in_err-raised-clause-heard_some
returns-in_err-raised-clause-heard_some g c = on_err c.from_residual-in_err-raised.result (heard_then_some g.C.NodeCalculator.laws g.H.Hears.has_heard c.args.hearer.now c.do_works.new.hearer c.step.new.hearer c.args.self.now c.do_works.new.self c.in_ok-worked.ensures.heard c.in_err-raised.ensures.heard_some)

pub returns-clause-heard : goal.returns-clause-heard
returns-clause-heard g c = heard_then g.C.NodeCalculator.laws g.H.Hears.has_heard c.args.hearer.now c.do_works.new.hearer c.step.new.hearer c.args.self.now c.do_works.new.self c.step.new.self c.in_ok-worked.ensures.heard c.in_ok-raised.ensures.heard

pub returns-clause-only : goal.returns-clause-only
returns-clause-only g c = only_then c.args.node c.args.self.now c.do_works.new.self c.step.new.self c.in_ok-worked.ensures.only (c.in_ok-raised.ensures.only c.args.node refl)

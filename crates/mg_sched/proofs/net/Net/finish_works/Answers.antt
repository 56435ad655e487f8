use Rattle.std.proofs.Common.{refl}
use Rattle.mg_sched.specs.Sweeps.{itself}
use Rattle.mg_sched.proofs.Becoming.{becomes_runs, becomes_some, becomes_trans}
use Rattle.mg_sched.proofs.Sweeping.{goes_less, due_less, still_there}
use Rattle.mg_sched.proofs.HeardOn.{heard_none, heard_then, heard_then_some, on_err}
use Rattle.mg_sched.proofs.Touching.{only_none, only_then}
use Rattle.mg_sched.proofs.net.Net.finish_works.Goals as goal

pub works-init : goal.works-init
works-init g c = record { becomes = itself; goes = refl; only = only_none c.args.node c.args.self.now c.args.self.now refl; heard = heard_none g.C.NodeCalculator.laws g.H.Hears.has_heard c.args.hearer.now c.args.self.now }

pub next_due-requires-clause-there : goal.next_due-requires-clause-there
next_due-requires-clause-there g c = still_there c.args.node c.args.self.now c.works.self c.works.invariant.becomes c.requires.there

pub next_due-requires-clause-stands : goal.next_due-requires-clause-stands
next_due-requires-clause-stands g c = becomes_some c.args.self.now c.works.self c.requires.running c.requires.stands c.works.invariant.becomes

pub next_due-requires-clause-running : goal.next_due-requires-clause-running
next_due-requires-clause-running g c = becomes_runs c.args.self.now c.works.self c.requires.running c.works.invariant.becomes

pub step-requires-clause-event : goal.step-requires-clause-event
step-requires-clause-event g c = c.in-Some.ensures.event

pub step-requires-clause-running : goal.step-requires-clause-running
step-requires-clause-running g c = becomes_runs c.args.self.now c.works.self c.requires.running c.works.invariant.becomes

pub step-requires-clause-stands : goal.step-requires-clause-stands
step-requires-clause-stands g c = becomes_some c.args.self.now c.works.self c.requires.running c.requires.stands c.works.invariant.becomes

pub returns-in_err-step-clause-becomes : goal.returns-in_err-step-clause-becomes
returns-in_err-step-clause-becomes g c = becomes_trans c.args.self.now c.works.self c.step.new.self c.works.invariant.becomes c.in_err-step.ensures.becomes

pub works-smaller : goal.works-smaller
works-smaller g c = due_less g.C.NodeCalculator.laws c.in_ok-step.field-0 c.in-Some.event c.works.self c.step.new.self c.in-Some.ensures.due c.in_ok-step.ensures.steps

pub works-preserved : goal.works-preserved
works-preserved g c = record {
  only = only_then c.args.node c.args.self.now c.works.self c.step.new.self c.works.invariant.only (c.in_ok-step.ensures.only c.args.node c.in-Some.ensures.at);
  heard = heard_then g.C.NodeCalculator.laws g.H.Hears.has_heard c.args.hearer.now c.works.hearer c.step.new.hearer c.args.self.now c.works.self c.step.new.self c.works.invariant.heard c.in_ok-step.ensures.heard;
  becomes = becomes_trans c.args.self.now c.works.self c.step.new.self c.works.invariant.becomes c.in_ok-step.ensures.becomes;
  goes = goes_less c.works.did c.args.self.now c.works.self c.step.new.self c.works.invariant.goes (due_less g.C.NodeCalculator.laws c.in_ok-step.field-0 c.in-Some.event c.works.self c.step.new.self c.in-Some.ensures.due c.in_ok-step.ensures.steps);
}

pub returns-in_err-step-clause-heard_some : goal.returns-in_err-step-clause-heard_some
returns-in_err-step-clause-heard_some g c = on_err c.from_residual.result (heard_then_some g.C.NodeCalculator.laws g.H.Hears.has_heard c.args.hearer.now c.works.hearer c.step.new.hearer c.args.self.now c.works.self c.works.invariant.heard c.in_err-step.ensures.heard_some)

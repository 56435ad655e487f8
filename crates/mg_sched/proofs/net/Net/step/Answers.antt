use Rattle.std.proofs.Common.{refl}
use Rattle.mg_sched.proofs.Becoming.{becomes_one}
use Rattle.mg_sched.proofs.LeftIn.{acts_less}
use Rattle.mg_sched.proofs.Sweeping.{steps_none}
use Rattle.mg_sched.proofs.HeardOn.{heard_same, heard_one, heard_so_far}
use Rattle.mg_sched.proofs.Touching.{acts_only_all}
use Rattle.mg_sched.proofs.net.Net.step.Goals as goal

pub returns-in-Did-clause-becomes : goal.returns-in-Did-clause-becomes
returns-in-Did-clause-becomes g c = becomes_one c.args.event c.act.result c.args.self.now c.act.new.self c.requires.event c.act.ensures.acts

pub returns-in-Idle-clause-becomes : goal.returns-in-Idle-clause-becomes
returns-in-Idle-clause-becomes g c = becomes_one c.args.event c.act.result c.args.self.now c.act.new.self c.requires.event c.act.ensures.acts

pub returns-in-OutOfMemory-clause-becomes : goal.returns-in-OutOfMemory-clause-becomes
returns-in-OutOfMemory-clause-becomes g c = becomes_one c.args.event c.act.result c.args.self.now c.act.new.self c.requires.event c.act.ensures.acts

pub returns-in-Did-clause-steps : goal.returns-in-Did-clause-steps
returns-in-Did-clause-steps g c = acts_less c.requires.stands.job c.args.event c.args.self.now c.act.new.self c.requires.event c.requires.running c.requires.stands.stands c.in-Did.ensures.acts

pub returns-in-Idle-clause-steps : goal.returns-in-Idle-clause-steps
returns-in-Idle-clause-steps g c = steps_none g.C.NodeCalculator.laws c.args.event c.args.self.now c.act.new.self (c.in-Idle.ensures.idle refl) c.in-Idle.ensures.acts

pub returns-in-Did-clause-heard : goal.returns-in-Did-clause-heard
returns-in-Did-clause-heard g c =
    heard_one g.C.NodeCalculator.laws g.H.Hears.has_heard c.args.hearer.now c.hear.new.self c.args.event c.args.self.now c.act.new.self c.requires.event c.in-Did.ensures.acts c.hear.ensures

pub returns-in-Idle-clause-heard : goal.returns-in-Idle-clause-heard
returns-in-Idle-clause-heard g c = heard_same g.C.NodeCalculator.laws g.H.Hears.has_heard c.args.hearer.now c.args.self.now c.act.new.self (c.in-Idle.ensures.idle refl)

pub returns-in-OutOfMemory-clause-heard_some : goal.returns-in-OutOfMemory-clause-heard_some
returns-in-OutOfMemory-clause-heard_some g c = heard_so_far g.C.NodeCalculator.laws g.H.Hears.has_heard c.args.hearer.now c.args.self.now

pub returns-in-Did-clause-only : goal.returns-in-Did-clause-only
returns-in-Did-clause-only g c = acts_only_all g.C.NodeCalculator.laws c.args.event _ c.args.self.now c.act.new.self c.in-Did.ensures.acts

pub returns-in-Idle-clause-only : goal.returns-in-Idle-clause-only
returns-in-Idle-clause-only g c = acts_only_all g.C.NodeCalculator.laws c.args.event _ c.args.self.now c.act.new.self c.in-Idle.ensures.acts

use Rattle.std.proofs.Common.{refl, subst}
use Rattle.mg_calc.specs.declared.event.Effect.TheVariants.{Did, Idle, OutOfMemory}
use Rattle.mg_sched.specs.Views.{NetView}
use Rattle.mg_sched.specs.Acts.{Acts}
use Rattle.mg_sched.proofs.Becoming.{becomes_one}
use Rattle.mg_replay.proofs.events.make_event.Goals as goal

pub returns-in-Did-clause-becomes : goal.returns-in-Did-clause-becomes
returns-in-Did-clause-becomes g c = becomes_one c.args.event Did _ _ c.requires.event c.in-Did.ensures.acts

pub returns-in-Idle-clause-makes : goal.returns-in-Idle-clause-makes
returns-in-Idle-clause-makes g c = (subst (λ (n : NetView). Acts g.C.NodeCalculator.laws c.args.event Idle c.args.net.now n) (c.in-Idle.ensures.idle refl) c.in-Idle.ensures.acts, refl)

pub returns-in-Idle-clause-becomes : goal.returns-in-Idle-clause-becomes
returns-in-Idle-clause-becomes g c = becomes_one c.args.event Idle _ _ c.requires.event c.in-Idle.ensures.acts

pub returns-in-OutOfMemory-clause-becomes : goal.returns-in-OutOfMemory-clause-becomes
returns-in-OutOfMemory-clause-becomes g c = becomes_one c.args.event OutOfMemory _ _ c.requires.event c.in-OutOfMemory.ensures.acts

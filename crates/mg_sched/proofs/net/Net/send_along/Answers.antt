use Rattle.std.proofs.Common.{refl}
use Rattle.mg_sched.proofs.Becoming.{becomes_some}
use Rattle.mg_sched.proofs.Sweeping.{steps_go, still_edge, agenda_on, agenda_back}
use Rattle.mg_calc.specs.declared.event.Event.TheVariants.{Deliver}
use Rattle.mg_sched.proofs.Touching.{notes_idle, notes_brought, idle_rests}
use Rattle.mg_sched.proofs.net.Net.send_along.Goals as goal

pub put_consumer-requires-clause-there : goal.put_consumer-requires-clause-there
put_consumer-requires-clause-there g c = still_edge c.args.edge c.args.self.now c.step.new.self c.in_ok-step.ensures.becomes c.requires.there

pub put_consumer-requires-clause-agenda : goal.put_consumer-requires-clause-agenda
put_consumer-requires-clause-agenda g c = agenda_on c.args.self.now c.step.new.self c.args.agenda.now c.in_ok-step.ensures.becomes c.requires.agenda

pub returns-clause-agenda : goal.returns-clause-agenda
returns-clause-agenda g c = agenda_back c.args.self.now c.step.new.self c.put_consumer.new.agenda c.in_ok-step.ensures.becomes c.put_consumer.ensures.agenda

pub put_consumer-requires-clause-stands : goal.put_consumer-requires-clause-stands
put_consumer-requires-clause-stands g c = becomes_some c.args.self.now c.step.new.self c.requires.running c.requires.stands c.in_ok-step.ensures.becomes

pub returns-then-not-branch-clause-notes : goal.returns-then-not-branch-clause-notes
returns-then-not-branch-clause-notes g c = notes_idle c.in_ok-step.field-0 c.args.self.now c.step.new.self c.args.agenda.now c.args.agenda.now c.if-not-branch.true
    (steps_go g.C.NodeCalculator.laws c.in_ok-step.field-0 (Deliver c.args.edge) c.args.self.now c.step.new.self c.in_ok-step.ensures.steps) refl

pub returns-then-not-branch-clause-rest : goal.returns-then-not-branch-clause-rest
returns-then-not-branch-clause-rest g c = λ isnt. idle_rests g.C.NodeCalculator.laws c.in_ok-step.field-0 (Deliver c.args.edge) c.args.self.now c.step.new.self c.if-not-branch.true c.in_ok-step.ensures.steps

pub returns-clause-notes : goal.returns-clause-notes
returns-clause-notes g c = notes_brought c.args.edge c.args.self.now c.step.new.self c.args.agenda.now c.put_consumer.new.agenda c.in_ok-step.ensures.becomes c.requires.there c.in_ok-step.ensures.only c.put_consumer.ensures.touched

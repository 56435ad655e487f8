use Rattle.std.proofs.Common.{refl}
use Rattle.mg_calc.specs.declared.event.Event.TheVariants.{Relax}
use Rattle.mg_sched.proofs.Becoming.{becomes_plan, becomes_runs, becomes_some, becomes_trans}
use Rattle.mg_sched.proofs.Sweeping.{steps_go, goes_true, agenda_on, agenda_back}
use Rattle.mg_sched.proofs.HeardOn.{heard_then, heard_then_some, on_err}
use Rattle.mg_sched.proofs.Touching.{notes_limits}
use Rattle.mg_sched.proofs.RestingPlaces.{rests_still, relaxed_none, goes_next}
use Rattle.mg_sched.proofs.net.Net.look_over.Goals as goal

pub returns-then-relaxed-clause-goes : goal.returns-then-relaxed-clause-goes
returns-then-relaxed-clause-goes g c = goes_true c.in_ok-relaxed.relaxed c.args.self.now c.step.new.self c.if-relaxed.true (steps_go g.C.NodeCalculator.laws c.in_ok-relaxed.relaxed Relax c.args.self.now c.step.new.self c.in_ok-relaxed.ensures.steps)

pub returns-then-relaxed-clause-left : goal.returns-then-relaxed-clause-left
returns-then-relaxed-clause-left g c = rests_still c.args.self.now c.args.agenda.now c.step.new.self c.args.agenda.now (becomes_plan c.args.self.now c.step.new.self c.in_ok-relaxed.ensures.becomes) (notes_limits c.args.self.now c.step.new.self c.args.agenda.now c.args.agenda.now (λ place. c.in_ok-relaxed.ensures.only place tt) refl) c.requires.rests

pub look_at_touched-requires-clause-running : goal.look_at_touched-requires-clause-running
look_at_touched-requires-clause-running g c = becomes_runs c.args.self.now c.step.new.self c.requires.running c.in_ok-relaxed.ensures.becomes

pub look_at_touched-requires-clause-stands : goal.look_at_touched-requires-clause-stands
look_at_touched-requires-clause-stands g c = becomes_some c.args.self.now c.step.new.self c.requires.running c.requires.stands c.in_ok-relaxed.ensures.becomes

pub look_at_touched-requires-clause-agenda : goal.look_at_touched-requires-clause-agenda
look_at_touched-requires-clause-agenda g c = agenda_on c.args.self.now c.step.new.self c.args.agenda.now c.in_ok-relaxed.ensures.becomes c.requires.agenda

pub look_at_touched-requires-clause-rests : goal.look_at_touched-requires-clause-rests
look_at_touched-requires-clause-rests g c = rests_still c.args.self.now c.args.agenda.now c.step.new.self c.args.agenda.now (becomes_plan c.args.self.now c.step.new.self c.in_ok-relaxed.ensures.becomes) (notes_limits c.args.self.now c.step.new.self c.args.agenda.now c.args.agenda.now (λ place. c.in_ok-relaxed.ensures.only place tt) refl) c.requires.rests

pub look_at_touched-requires-clause-free : goal.look_at_touched-requires-clause-free
look_at_touched-requires-clause-free g c = relaxed_none g.C.NodeCalculator.laws c.in_ok-relaxed.relaxed c.args.self.now c.step.new.self c.if-relaxed.false c.in_ok-relaxed.ensures.steps

pub returns-in_err-did-clause-becomes : goal.returns-in_err-did-clause-becomes
returns-in_err-did-clause-becomes g c = becomes_trans c.args.self.now c.step.new.self c.look_at_touched.new.self c.in_ok-relaxed.ensures.becomes c.in_err-did.ensures.becomes

pub returns-in_err-did-clause-agenda : goal.returns-in_err-did-clause-agenda
returns-in_err-did-clause-agenda g c = agenda_back c.args.self.now c.step.new.self c.look_at_touched.new.agenda c.in_ok-relaxed.ensures.becomes c.in_err-did.ensures.agenda

pub returns-in_err-did-clause-heard_some : goal.returns-in_err-did-clause-heard_some
returns-in_err-did-clause-heard_some g c = on_err c.from_residual-in_err-did.result (heard_then_some g.C.NodeCalculator.laws g.H.Hears.has_heard c.args.hearer.now c.step.new.hearer c.look_at_touched.new.hearer c.args.self.now c.step.new.self c.in_ok-relaxed.ensures.heard c.in_err-did.ensures.heard_some)

pub returns-clause-becomes : goal.returns-clause-becomes
returns-clause-becomes g c = becomes_trans c.args.self.now c.step.new.self c.look_at_touched.new.self c.in_ok-relaxed.ensures.becomes c.in_ok-did.ensures.becomes

pub returns-clause-agenda : goal.returns-clause-agenda
returns-clause-agenda g c = agenda_back c.args.self.now c.step.new.self c.look_at_touched.new.agenda c.in_ok-relaxed.ensures.becomes c.in_ok-did.ensures.agenda

pub returns-clause-heard : goal.returns-clause-heard
returns-clause-heard g c = heard_then g.C.NodeCalculator.laws g.H.Hears.has_heard c.args.hearer.now c.step.new.hearer c.look_at_touched.new.hearer c.args.self.now c.step.new.self c.look_at_touched.new.self c.in_ok-relaxed.ensures.heard c.in_ok-did.ensures.heard

pub returns-clause-goes : goal.returns-clause-goes
returns-clause-goes g c = goes_next c.in_ok-relaxed.relaxed c.in_ok-did.did c.args.self.now c.step.new.self c.look_at_touched.new.self c.if-relaxed.false (steps_go g.C.NodeCalculator.laws c.in_ok-relaxed.relaxed Relax c.args.self.now c.step.new.self c.in_ok-relaxed.ensures.steps) c.in_ok-did.ensures.goes

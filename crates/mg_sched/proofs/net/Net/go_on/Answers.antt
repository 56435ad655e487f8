use Rattle.std.proofs.Common.{ℕ, ◌<◌, ◌∙◌, length, count_by, ap, refl, subst, sym}
use Rattle.mg_calc.specs.declared.event.Event.TheVariants.{Relax}
use Rattle.mg_sched.specs.Views.{NetView}
use Rattle.mg_sched.specs.StandsFor.{StandsForSome, IsRunning}
use Rattle.mg_sched.specs.Sweeps.{Becomes}
use Rattle.mg_ready.specs.Ready.{ReadyNodes}
use Rattle.mg_sched.specs.Code.Agendas.{AgendaView, IsAgendaOf, waiting_in}
use Rattle.mg_sched.specs.Code.Left.{left_in, Goes}
use Rattle.mg_sched.proofs.Sweeping.{steps_go, goes_true, goes_false, agenda_same}
use Rattle.mg_sched.proofs.HeardOn.{heard_none, heard_then, heard_then_some, on_err}
use Rattle.mg_sched.proofs.Touching.{notes_same, notes_after, notes_limits}
use Rattle.mg_sched.proofs.net.Net.go_on.Goals as goal

pub places-init : goal.places-init
places-init g c = record { same = refl; agenda = c.requires.agenda; notes = notes_same c.args.self.now c.args.self.now c.args.agenda.now c.args.agenda.now refl refl; heard = heard_none g.C.NodeCalculator.laws g.H.Hears.has_heard c.args.hearer.now c.args.self.now }

pub visit-requires-clause-running : goal.visit-requires-clause-running
visit-requires-clause-running g c = subst (λ (v : NetView). IsRunning v) (sym c.places.invariant.same) c.requires.running

pub visit-requires-clause-stands : goal.visit-requires-clause-stands
visit-requires-clause-stands g c = subst (λ (v : NetView). StandsForSome g.C.NodeCalculator.laws v) (sym c.places.invariant.same) c.requires.stands

pub visit-requires-clause-agenda : goal.visit-requires-clause-agenda
visit-requires-clause-agenda g c =
    subst (λ (v : NetView). IsAgendaOf v.plan c.take.new.self) (sym c.places.invariant.same)
    (agenda_same c.args.self.now.plan c.places.agenda c.take.new.self c.places.invariant.agenda (ap (λ (a : AgendaView). a.heads) c.take.ensures.others) (ap (λ (a : AgendaView). a.links) c.take.ensures.others) (ap (λ (a : AgendaView). a.starts) c.take.ensures.others))

pub visit-requires-clause-there : goal.visit-requires-clause-there
visit-requires-clause-there g c = subst (λ (n : ℕ). c.in-Some.place < n) (sym (ap (λ (a : AgendaView). length a.heads) c.take.ensures.others)) c.in-Some.ensures.place

pub places-preserved : goal.places-preserved
places-preserved g c = record {
  notes = notes_after c.args.self.now c.args.agenda.now c.places.self c.places.agenda c.take.new.self c.visit.new.self c.visit.new.agenda c.places.invariant.notes (ap (λ (a : AgendaView). a.touched) c.take.ensures.others) c.in_ok-visit.ensures.notes;
  heard = heard_then g.C.NodeCalculator.laws g.H.Hears.has_heard c.args.hearer.now c.places.hearer c.visit.new.hearer c.args.self.now c.places.self c.visit.new.self c.places.invariant.heard c.in_ok-visit.ensures.heard;
  same = goes_false c.in_ok-visit.field-0 c.places.self c.visit.new.self c.if-branch.false c.in_ok-visit.ensures.goes ∙ c.places.invariant.same;
  agenda = subst (λ (v : NetView). IsAgendaOf v.plan c.visit.new.agenda) c.places.invariant.same c.in_ok-visit.ensures.agenda;
}

pub places-smaller : goal.places-smaller
places-smaller g c = subst (λ (r : ReadyNodes). count_by (λ b. b) r.is_in < waiting_in c.places.agenda) (sym (c.in_ok-visit.ensures.unchanged c.if-branch.false)) c.in-Some.ensures.fewer

pub returns-in_err-visit-clause-becomes : goal.returns-in_err-visit-clause-becomes
returns-in_err-visit-clause-becomes g c = subst (λ (v : NetView). Becomes g.C.NodeCalculator.laws v c.visit.new.self) c.places.invariant.same c.in_err-visit.ensures.becomes

pub returns-in_err-visit-clause-agenda : goal.returns-in_err-visit-clause-agenda
returns-in_err-visit-clause-agenda g c = subst (λ (v : NetView). IsAgendaOf v.plan c.visit.new.agenda) c.places.invariant.same c.in_err-visit.ensures.agenda

pub returns-then-branch-clause-becomes : goal.returns-then-branch-clause-becomes
returns-then-branch-clause-becomes g c = subst (λ (v : NetView). Becomes g.C.NodeCalculator.laws v c.visit.new.self) c.places.invariant.same c.in_ok-visit.ensures.becomes

pub returns-then-branch-clause-goes : goal.returns-then-branch-clause-goes
returns-then-branch-clause-goes g c = subst (λ (v : NetView). left_in c.visit.new.self < left_in v) c.places.invariant.same (goes_true c.in_ok-visit.field-0 c.places.self c.visit.new.self c.if-branch.true c.in_ok-visit.ensures.goes)

pub returns-then-branch-clause-agenda : goal.returns-then-branch-clause-agenda
returns-then-branch-clause-agenda g c = subst (λ (v : NetView). IsAgendaOf v.plan c.visit.new.agenda) c.places.invariant.same c.in_ok-visit.ensures.agenda

pub step-requires-clause-running : goal.step-requires-clause-running
step-requires-clause-running g c = subst (λ (v : NetView). IsRunning v) (sym c.places.invariant.same) c.requires.running

pub step-requires-clause-stands : goal.step-requires-clause-stands
step-requires-clause-stands g c = subst (λ (v : NetView). StandsForSome g.C.NodeCalculator.laws v) (sym c.places.invariant.same) c.requires.stands

pub returns-in_err-relaxed-clause-becomes : goal.returns-in_err-relaxed-clause-becomes
returns-in_err-relaxed-clause-becomes g c = subst (λ (v : NetView). Becomes g.C.NodeCalculator.laws v c.step.new.self) c.places.invariant.same c.in_err-relaxed.ensures.becomes

pub returns-in_err-relaxed-clause-agenda : goal.returns-in_err-relaxed-clause-agenda
returns-in_err-relaxed-clause-agenda g c = agenda_same c.args.self.now.plan c.places.agenda c.take.new.self c.places.invariant.agenda (ap (λ (a : AgendaView). a.heads) c.take.ensures.others) (ap (λ (a : AgendaView). a.links) c.take.ensures.others) (ap (λ (a : AgendaView). a.starts) c.take.ensures.others)

pub returns-clause-becomes : goal.returns-clause-becomes
returns-clause-becomes g c = subst (λ (v : NetView). Becomes g.C.NodeCalculator.laws v c.step.new.self) c.places.invariant.same c.in_ok-relaxed.ensures.becomes

pub returns-clause-goes : goal.returns-clause-goes
returns-clause-goes g c = subst (λ (v : NetView). Goes c.in_ok-relaxed.relaxed v c.step.new.self) c.places.invariant.same (steps_go g.C.NodeCalculator.laws c.in_ok-relaxed.relaxed Relax c.places.self c.step.new.self c.in_ok-relaxed.ensures.steps)

pub returns-clause-agenda : goal.returns-clause-agenda
returns-clause-agenda g c =
    agenda_same c.args.self.now.plan c.take.new.self c.release.new.self
    (agenda_same c.args.self.now.plan c.places.agenda c.take.new.self c.places.invariant.agenda (ap (λ (a : AgendaView). a.heads) c.take.ensures.others) (ap (λ (a : AgendaView). a.links) c.take.ensures.others) (ap (λ (a : AgendaView). a.starts) c.take.ensures.others)) (ap (λ (a : AgendaView). a.heads) c.release.ensures.others) (ap (λ (a : AgendaView). a.links) c.release.ensures.others) (ap (λ (a : AgendaView). a.starts) c.release.ensures.others)

pub returns-in_err-visit-clause-heard_some : goal.returns-in_err-visit-clause-heard_some
returns-in_err-visit-clause-heard_some g c = on_err c.from_residual.result (heard_then_some g.C.NodeCalculator.laws g.H.Hears.has_heard c.args.hearer.now c.places.hearer c.visit.new.hearer c.args.self.now c.places.self c.places.invariant.heard c.in_err-visit.ensures.heard_some)

pub returns-then-branch-clause-heard : goal.returns-then-branch-clause-heard
returns-then-branch-clause-heard g c = heard_then g.C.NodeCalculator.laws g.H.Hears.has_heard c.args.hearer.now c.places.hearer c.visit.new.hearer c.args.self.now c.places.self c.visit.new.self c.places.invariant.heard c.in_ok-visit.ensures.heard

pub returns-in_err-relaxed-clause-heard_some : goal.returns-in_err-relaxed-clause-heard_some
returns-in_err-relaxed-clause-heard_some g c = on_err c.from_residual-in_err-relaxed.result (heard_then_some g.C.NodeCalculator.laws g.H.Hears.has_heard c.args.hearer.now c.places.hearer c.step.new.hearer c.args.self.now c.places.self c.places.invariant.heard c.in_err-relaxed.ensures.heard_some)

pub returns-clause-heard : goal.returns-clause-heard
returns-clause-heard g c = heard_then g.C.NodeCalculator.laws g.H.Hears.has_heard c.args.hearer.now c.places.hearer c.step.new.hearer c.args.self.now c.places.self c.step.new.self c.places.invariant.heard c.in_ok-relaxed.ensures.heard

pub returns-then-branch-clause-notes : goal.returns-then-branch-clause-notes
returns-then-branch-clause-notes g c = notes_after c.args.self.now c.args.agenda.now c.places.self c.places.agenda c.take.new.self c.visit.new.self c.visit.new.agenda c.places.invariant.notes (ap (λ (a : AgendaView). a.touched) c.take.ensures.others) c.in_ok-visit.ensures.notes

pub returns-clause-notes : goal.returns-clause-notes
returns-clause-notes g c = notes_after c.args.self.now c.args.agenda.now c.places.self c.places.agenda c.take.new.self c.step.new.self c.release.new.self c.places.invariant.notes (ap (λ (a : AgendaView). a.touched) c.take.ensures.others)
    (notes_limits c.places.self c.step.new.self c.take.new.self c.release.new.self (λ place. c.in_ok-relaxed.ensures.only place tt) (ap (λ (a : AgendaView). a.touched) c.release.ensures.others))

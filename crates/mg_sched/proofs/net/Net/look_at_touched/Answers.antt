use Rattle.std.proofs.Common.{◌<◌, ◌≤◌, ◌∙◌, ℕ, length, ap, refl, sym, subst, arith}
use Rattle.mg_sched.specs.Views.{NetView}
use Rattle.mg_sched.specs.StandsFor.{StandsForSome, IsRunning}
use Rattle.mg_sched.specs.Acts.{IsAnyFull}
use Rattle.mg_sched.specs.Sweeps.{Becomes, itself}
use Rattle.mg_sched.specs.Code.Agendas.{AgendaView, IsAgendaOf, touched_in}
use Rattle.mg_sched.specs.Code.Left.{left_in}
use Rattle.mg_sched.specs.Code.Quiet.{RestsBut}
use Rattle.mg_sched.proofs.Becoming.{becomes_plan}
use Rattle.mg_sched.proofs.Sweeping.{goes_true, goes_false, agenda_same}
use Rattle.mg_sched.proofs.HeardOn.{heard_none, heard_then, heard_then_some, on_err}
use Rattle.mg_sched.proofs.RestingPlaces.{rests_still, all_rest, settles, notes_again}
use Rattle.mg_sched.proofs.net.Net.look_at_touched.Goals as goal

pub places-init : goal.places-init
places-init g c = record { same = refl; agenda = c.requires.agenda; rests = c.requires.rests; heard = heard_none g.C.NodeCalculator.laws g.H.Hears.has_heard c.args.hearer.now c.args.self.now }

pub look_at-requires-clause-running : goal.look_at-requires-clause-running
look_at-requires-clause-running g c = subst (λ (v : NetView). IsRunning v) (sym c.places.invariant.same) c.requires.running

pub look_at-requires-clause-stands : goal.look_at-requires-clause-stands
look_at-requires-clause-stands g c = subst (λ (v : NetView). StandsForSome g.C.NodeCalculator.laws v) (sym c.places.invariant.same) c.requires.stands

pub look_at-requires-clause-agenda : goal.look_at-requires-clause-agenda
look_at-requires-clause-agenda g c = subst (λ (v : NetView). IsAgendaOf v.plan c.next_touched.new.self) (sym c.places.invariant.same) (agenda_same c.args.self.now.plan c.places.agenda c.next_touched.new.self c.places.invariant.agenda (ap (λ (a : AgendaView). a.heads) c.next_touched.ensures.others) (ap (λ (a : AgendaView). a.links) c.next_touched.ensures.others) (ap (λ (a : AgendaView). a.starts) c.next_touched.ensures.others))

pub look_at-requires-clause-there : goal.look_at-requires-clause-there
look_at-requires-clause-there g c = subst (λ (n : ℕ). c.in-Some.place ≤ n) (sym (ap (λ (a : AgendaView). length a.heads) c.next_touched.ensures.others)) c.in-Some.ensures.place

pub returns-in_err-look_at-clause-becomes : goal.returns-in_err-look_at-clause-becomes
returns-in_err-look_at-clause-becomes g c = subst (λ (v : NetView). Becomes g.C.NodeCalculator.laws v c.look_at.new.self) c.places.invariant.same c.in_err-look_at.ensures.becomes

pub returns-in_err-look_at-clause-agenda : goal.returns-in_err-look_at-clause-agenda
returns-in_err-look_at-clause-agenda g c = subst (λ (v : NetView). IsAgendaOf v.plan c.look_at.new.agenda) c.places.invariant.same c.in_err-look_at.ensures.agenda

pub returns-in_err-look_at-clause-heard_some : goal.returns-in_err-look_at-clause-heard_some
returns-in_err-look_at-clause-heard_some g c = on_err c.from_residual.result (heard_then_some g.C.NodeCalculator.laws g.H.Hears.has_heard c.args.hearer.now c.places.hearer c.look_at.new.hearer c.args.self.now c.places.self c.places.invariant.heard c.in_err-look_at.ensures.heard_some)

pub touch-requires : goal.touch-requires
touch-requires g c = (let of = subst (λ (v : NetView). IsAgendaOf v.plan c.look_at.new.agenda) c.places.invariant.same c.in_ok-look_at.ensures.agenda in let long = of.places in let more = c.places.invariant.agenda.places in let here = c.in-Some.ensures.place in omega (arith, long, more, here))

pub returns-then-branch-clause-becomes : goal.returns-then-branch-clause-becomes
returns-then-branch-clause-becomes g c = subst (λ (v : NetView). Becomes g.C.NodeCalculator.laws v c.look_at.new.self) c.places.invariant.same c.in_ok-look_at.ensures.becomes

pub returns-then-branch-clause-goes : goal.returns-then-branch-clause-goes
returns-then-branch-clause-goes g c = subst (λ (v : NetView). left_in c.look_at.new.self < left_in v) c.places.invariant.same (goes_true c.in_ok-look_at.field-0 c.places.self c.look_at.new.self c.if-branch.true c.in_ok-look_at.ensures.goes)

pub returns-then-branch-clause-heard : goal.returns-then-branch-clause-heard
returns-then-branch-clause-heard g c = heard_then g.C.NodeCalculator.laws g.H.Hears.has_heard c.args.hearer.now c.places.hearer c.look_at.new.hearer c.args.self.now c.places.self c.look_at.new.self c.places.invariant.heard c.in_ok-look_at.ensures.heard

pub returns-then-branch-clause-agenda : goal.returns-then-branch-clause-agenda
returns-then-branch-clause-agenda g c = agenda_same c.args.self.now.plan c.look_at.new.agenda c.touch.new.self (subst (λ (v : NetView). IsAgendaOf v.plan c.look_at.new.agenda) c.places.invariant.same c.in_ok-look_at.ensures.agenda) (ap (λ (a : AgendaView). a.heads) c.touch.ensures.others) (ap (λ (a : AgendaView). a.links) c.touch.ensures.others) (ap (λ (a : AgendaView). a.starts) c.touch.ensures.others)

pub returns-then-branch-clause-left : goal.returns-then-branch-clause-left
returns-then-branch-clause-left g c = rests_still c.places.self c.places.agenda c.look_at.new.self c.touch.new.self (becomes_plan c.places.self c.look_at.new.self c.in_ok-look_at.ensures.becomes)
    (notes_again c.places.self c.places.agenda c.next_touched.new.self c.look_at.new.self c.look_at.new.agenda c.touch.new.self c.in-Some.place c.in-Some.ensures.only c.in_ok-look_at.ensures.notes c.touch.ensures.touched c.touch.ensures.only) c.places.invariant.rests

pub places-preserved : goal.places-preserved
places-preserved g c = record {
  heard = heard_then g.C.NodeCalculator.laws g.H.Hears.has_heard c.args.hearer.now c.places.hearer c.look_at.new.hearer c.args.self.now c.places.self c.look_at.new.self c.places.invariant.heard c.in_ok-look_at.ensures.heard;
  same = goes_false c.in_ok-look_at.field-0 c.places.self c.look_at.new.self c.if-branch.false c.in_ok-look_at.ensures.goes ∙ c.places.invariant.same;
  agenda = subst (λ (v : NetView). IsAgendaOf v.plan c.look_at.new.agenda) c.places.invariant.same c.in_ok-look_at.ensures.agenda;
  rests = settles c.places.self c.look_at.new.self c.places.agenda c.next_touched.new.self c.look_at.new.agenda c.in-Some.place (goes_false c.in_ok-look_at.field-0 c.places.self c.look_at.new.self c.if-branch.false c.in_ok-look_at.ensures.goes) (c.in_ok-look_at.ensures.unchanged c.if-branch.false)
      (subst (λ (v : NetView). ¬ IsAnyFull v.limits) (sym c.places.invariant.same) c.requires.free) c.in-Some.ensures.only (c.in_ok-look_at.ensures.rest c.if-branch.false) c.places.invariant.rests;
}

pub places-smaller : goal.places-smaller
places-smaller g c = subst (λ (a : AgendaView). touched_in a < touched_in c.places.agenda) (sym (c.in_ok-look_at.ensures.unchanged c.if-branch.false)) c.in-Some.ensures.fewer

pub returns-clause-becomes : goal.returns-clause-becomes
returns-clause-becomes g c = subst (λ (v : NetView). Becomes g.C.NodeCalculator.laws c.args.self.now v) (sym c.places.invariant.same) itself

pub returns-clause-goes : goal.returns-clause-goes
returns-clause-goes g c = c.places.invariant.same

pub returns-clause-agenda : goal.returns-clause-agenda
returns-clause-agenda g c = agenda_same c.args.self.now.plan c.places.agenda c.next_touched.new.self c.places.invariant.agenda (ap (λ (a : AgendaView). a.heads) c.next_touched.ensures.others) (ap (λ (a : AgendaView). a.links) c.next_touched.ensures.others) (ap (λ (a : AgendaView). a.starts) c.next_touched.ensures.others)

pub returns-clause-rest : goal.returns-clause-rest
returns-clause-rest g c = λ isnt. all_rest c.places.self c.places.agenda (subst (λ (v : NetView). StandsForSome g.C.NodeCalculator.laws v) (sym c.places.invariant.same) c.requires.stands) (subst (λ (v : NetView). IsRunning v) (sym c.places.invariant.same) c.requires.running) (subst (λ (v : NetView). ¬ IsAnyFull v.limits) (sym c.places.invariant.same) c.requires.free)
    c.in_default.ensures.none c.places.invariant.rests

pub returns-clause-left : goal.returns-clause-left
returns-clause-left g c = subst (λ (a : AgendaView). RestsBut c.places.self a) (sym c.in_default.ensures.unchanged) c.places.invariant.rests

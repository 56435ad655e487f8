use Rattle.std.proofs.Common.{sym, subst}
use Rattle.mg_sched.specs.Views.{NetView}
use Rattle.mg_sched.specs.StandsFor.{StandsForSome, IsRunning}
use Rattle.mg_sched.specs.AtRest.{IsAtRest}
use Rattle.mg_sched.specs.Heard.{HeardSome}
use Rattle.mg_sched.specs.Code.Agendas.{IsAgendaOf}
use Rattle.mg_sched.specs.Code.Quiet.{RestsBut}
use Rattle.mg_sched.proofs.Sweeping.{agenda_on}
use Rattle.mg_sched.proofs.HeardOn.{heard_so_far, on_err}
use Rattle.mg_sched.proofs.RestingPlaces.{becomes_between, heard_between, becomes_same}
use Rattle.mg_sched.proofs.net.Net.come_to_rest.Goals as goal

pub returns-in_err-agenda-clause-becomes : goal.returns-in_err-agenda-clause-becomes
returns-in_err-agenda-clause-becomes g c = becomes_same c.args.self.now c.take_agenda.new.self c.in_err-agenda.ensures.same

pub returns-in_err-agenda-clause-heard_some : goal.returns-in_err-agenda-clause-heard_some
returns-in_err-agenda-clause-heard_some g c = on_err c.from_residual.result (heard_so_far g.C.NodeCalculator.laws g.H.Hears.has_heard c.args.hearer.now c.args.self.now)

pub rest_by-requires-clause-running : goal.rest_by-requires-clause-running
rest_by-requires-clause-running g c = subst (λ (v : NetView). IsRunning v) (sym c.in_ok-agenda.ensures.same) c.requires.running

pub rest_by-requires-clause-stands : goal.rest_by-requires-clause-stands
rest_by-requires-clause-stands g c = subst (λ (v : NetView). StandsForSome g.C.NodeCalculator.laws v) (sym c.in_ok-agenda.ensures.same) c.requires.stands

pub rest_by-requires-clause-agenda : goal.rest_by-requires-clause-agenda
rest_by-requires-clause-agenda g c = subst (λ (v : NetView). IsAgendaOf v.plan c.in_ok-agenda.agenda) (sym c.in_ok-agenda.ensures.same) c.in_ok-agenda.ensures.agenda

pub rest_by-requires-clause-rests : goal.rest_by-requires-clause-rests
rest_by-requires-clause-rests g c = subst (λ (v : NetView). RestsBut v c.in_ok-agenda.agenda) (sym c.in_ok-agenda.ensures.same) c.in_ok-agenda.ensures.rests

pub keep_agenda-requires-clause-agenda : goal.keep_agenda-requires-clause-agenda
keep_agenda-requires-clause-agenda g c = agenda_on c.take_agenda.new.self c.rest_by.new.self c.rest_by.new.agenda c.in-Ok.ensures.becomes c.in-Ok.ensures.agenda

pub keep_agenda-requires-clause-rests : goal.keep_agenda-requires-clause-rests
keep_agenda-requires-clause-rests g c = λ is. c.in-Ok.ensures.left

pub returns-in-Ok-clause-becomes : goal.returns-in-Ok-clause-becomes
returns-in-Ok-clause-becomes g c = becomes_between c.args.self.now c.take_agenda.new.self c.rest_by.new.self c.keep_agenda.new.self c.in_ok-agenda.ensures.same c.keep_agenda.ensures c.in-Ok.ensures.becomes

pub returns-in-Ok-clause-heard : goal.returns-in-Ok-clause-heard
returns-in-Ok-clause-heard g c = heard_between g.C.NodeCalculator.laws g.H.Hears.has_heard c.args.hearer.now c.rest_by.new.hearer c.args.self.now c.take_agenda.new.self c.rest_by.new.self c.keep_agenda.new.self c.in_ok-agenda.ensures.same c.keep_agenda.ensures c.in-Ok.ensures.heard

pub returns-in-Ok-clause-rest : goal.returns-in-Ok-clause-rest
returns-in-Ok-clause-rest g c = subst (λ (v : NetView). IsAtRest g.C.NodeCalculator.laws v) (sym c.keep_agenda.ensures) c.in-Ok.ensures.rest

pub keep_agenda-requires-in-Err-clause-agenda : goal.keep_agenda-requires-in-Err-clause-agenda
keep_agenda-requires-in-Err-clause-agenda g c = agenda_on c.take_agenda.new.self c.rest_by.new.self c.rest_by.new.agenda c.in-Err.ensures.becomes c.in-Err.ensures.agenda

pub returns-in-Err-clause-becomes : goal.returns-in-Err-clause-becomes
returns-in-Err-clause-becomes g c = becomes_between c.args.self.now c.take_agenda.new.self c.rest_by.new.self c.keep_agenda-in-Err.new.self c.in_ok-agenda.ensures.same c.keep_agenda-in-Err.ensures c.in-Err.ensures.becomes

pub returns-in-Err-clause-heard_some : goal.returns-in-Err-clause-heard_some
returns-in-Err-clause-heard_some g c = subst (λ (v : NetView). HeardSome g.C.NodeCalculator.laws g.H.Hears.has_heard c.args.hearer.now c.rest_by.new.hearer v) c.in_ok-agenda.ensures.same c.in-Err.ensures.heard_some

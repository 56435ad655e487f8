use Rattle.std.proofs.Common.{sym, subst}
use Rattle.mg_sched.specs.Views.{NetView}
use Rattle.mg_sched.specs.StandsFor.{StandsForSome}
use Rattle.mg_sched.specs.Code.Agendas.{IsAgendaOf}
use Rattle.mg_sched.specs.Code.Quiet.{RestsBut}
use Rattle.mg_sched.proofs.RestingPlaces.{kept_agenda, kept_rests}
use Rattle.mg_sched.proofs.net.Net.take_agenda.Goals as goal

pub made_agenda-requires : goal.made_agenda-requires
made_agenda-requires g c = subst (λ (v : NetView). StandsForSome g.C.NodeCalculator.laws v) (sym c.self.view_is) c.requires

pub returns-in_default-clause-agenda : goal.returns-in_default-clause-agenda
returns-in_default-clause-agenda g c = subst (λ (v : NetView). IsAgendaOf v.plan c.in_ok-agenda.agenda) c.self.view_is c.in_ok-agenda.ensures.agenda

pub returns-in_default-clause-rests : goal.returns-in_default-clause-rests
returns-in_default-clause-rests g c = subst (λ (v : NetView). RestsBut v c.in_ok-agenda.agenda) c.self.view_is c.in_ok-agenda.ensures.rests

pub returns-clause-agenda : goal.returns-clause-agenda
returns-clause-agenda g c = kept_agenda _ c.args.self.now c.self.inside.agenda c.in-Some.agenda c.woken_unless.result c.self.view_is c.self.invariant.4 (sym c.in-Some.ensures.value) c.woken_unless.ensures.heads c.woken_unless.ensures.leads

pub returns-clause-rests : goal.returns-clause-rests
returns-clause-rests g c = kept_rests c.self.inside.known _ c.args.self.now c.self.inside.agenda c.in-Some.agenda c.woken_unless.result c.self.view_is c.self.invariant.4 c.self.invariant.5 (sym c.in-Some.ensures.value) c.woken_unless.ensures.known c.woken_unless.ensures.all

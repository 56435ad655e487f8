use Rattle.std.proofs.Common.{refl, sym, subst}
use Rattle.mg_calc.specs.Plan.{IsValid}
use Rattle.mg_sched.specs.Views.{NetView}
use Rattle.mg_sched.proofs.Finding.{valid}
use Rattle.mg_sched.proofs.RestingPlaces.{new_agenda, new_rests}
use Rattle.mg_sched.proofs.net.Net.made_agenda.Goals as goal

pub new-requires : goal.new-requires
new-requires g c = subst (λ (v : NetView). IsValid v.plan) (sym c.self.view_is) (valid c.args.self.now c.requires)

pub returns-clause-agenda : goal.returns-clause-agenda
returns-clause-agenda g c = new_agenda _ c.args.self.now c.in_ok-agenda.agenda c.woken_unless.result c.self.view_is c.in_ok-agenda.ensures.of_plan c.woken_unless.ensures.heads c.woken_unless.ensures.leads

pub returns-clause-rests : goal.returns-clause-rests
returns-clause-rests g c = new_rests _ c.args.self.now c.in_ok-agenda.agenda c.woken_unless.result c.self.view_is c.in_ok-agenda.ensures.of_plan (c.woken_unless.ensures.all refl)

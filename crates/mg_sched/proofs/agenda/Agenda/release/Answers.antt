use Rattle.std.proofs.Common.{ℕ, ◌↔◌, ◌⊎◌, subst}
use Rattle.mg_ready.specs.Ready.{IsIn}
use Rattle.mg_sched.specs.Code.Agendas.{AgendaView}
use Rattle.mg_sched.proofs.agenda.Agenda.release.Goals as goal

pub returns-clause-ready : goal.returns-clause-ready
returns-clause-ready c = subst (λ (a : AgendaView). (n : ℕ) → IsIn c.pour.new.into n ↔ (IsIn a.ready n ⊎ IsIn a.held n)) c.self.view_is c.pour.ensures.all

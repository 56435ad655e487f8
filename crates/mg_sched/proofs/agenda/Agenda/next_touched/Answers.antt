use Rattle.std.proofs.Common.{IfNone, subst}
use Rattle.mg_ready.specs.Ready.{IsEmpty}
use Rattle.mg_sched.specs.Code.Agendas.{AgendaView}
use Rattle.mg_sched.proofs.agenda.Agenda.next_touched.Goals as goal

pub returns-clause-none : goal.returns-clause-none
returns-clause-none c = subst (λ (a : AgendaView). IfNone c.take.result (IsEmpty a.touched)) c.self.view_is c.take.ensures.none

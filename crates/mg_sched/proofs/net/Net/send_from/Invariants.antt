-- Something came along one of the edges so far, or all is as it was. Each edge stands after the last one.
use Rattle.std.proofs.Common.{◌≡◌, ◌<◌, false, length, IfSome}
use Rattle.mg_sched.specs.Sweeps.{Becomes}
use Rattle.mg_sched.specs.Code.Agendas.{IsAgendaOf}
use Rattle.mg_sched.specs.Code.Left.{Goes}
use Rattle.mg_sched.proofs.Sweeping.{edges_left}
use Rattle.mg_sched.specs.Heard.{Heard}
use Rattle.mg_sched.specs.Code.Quiet.{Notes}
use Rattle.mg_sched.proofs.Touching.{RestUpto}
use Rattle.mg_sched.proofs.net.Net.send_from.Given as goal

abbrev pub invariant-edges : goal.invariant-edges
invariant-edges g l = record {
  becomes : Becomes g.C.NodeCalculator.laws l.fn.self l.self;
  goes : Goes l.did l.fn.self l.self;
  agenda : IsAgendaOf l.fn.self.plan l.agenda;
  unchanged : l.did ≡ false → l.agenda ≡ l.fn.agenda;
  there : IfSome l.cursor (λ e. e < length l.fn.self.plan.edges);
  notes : Notes l.fn.self l.fn.agenda l.self l.agenda;
  rest : l.did ≡ false → RestUpto g.C.NodeCalculator.laws l.fn.self.plan l.fn.first l.cursor l.self;
  heard : Heard g.C.NodeCalculator.laws g.H.Hears.has_heard l.fn.hearer l.hearer l.fn.self l.self;
}

abbrev pub decreases-edges : goal.decreases-edges
decreases-edges g l = edges_left (length l.fn.self.plan.edges) l.cursor

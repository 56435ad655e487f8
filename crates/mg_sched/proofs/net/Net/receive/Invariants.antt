-- Through one of the ports so far something came, or the edges to them rest.
use Rattle.std.proofs.Common.{◌≡◌, ◌+◌, ◌<◌, ℕ, false}
use Rattle.mg_calc.specs.declared.event.Event.TheVariants.{Deliver}
use Rattle.mg_calc.specs.declared.event.Effect.TheVariants.{Idle}
use Rattle.mg_sched.specs.Acts.{Acts}
use Rattle.mg_sched.specs.Sweeps.{Becomes}
use Rattle.mg_sched.specs.Code.Agendas.{IsAgendaOf}
use Rattle.mg_sched.specs.Code.Left.{Goes}
use Rattle.mg_sched.specs.Code.Quiet.{Notes}
use Rattle.mg_sched.specs.Heard.{Heard}
use Rattle.mg_sched.proofs.net.Net.receive.Given as goal

abbrev pub invariant-ports : goal.invariant-ports
invariant-ports g l = record {
  becomes : Becomes g.C.NodeCalculator.laws l.fn.self l.self;
  goes : Goes l.did l.fn.self l.self;
  agenda : IsAgendaOf l.fn.self.plan l.agenda;
  unchanged : l.did ≡ false → l.agenda ≡ l.fn.agenda;
  notes : Notes l.fn.self l.fn.agenda l.self l.agenda;
  rest : l.did ≡ false → (port : ℕ) → port < l.port → Acts g.C.NodeCalculator.laws (Deliver (l.first + port)) Idle l.self l.self;
  heard : Heard g.C.NodeCalculator.laws g.H.Hears.has_heard l.fn.hearer l.hearer l.fn.self l.self;
}

-- The net becomes another one by steps.
use Rattle.mg_sched.specs.Sweeps.{Becomes}
use Rattle.mg_sched.specs.Code.Agendas.{IsAgendaOf}
use Rattle.mg_sched.specs.Code.Left.{left_in}
use Rattle.mg_sched.specs.Heard.{Heard}
use Rattle.mg_sched.specs.Code.Quiet.{Notes}
use Rattle.mg_sched.proofs.net.Net.work_off.Given as goal

abbrev pub invariant-steps : goal.invariant-steps
invariant-steps g l = record { becomes : Becomes g.C.NodeCalculator.laws l.fn.self l.self; agenda : IsAgendaOf l.fn.self.plan l.agenda; notes : Notes l.fn.self l.fn.agenda l.self l.agenda; heard : Heard g.C.NodeCalculator.laws g.H.Hears.has_heard l.fn.hearer l.hearer l.fn.self l.self }

abbrev pub decreases-steps : goal.decreases-steps
decreases-steps g l = left_in l.self

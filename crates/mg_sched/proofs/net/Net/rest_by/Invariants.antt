-- The net becomes another one by steps.
use Rattle.mg_sched.specs.Sweeps.{Becomes}
use Rattle.mg_sched.specs.Code.Agendas.{IsAgendaOf}
use Rattle.mg_sched.specs.Code.Left.{left_in}
use Rattle.mg_sched.specs.Code.Quiet.{RestsBut}
use Rattle.mg_sched.specs.Heard.{Heard}
use Rattle.mg_sched.proofs.net.Net.rest_by.Given as goal

abbrev pub invariant-passes : goal.invariant-passes
invariant-passes g l = record { becomes : Becomes g.C.NodeCalculator.laws l.fn.self l.self; agenda : IsAgendaOf l.fn.self.plan l.agenda; rests : RestsBut l.self l.agenda; heard : Heard g.C.NodeCalculator.laws g.H.Hears.has_heard l.fn.hearer l.hearer l.fn.self l.self }

abbrev pub decreases-passes : goal.decreases-passes
decreases-passes g l = left_in l.self

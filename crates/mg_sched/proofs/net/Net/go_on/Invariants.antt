-- No place that was visited so far did anything.
use Rattle.std.proofs.Common.{◌≡◌}
use Rattle.mg_sched.specs.Code.Agendas.{IsAgendaOf, waiting_in}
use Rattle.mg_sched.specs.Heard.{Heard}
use Rattle.mg_sched.specs.Code.Quiet.{Notes}
use Rattle.mg_sched.proofs.net.Net.go_on.Given as goal

abbrev pub invariant-places : goal.invariant-places
invariant-places g l = record { same : l.self ≡ l.fn.self; agenda : IsAgendaOf l.fn.self.plan l.agenda; notes : Notes l.fn.self l.fn.agenda l.self l.agenda; heard : Heard g.C.NodeCalculator.laws g.H.Hears.has_heard l.fn.hearer l.hearer l.fn.self l.self }

abbrev pub decreases-places : goal.decreases-places
decreases-places g l = waiting_in l.agenda

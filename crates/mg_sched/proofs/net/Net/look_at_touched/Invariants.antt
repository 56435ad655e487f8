-- No place that was looked at so far did anything.
use Rattle.std.proofs.Common.{◌≡◌}
use Rattle.mg_sched.specs.Code.Agendas.{IsAgendaOf, touched_in}
use Rattle.mg_sched.specs.Code.Quiet.{RestsBut}
use Rattle.mg_sched.specs.Heard.{Heard}
use Rattle.mg_sched.proofs.net.Net.look_at_touched.Given as goal

abbrev pub invariant-places : goal.invariant-places
invariant-places g l = record {
  same : l.self ≡ l.fn.self;
  agenda : IsAgendaOf l.fn.self.plan l.agenda;
  rests : RestsBut l.self l.agenda;
  heard : Heard g.C.NodeCalculator.laws g.H.Hears.has_heard l.fn.hearer l.hearer l.fn.self l.self;
}

abbrev pub decreases-places : goal.decreases-places
decreases-places g l = touched_in l.agenda

-- The edges from here on lead from their places.
use Rattle.std.proofs.Common.{◌≡◌, length, vec_len}
use Rattle.mg_sched.specs.Code.Agendas.{LeadOn, AreLeads}
use Rattle.mg_sched.proofs.agenda.leads_of.Given as goal

abbrev pub invariant-loop-edge : goal.invariant-loop-edge
invariant-loop-edge l = record {
  places : vec_len l.leads.first ≡ l.count;
  edges : vec_len l.leads.next ≡ length l.plan.edges;
  lead : LeadOn l.edge (length l.plan.edges) l.leads.first.items l.leads.next.items;
  leads : AreLeads l.plan l.edge l.leads.first.items l.leads.next.items;
}

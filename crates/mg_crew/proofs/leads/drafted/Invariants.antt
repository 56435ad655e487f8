-- The edges from here on stand at their places.
use Rattle.std.proofs.Common.{◌≡◌, ◌≤◌, length, vec_len}
use Rattle.mg_sched.specs.Code.Agendas.{LeadOn}
use Rattle.mg_crew.proofs.leads.drafted.Given as goal

abbrev pub invariant-loop-edge : goal.invariant-loop-edge
invariant-loop-edge l = record {
  within : l.edge ≤ length l.ends;
  places : vec_len l.draft.first ≡ l.places;
  edges : vec_len l.draft.next ≡ length l.ends;
  lead : LeadOn l.edge (length l.ends) l.draft.first.items l.draft.next.items;
}

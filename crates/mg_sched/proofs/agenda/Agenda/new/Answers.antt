use Rattle.std.proofs.Common.{◌≡◌, ◌+◌, ◌∙◌, ℕ, List, ap, sym, subst, arith, vec_len}
use Rattle.mg_calc.specs.Plan.{HasEachOnce}
use Rattle.mg_ready.specs.Ready.{ReadyNodes}
use Rattle.mg_sched.specs.Code.Agendas.{LeadOn}
use Rattle.mg_sched.proofs.LeadingOn.{lead_nowhere}
use Rattle.mg_sched.proofs.agenda.Agenda.new.Goals as goal

pub invariant_of-result : goal.invariant_of-result
invariant_of-result c =
    let first = c.in_ok-first.first in
    let leads = c.in_ok-leads.leads in
    let sets = c.in_ok-sets.sets in
    let len = c.in_ok-first.ensures.len in
    let few = c.in_ok-count.ensures.few in
    let lead : LeadOn 0 (vec_len leads.next) leads.first.items leads.next.items = subst (λ (n : ℕ). LeadOn 0 n leads.first.items leads.next.items) (sym c.in_ok-leads.ensures.edges) c.in_ok-leads.ensures.lead in
    let same : sets.held.order ≡ sets.ready.order = ap (λ (r : ReadyNodes). r.order) (c.in_ok-sets.ensures.held ∙ sym c.in_ok-sets.ensures.ready) in
    let ready : HasEachOnce (vec_len first) sets.ready.order = subst (λ (n : ℕ). HasEachOnce n sets.ready.order) (sym len) c.in_ok-sets.ensures.each in
    record {
      few = omega (arith, len, few);
      ready_order = ready;
      held_order = subst (λ (l : List ℕ). HasEachOnce (vec_len first) l) (sym same) ready;
      touched_order = subst (λ (n : ℕ). HasEachOnce (n + 1) sets.touched.order) (sym len) c.in_ok-sets.ensures.touched;
      edges_lead = lead_nowhere (vec_len leads.next) c.in_ok-count.count first.items leads.first.items leads.next.items c.in_ok-first.ensures.items lead;
      starts_lead = lead;
      start_count = (let long = leads.first.ok in let places = c.in_ok-leads.ensures.places in omega (arith, long, places, len));
    }

pub returns-clause-of_plan : goal.returns-clause-of_plan
returns-clause-of_plan c =
    let first = c.in_ok-first.first in
    let leads = c.in_ok-leads.leads in
    let len = c.in_ok-first.ensures.len in
    let count = c.in_ok-count.ensures.count in
    let long = leads.first.ok in
    let places = c.in_ok-leads.ensures.places in
    let own = first.ok in
    let next = leads.next.ok in
    let edges = c.in_ok-leads.ensures.edges in record {
      places = omega (arith, own, len, count);
      edges = omega (arith, next, edges);
      start_count = omega (arith, long, places, own, len);
      leads = c.in_ok-leads.ensures.leads;
    }

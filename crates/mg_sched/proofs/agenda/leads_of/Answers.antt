use Rattle.std.proofs.Common.{ℕ, ◌≡◌, ◌+◌, ◌-◌, ◌<◌, length, ◌∙◌, subst, arith}
use Rattle.mg_sched.specs.Code.Agendas.{LeadOn, LeadsFrom, AreLeads}
use Rattle.mg_sched.proofs.Finding.{found}
use Rattle.mg_sched.proofs.LeadingOn.{lead_none, lead_more_by, leads_none, leads_more}
use Rattle.mg_sched.proofs.agenda.leads_of.Goals as goal

pub loop-edge-init : goal.loop-edge-init
loop-edge-init c = record {
  places = c.in_ok-first.ensures.len;
  edges = c.in_ok-next.ensures.len ∙ c.len.ensures;
  lead = lead_none c.len-edge.result (length c.args.plan.now.edges) _ _ c.in_ok-first.first.items c.in_ok-next.next.items c.in_ok-first.ensures.items c.in_ok-next.ensures.items;
  leads = leads_none c.args.plan.now _ 0 c.len-edge.result c.in_ok-first.first.items c.in_ok-next.next.items c.in_ok-first.ensures.items c.len-edge.ensures;
}

pub loop-edge-preserved : goal.loop-edge-preserved
loop-edge-preserved c =
    let plan = c.args.plan.now in
    let low = c.loop-edge.edge - 1 in
    let i = c.loop-edge.invariant in
    let heads = c.loop-edge.leads.first in
    let links = c.loop-edge.leads.next in
    let next : c.loop-edge.edge ≡ low + 1 = omega (arith, c.loop-edge-test.true) in
    let less : low < length plan.edges = omega (arith, c.loop-edge-test.true, c.loop-edge.auto.edge, c.len-edge.ensures) in
    let place : c.place_of-place.result < length heads.items = omega (arith, c.place_of-place.ensures.place, c.requires.count, i.places, heads.ok) in
    let link : low < length links.items = omega (arith, less, i.edges, links.ok) in
    let e = found plan.edges low less in
    let from : LeadsFrom plan c.place_of-place.result low = (e.0, e.1, c.place_of-place.ensures.from e.0 e.1) in
    let long : length c.lead.new.leads.first.items ≡ length heads.items = omega (arith, c.lead.ensures.places, c.lead.new.leads.first.ok, heads.ok) in
    record {
      places = c.lead.ensures.places ∙ i.places;
      edges = c.lead.ensures.edges ∙ i.edges;
      lead = lead_more_by low (length plan.edges) c.place_of-place.result heads.items links.items c.lead.new.leads.first.items c.lead.new.leads.next.items
          (subst (λ (n : ℕ). LeadOn n (length plan.edges) heads.items links.items) next i.lead) place link less c.lead.ensures.first c.lead.ensures.next;
      leads = leads_more plan low c.place_of-place.result heads.items links.items c.lead.new.leads.first.items c.lead.new.leads.next.items
          (subst (λ (n : ℕ). AreLeads plan n heads.items links.items) next i.leads) place link from c.lead.ensures.first c.lead.ensures.next long;
    }

pub returns-clause-leads : goal.returns-clause-leads
returns-clause-leads c =
    (let zero_is : c.loop-edge.edge ≡ 0 = omega (arith, c.loop-edge-test.false) in
    subst (λ (n : ℕ). AreLeads c.args.plan.now n c.loop-edge.leads.first.items c.loop-edge.leads.next.items) zero_is c.loop-edge.invariant.leads)

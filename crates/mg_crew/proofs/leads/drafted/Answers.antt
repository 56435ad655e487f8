use Rattle.std.proofs.Common.{ℕ, ◌≡◌, ◌+◌, ◌-◌, ◌<◌, length, ◌∙◌, subst, arith}
use Rattle.mg_sched.specs.Code.Agendas.{LeadOn}
use Rattle.mg_sched.proofs.LeadingOn.{lead_none, lead_more_by}
use Rattle.mg_crew.proofs.leads.drafted.Goals as goal

pub loop-edge-init : goal.loop-edge-init
loop-edge-init c = record {
  within = omega arith;
  places = c.in_ok-first.ensures.len;
  edges = omega (arith, c.in_ok-next.ensures.len);
  lead = lead_none (length c.args.ends.now) (length c.args.ends.now) _ _ c.in_ok-first.first.items c.in_ok-next.next.items c.in_ok-first.ensures.items c.in_ok-next.ensures.items;
}

pub loop-edge-preserved : goal.loop-edge-preserved
loop-edge-preserved c =
    let low = c.loop-edge.edge - 1 in
    let count = length c.args.ends.now in
    let i = c.loop-edge.invariant in
    let heads = c.loop-edge.draft.first in
    let links = c.loop-edge.draft.next in
    let next : c.loop-edge.edge ≡ low + 1 = omega (arith, c.loop-edge-test.true) in
    let less : low < count = omega (arith, c.loop-edge-test.true, i.within) in
    let place : c.end_of-place.result < length heads.items = omega (arith, c.end_of-place.ensures, i.places, heads.ok) in
    let link : low < length links.items = omega (arith, less, i.edges, links.ok) in
    record {
      within = omega (arith, less);
      places = c.lead.ensures.places ∙ i.places;
      edges = c.lead.ensures.edges ∙ i.edges;
      lead = lead_more_by low count c.end_of-place.result heads.items links.items c.lead.new.draft.first.items c.lead.new.draft.next.items
          (subst (λ (n : ℕ). LeadOn n count heads.items links.items) next i.lead) place link less c.lead.ensures.first c.lead.ensures.next;
    }

pub returns-clause-lead : goal.returns-clause-lead
returns-clause-lead c =
    (let zero_is : c.loop-edge.edge ≡ 0 = omega (arith, c.loop-edge-test.false) in
    subst (λ (n : ℕ). LeadOn n (length c.args.ends.now) c.loop-edge.draft.first.items c.loop-edge.draft.next.items) zero_is c.loop-edge.invariant.lead)

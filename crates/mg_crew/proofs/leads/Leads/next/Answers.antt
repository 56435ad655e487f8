use Rattle.std.proofs.Common.{◌≡◌, ◌<◌, ℕ, IfSome, ap, subst, arith, vec_len}
use Rattle.mg_sched.proofs.Leading.{lead_next}
use Rattle.mg_crew.specs.Code.Charts.{LeadsView}
use Rattle.mg_crew.proofs.leads.Leads.next.Goals as goal

pub returns : goal.returns
returns c =
    let inside = c.self.inside in
    let edges : vec_len inside.next ≡ c.args.self.now.edges = ap (λ (v : LeadsView). v.edges) c.self.view_is in
    subst (λ (n : ℕ). IfSome c.index.result.now (λ later. (c.args.edge < later) × (later < n))) edges
    (lead_next 0 (vec_len inside.next) c.args.edge inside.first.items inside.next.items c.index.result.now c.self.invariant
    (omega (arith, c.requires, edges, inside.next.ok)) c.index.ensures)

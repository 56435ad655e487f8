use Rattle.std.proofs.Common.{◌≡◌, ◌<◌, ℕ, IfSome, ap, subst, arith, vec_len}
use Rattle.mg_sched.proofs.Leading.{lead_first}
use Rattle.mg_crew.specs.Code.Charts.{LeadsView}
use Rattle.mg_crew.proofs.leads.Leads.first.Goals as goal

pub returns : goal.returns
returns c =
    let inside = c.self.inside in
    let places = ap (λ (v : LeadsView). v.places) c.self.view_is in
    let edges : vec_len inside.next ≡ c.args.self.now.edges = ap (λ (v : LeadsView). v.edges) c.self.view_is in
    subst (λ (n : ℕ). IfSome c.index.result.now (λ edge. edge < n)) edges
    (lead_first 0 (vec_len inside.next) c.args.place inside.first.items inside.next.items c.index.result.now c.self.invariant
    (omega (arith, c.requires, places, inside.first.ok)) c.index.ensures)

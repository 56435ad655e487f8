use Rattle.std.proofs.Common.{◌≤◌, ◌+◌, ℕ, List, length, ap, get_or, sym, subst, ◌∙◌, arith}
use Rattle.std.proofs.lemmas.List.FromFn.{length-map-range_with_len, get_or-map-range_with_len}
use Rattle.mg_sched.specs.Views.{NetView}
use Rattle.mg_sched.specs.Places.{first_edge}
use Rattle.mg_sched.proofs.net.Net.first_edge.Goals as goal

pub index-requires : goal.index-requires
index-requires g c =
    (let ok = c.self.inside.first_edges.ok in
    let table = ap length c.self.invariant.0.edges in
    let long = length-map-range_with_len (first_edge c.self.inside.plan) 0 (length c.self.inside.plan.nodes + 1) in
    let within : c.args.place ≤ length c.self.inside.plan.nodes = subst (λ (v : NetView). c.args.place ≤ length v.plan.nodes) (sym c.self.view_is) c.requires in
    omega (arith, ok, table, long, within))

pub returns : goal.returns
returns g c =
    (let within : c.args.place ≤ length c.self.inside.plan.nodes = subst (λ (v : NetView). c.args.place ≤ length v.plan.nodes) (sym c.self.view_is) c.requires in
    c.index.ensures
    ∙ ap (λ (ns : List ℕ). get_or ns c.args.place c.index.result.now) c.self.invariant.0.edges
    ∙ get_or-map-range_with_len (first_edge c.self.inside.plan) 0 (length c.self.inside.plan.nodes + 1) c.args.place c.args.place c.index.result.now (omega (arith, within)) (omega arith)
    ∙ ap (λ (v : NetView). first_edge v.plan c.args.place) c.self.view_is)

use Rattle.std.proofs.Common.{◌<◌, ◌∙◌, ℕ, Option, IfSome, sym, subst}
use Rattle.mg_sched.proofs.Sweeping.{edges_left, fewer_edges, second_of}
use Rattle.mg_crew.proofs.Sharing.{stays_itself, stays_on}
use Rattle.mg_crew.proofs.throttling.note_worked.Goals as goal

pub edges-init : goal.edges-init
edges-init g c = record { stays = stays_itself _ _ c.requires.at_work.shared; there = c.first-cursor.ensures }

pub eases_if_full-eased-requires-clause-edge : goal.eases_if_full-eased-requires-clause-edge
eases_if_full-eased-requires-clause-edge g c =
    let fits = c.requires.at_work.fits in
    subst (λ (n : ℕ). c.in-Some.edge < n) (fits.entries ∙ fits.edges) (subst (λ (o : Option ℕ). IfSome o (λ e. e < c.args.shop.now.tools.now.chart.into.edges)) c.in-Some.is c.edges.invariant.there)

pub next-cursor-requires : goal.next-cursor-requires
next-cursor-requires g c = subst (λ (o : Option ℕ). IfSome o (λ e. e < c.args.shop.now.tools.now.chart.into.edges)) c.in-Some.is c.edges.invariant.there

pub edges-smaller : goal.edges-smaller
edges-smaller g c =
    (let count = c.args.shop.now.tools.now.chart.into.edges in
    let there = subst (λ (o : Option ℕ). IfSome o (λ e. e < count)) c.in-Some.is c.edges.invariant.there in
    subst (λ (o : Option ℕ). edges_left count c.next-cursor.result < edges_left count o) (sym c.in-Some.is) (fewer_edges count c.in-Some.edge c.next-cursor.result there c.next-cursor.ensures))

pub edges-preserved : goal.edges-preserved
edges-preserved g c = record {
  stays = stays_on _ _ _ _ c.edges.invariant.stays c.eases_if_full-eased.ensures;
  there = second_of c.next-cursor.result c.in-Some.edge c.args.shop.now.tools.now.chart.into.edges c.next-cursor.ensures;
}

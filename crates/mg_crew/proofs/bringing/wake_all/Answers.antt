use Rattle.std.proofs.Common.{◌<◌, ℕ, Option, IfSome, sym, subst}
use Rattle.mg_sched.proofs.Sweeping.{edges_left, fewer_edges, second_of}
use Rattle.mg_crew.proofs.Levelled.{at_work_still, stays_at_work, works_on}
use Rattle.mg_crew.proofs.bringing.wake_all.Goals as goal

pub edges-init : goal.edges-init
edges-init g c = record { stays = stays_at_work _ _ _ _ c.requires.at_work; there = c.first-cursor.ensures }

pub wake-more-requires-clause-at_work : goal.wake-more-requires-clause-at_work
wake-more-requires-clause-at_work g c = at_work_still _ _ _ _ _ _ c.requires.at_work c.edges.invariant.stays

pub wake-more-requires-clause-edge : goal.wake-more-requires-clause-edge
wake-more-requires-clause-edge g c = subst (λ (o : Option ℕ). IfSome o (λ e. e < c.args.shop.now.tools.now.chart.from.edges)) c.in-Some.is c.edges.invariant.there

pub next-next-requires : goal.next-next-requires
next-next-requires g c = subst (λ (o : Option ℕ). IfSome o (λ e. e < c.args.shop.now.tools.now.chart.from.edges)) c.in-Some.is c.edges.invariant.there

pub edges-smaller : goal.edges-smaller
edges-smaller g c =
    (let count = c.args.shop.now.tools.now.chart.from.edges in
    let there = subst (λ (o : Option ℕ). IfSome o (λ e. e < count)) c.in-Some.is c.edges.invariant.there in
    subst (λ (o : Option ℕ). edges_left count c.next-next.result < edges_left count o) (sym c.in-Some.is) (fewer_edges count c.in-Some.edge c.next-next.result there c.next-next.ensures))

pub edges-preserved : goal.edges-preserved
edges-preserved g c = record {
  stays = record { stays = (works_on _ _ _ _ _ _ _ c.edges.invariant.stays c.wake-more.ensures).stays; placed = c.go_past.ensures.place };
  there = second_of c.next-next.result c.in-Some.edge c.args.shop.now.tools.now.chart.from.edges c.next-next.ensures;
}

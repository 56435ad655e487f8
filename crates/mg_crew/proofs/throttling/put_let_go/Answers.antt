use Rattle.std.proofs.Common.{◌<◌, ℕ, Option, IfSome, sym, subst}
use Rattle.mg_sched.proofs.Sweeping.{edges_left, fewer_edges}
use Rattle.mg_crew.proofs.Noting.{later_feeder, first_feeder}
use Rattle.mg_crew.proofs.throttling.put_let_go.Goals as goal

pub feeders-init : goal.feeders-init
feeders-init g c = record { placed = c.requires.place; there = first_feeder c.next_feeder-cursor.result _ _ c.next_feeder-cursor.ensures }

pub feeders-smaller : goal.feeders-smaller
feeders-smaller g c =
    (let end = c.args.tools.now.chart.feeder_count in
    let there = subst (λ (o : Option ℕ). IfSome o (λ f. f < end)) c.in-Some.is c.feeders.invariant.there in
    subst (λ (o : Option ℕ). edges_left end c.next_feeder-cursor-in-Some.result < edges_left end o) (sym c.in-Some.is)
    (fewer_edges end c.in-Some.feeder c.next_feeder-cursor-in-Some.result there (later_feeder c.next_feeder-cursor-in-Some.result c.in-Some.feeder end c.next_feeder-cursor-in-Some.ensures)))

pub feeders-preserved : goal.feeders-preserved
feeders-preserved g c = record { placed = c.put_held.ensures.place; there = first_feeder c.next_feeder-cursor-in-Some.result _ _ c.next_feeder-cursor-in-Some.ensures }

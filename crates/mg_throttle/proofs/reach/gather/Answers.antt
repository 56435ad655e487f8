use Rattle.std.proofs.Common.{◌<◌, ◌≤◌, sym, subst, arith}
use Rattle.std.specs.List.Sorted.{IsNonDecreasingBy, IsPartitionPoint}
use Rattle.mg_throttle.proofs.Edges.{edges_rise}
use Rattle.mg_throttle.proofs.Gathering.{GathersTo-start, GathersTo-broken}
use Rattle.mg_throttle.proofs.reach.gather.Goals as goal

pub first_edge-k-requires : goal.first_edge-k-requires
first_edge-k-requires c = subst (IsNonDecreasingBy (λ e. e.node)) (sym c.as_slice-edges.ensures) (edges_rise c.args.plan.now c.requires.valid)

pub loop-k-init : goal.loop-k-init
loop-k-init c =
    let point = subst (λ es. IsPartitionPoint (λ e. e.node < c.args.node) (λ e. c.args.node ≤ e.node) es c.first_edge-k.result) c.as_slice-edges.ensures c.first_edge-k.ensures in
    GathersTo-start c.args.plan.now c.args.rows.now c.args.node c.first_edge-k.result c.args.row.now (λ k d low within. point.0 k d (omega arith) low)

pub returns-then-edge-node : goal.returns-then-edge-node
returns-then-edge-node c =
    GathersTo-broken c.args.plan.now c.args.rows.now c.as_slice-edges.result.now c.args.node c.first_edge-k.result c.loop-k.k _ c.args.row.now c.loop-k.row
    c.as_slice-edges.ensures (edges_rise c.args.plan.now c.requires.valid) c.first_edge-k.ensures c.loop-k.auto.k c.loop-k-test.true c.if-edge-node.true c.loop-k.invariant

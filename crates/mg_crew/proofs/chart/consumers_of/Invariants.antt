-- The consumers of the edges so far.
use Rattle.std.proofs.Common.{◌≡◌, ◌+◌, ◌<◌, All, length, vec_len}
use Rattle.mg_crew.proofs.chart.consumers_of.Given as goal

abbrev pub invariant-loop-number : goal.invariant-loop-number
invariant-loop-number l = record {
  each : vec_len l.consumers ≡ l.number;
  below : All (λ node. node < length l.plan.nodes + 1) l.consumers.items;
}

-- The places of the edges so far.
use Rattle.std.proofs.Common.{◌≡◌, ◌+◌, ◌<◌, All, length, vec_len}
use Rattle.mg_crew.proofs.chart.starts_of.Given as goal

abbrev pub invariant-loop-number : goal.invariant-loop-number
invariant-loop-number l = record {
  each : vec_len l.starts ≡ l.number;
  below : All (λ place. place < length l.plan.nodes + length l.plan.inputs) l.starts.items;
}

-- The streams so far, and then the outputs of the core's nodes that are left, are all streams of the core.
use Rattle.std.proofs.Common.{◌≡◌, ◌≤◌, ◌++◌, filter, drop}
use Rattle.std.specs.List.{enumerate_from, flat_map}
use Rattle.mg_free.specs.Core.{is_core, output_streams, streams_of}
use Rattle.mg_free.proofs.core_streams.core_streams.Given as goal

abbrev pub invariant-loop-place : goal.invariant-loop-place
invariant-loop-place l = record {
  streams : l.streams.items ++ flat_map (λ e. output_streams l.plan e.0 e.1.outputs) (enumerate_from l.number (filter is_core (drop l.place l.plan.nodes))) ≡ streams_of l.plan;
  few : l.number ≤ l.place;
}

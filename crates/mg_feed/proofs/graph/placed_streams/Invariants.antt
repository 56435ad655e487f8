use Rattle.std.proofs.Common.{◌≡◌, ◌≤◌, ◌++◌, map, drop, slice_get, vec_len}
use Rattle.std.specs.List.{filter_map}
use Rattle.mg_feed.specs.Graph.{numbered, input_streams}
use Rattle.mg_feed.proofs.graph.placed_streams.Given as goal

-- the names so far stand before those of the inputs that are left
abbrev pub invariant-loop-input : goal.invariant-loop-input
invariant-loop-input l = record {
  names : numbered 0 (map (λ s. s.name) (input_streams l.plan))
      ≡ l.placed.items ++ numbered (vec_len l.placed) (map (λ s. s.name) (filter_map (slice_get l.plan.streams) (drop l.input l.plan.inputs)));
  few : vec_len l.placed ≤ l.input;
}

use Rattle.std.proofs.Common.{◌≡◌, ◌++◌, map, drop, slice_get}
use Rattle.std.specs.List.{filter_map}
use Rattle.mg_feed.specs.Graph.{input_streams}
use Rattle.mg_feed.proofs.graph.kinds_of.Given as goal

-- the kinds so far stand before those of the inputs that are left
abbrev pub invariant-loop-input : goal.invariant-loop-input
invariant-loop-input l = record {
  kinds : map (λ s. s.kind) (input_streams l.plan) ≡ l.kinds.items ++ map (λ s. s.kind) (filter_map (slice_get l.plan.streams) (drop l.input l.plan.inputs));
}

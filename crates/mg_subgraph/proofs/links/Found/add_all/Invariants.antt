use Rattle.std.proofs.Common.{◌≡◌, ◌≤◌, ◌||◌, ℕ, length, take}
use Rattle.mg_subgraph.specs.Code.Places.{listed, flag_at}
use Rattle.mg_subgraph.proofs.links.Found.add_all.Given as goal

abbrev pub invariant-loop-place : goal.invariant-loop-place
invariant-loop-place l = record {
  len : length l.self.flags.items ≡ length l.initial.self.flags.items;
  flags : (other : ℕ) → flag_at l.self.flags.items other ≡ (listed other (take l.place-index l.places) || flag_at l.initial.self.flags.items other);
  front : (n : ℕ) → n ≤ length l.initial.self.places.items → take n l.self.places.items ≡ take n l.initial.self.places.items;
  longer : length l.initial.self.places.items ≤ length l.self.places.items;
}

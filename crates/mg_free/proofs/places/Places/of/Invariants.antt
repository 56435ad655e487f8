-- The table has the places of the list's numbers from this place on.
use Rattle.std.proofs.Common.{◌≡◌, ℕ, ◌+◌, drop, length, slice_index_or}
use Rattle.mg_free.specs.Core.{place_in}
use Rattle.mg_free.proofs.places.Places.of.Given as goal

abbrev pub invariant-loop-place : goal.invariant-loop-place
invariant-loop-place l = record {
  long : length l.table.items ≡ l.count;
  places : (n : ℕ) → slice_index_or l.table.items n l.past ≡ l.place + place_in (drop l.place l.list) n;
}

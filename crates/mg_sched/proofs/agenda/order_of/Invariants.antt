-- The places so far are those of the first graph inputs.
use Rattle.std.proofs.Common.{◌≡◌, ◌+◌, length, vec_len}
use Rattle.std.specs.List.{range_with_len}
use Rattle.mg_sched.proofs.agenda.order_of.Given as goal

abbrev pub invariant-loop-place : goal.invariant-loop-place
invariant-loop-place l = record {
  count : length l.plan.nodes + vec_len l.places ≡ l.place;
  places : l.places.items ≡ range_with_len (length l.plan.nodes) (vec_len l.places);
}

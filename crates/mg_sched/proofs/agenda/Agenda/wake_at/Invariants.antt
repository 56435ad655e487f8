-- The places of the first inputs are in so far.
use Rattle.std.proofs.Common.{◌≡◌, ◌<◌, ◌+◌, ℕ, Some, length, slice_get}
use Rattle.mg_ready.specs.Ready.{IsIn}
use Rattle.mg_sched.proofs.agenda.Agenda.wake_at.Given as goal

abbrev pub invariant-loop-i : goal.invariant-loop-i
invariant-loop-i l = record {
  heads : length l.self.heads ≡ length l.fn.self.heads;
  starts : l.self.starts ≡ l.fn.self.starts;
  links : l.self.links ≡ l.fn.self.links;
  grows : (place : ℕ) → IsIn l.fn.self.touched place → IsIn l.self.touched place;
  woken : (i input : ℕ) → i < l.i → slice_get l.fn.inputs i ≡ Some input → IsIn l.self.touched (l.fn.from + input);
}

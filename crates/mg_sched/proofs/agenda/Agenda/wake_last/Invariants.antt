-- The places from the first of them on are in so far.
use Rattle.std.proofs.Common.{◌≡◌, ◌<◌, ◌≤◌, ℕ, length}
use Rattle.mg_ready.specs.Ready.{IsIn}
use Rattle.mg_sched.proofs.agenda.Agenda.wake_last.Given as goal

abbrev pub invariant-loop-place : goal.invariant-loop-place
invariant-loop-place l = record {
  heads : length l.self.heads ≡ length l.fn.self.heads;
  starts : l.self.starts ≡ l.fn.self.starts;
  links : l.self.links ≡ l.fn.self.links;
  grows : (place : ℕ) → IsIn l.fn.self.touched place → IsIn l.self.touched place;
  woken : (place : ℕ) → l.first ≤ place → place < l.place → IsIn l.self.touched place;
}

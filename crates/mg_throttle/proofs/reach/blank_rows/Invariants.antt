use Rattle.std.proofs.Common.{◌≡◌, All, length, replicate, false}
use Rattle.mg_throttle.proofs.reach.blank_rows.Given as goal

abbrev pub invariant-loop : goal.invariant-loop
invariant-loop l = (length l.rows.items ≡ l.counter) × All (λ row. row ≡ replicate l.feeders false) l.rows.items

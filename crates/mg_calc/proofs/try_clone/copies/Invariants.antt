-- The entries copied so far are the first of the list.
use Rattle.std.proofs.Common.{◌≡◌, take}
use Rattle.mg_calc.proofs.try_clone.copies.Given as goal

abbrev pub invariant-loop-entry : goal.invariant-loop-entry
invariant-loop-entry g l = l.copies.items ≡ take l.entry-index l.entries

-- What is laid at the first `i` outputs CLONE is appended.
use Rattle.std.proofs.Common.{◌≡◌, ◌++◌}
use Rattle.mg_calc.specs.Batch.{last_inner, clones_laid}
use Rattle.mg_batch.proofs.begin_loop.put_clones.Given as goal

abbrev pub invariant-loop-i : goal.invariant-loop-i
invariant-loop-i l = l.emission.items ≡ l.fn.emission.items ++ clones_laid l.i l.span.first (last_inner l.span.first l.count) l.count l.set

-- The outputs before the port are added to.
use Rattle.std.proofs.Common.{◌≡◌, ◌++◌, length, take, drop}
use Rattle.mg_answer.specs.Code.Adding.{with_set}
use Rattle.mg_answer.proofs.AddingSets.{AddedUpTo}
use Rattle.mg_answer.proofs.output_summary.add_set.Given as goal

abbrev pub invariant-loop-port : goal.invariant-loop-port
invariant-loop-port l = record {
  left : with_set l.fn.totals.items l.set ≡ take l.port l.totals.items ++ with_set (drop l.port l.totals.items) (drop l.port l.set);
  ports : length l.totals.items ≡ length l.fn.totals.items;
  within : AddedUpTo l.sets l.port l.totals.items;
}

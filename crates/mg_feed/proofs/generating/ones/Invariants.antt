use Rattle.std.proofs.Common.{◌≡◌, map, replicate, Some, pos, vec_len}
use Rattle.mg_value.specs.Payload.{int}
use Rattle.mg_calc.specs.Given.{given}
use Rattle.mg_feed.proofs.generating.ones.Given as goal

abbrev pub invariant-loop : goal.invariant-loop
invariant-loop l = record {
  sides : map given l.sides.items ≡ replicate l.counter (Some (int (pos 1)));
  number : vec_len l.sides ≡ l.counter;
}

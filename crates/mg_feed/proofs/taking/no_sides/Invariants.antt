use Rattle.std.proofs.Common.{◌≡◌, map, replicate, None, vec_len}
use Rattle.mg_calc.specs.Given.{given}
use Rattle.mg_feed.proofs.taking.no_sides.Given as goal

abbrev pub invariant-loop : goal.invariant-loop
invariant-loop l = record {
  sides : map given l.sides.items ≡ replicate l.counter None;
  number : vec_len l.sides ≡ l.counter;
}

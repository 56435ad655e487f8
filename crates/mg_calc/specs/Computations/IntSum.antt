-- IntSumCalculator: the sum of the numbers of a set.
use Rattle.std.specs.Prelude.{[], true, Some, Ok, Err, codes, if◌then◌else◌}
use Rattle.mg_value.specs.declared.kind.Kind.TheVariants.{Int}
use Rattle.mg_calc.specs.declared.cause.Cause.TheVariants.{Overflow}
use Rattle.mg_calc.specs.declared.computations.Formula.TheVariants.{Sum}
use Rattle.mg_calc.specs.Row.{Row, sets, out, KindRow}
use Rattle.mg_calc.specs.Values.{fits, total}

-- the exact sum of the present numbers, or Overflow
abbrev pub sum : Row
sum = sets (λ t set. if fits (total set) then Ok (out t (total set)) else Err Overflow)

abbrev pub told : KindRow
told = record { name = codes "IntSumCalculator"; options = []; wiring = record { many = true; takes = Int; gives = Int }; formula = λ settings. Some Sum }

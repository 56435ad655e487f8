-- IntMapCalculator: an operation on each number and an operand.
use Rattle.std.specs.Prelude.{◌∷◌, [], ℕ, ℤ, ◌+ℤ◌, ◌-ℤ◌, ◌*ℤ◌, List, false, Option, Some, None, option_map, codes, if◌then◌else◌}
use Rattle.std.specs.Option.{option_and_then}
use Rattle.std.specs.Str.{bytes_eq}
use Rattle.mg_value.specs.declared.kind.Kind.TheVariants.{Int}
use Rattle.mg_calc.specs.declared.computations.int_map.MapOp.{MapOp}
use Rattle.mg_calc.specs.declared.computations.int_map.MapOp.TheVariants.{Add, Subtract, Multiply}
use Rattle.mg_calc.specs.declared.computations.Formula.{Formula}
use Rattle.mg_calc.specs.declared.computations.Formula.TheVariants.{Map}
use Rattle.mg_calc.specs.Row.{Row, each, KindRow, Said, number_at, word_at}

-- the exact result of an operation on a number and an operand
abbrev pub mapped : MapOp → ℤ → ℤ → ℤ
mapped Add operand n = n +ℤ operand
mapped Subtract operand n = n -ℤ operand
mapped Multiply operand n = n *ℤ operand

-- the exact result, or Overflow
abbrev pub map : MapOp → ℤ → Row
map op operand = each (mapped op operand)

-- the operation that a word names, if it names one
abbrev pub operation_named : List ℕ → Option MapOp
operation_named name =
    if bytes_eq name (codes "ADD") then Some Add
    else (if bytes_eq name (codes "SUBTRACT") then Some Subtract
    else (if bytes_eq name (codes "MULTIPLY") then Some Multiply else None))

-- the map that the options set: an operation, and a number as its operand
abbrev pub map_set : List Said → Option Formula
map_set settings =
    option_and_then (λ op. option_map (λ operand. Map op operand) (number_at settings 1))
    (option_and_then operation_named (word_at settings 0))

abbrev pub told : KindRow
told = record { name = codes "IntMapCalculator"; options = codes "op" ∷ codes "operand" ∷ []; wiring = record { many = false; takes = Int; gives = Int }; formula = map_set }

-- The list of the built-in calculators that compute. Each has a file of its own in Computations.
pub mod IntSum
pub mod IntMap
pub mod RunningSum
use Rattle.std.specs.Prelude.{ℕ, List, [], ◌∷◌, Option, Some, None, if◌then◌else◌}
use Rattle.std.specs.Str.{bytes_eq}
use Rattle.mg_calc.specs.declared.computations.Formula.{Formula}
use Rattle.mg_calc.specs.declared.computations.Formula.TheVariants.{Sum, Map, Running}
use Rattle.mg_calc.specs.declared.computations.ComputationKind.{ComputationKind}
use Rattle.mg_calc.specs.declared.computations.ComputationKind.TheVariants.{IntSum as SumKind, IntMap as MapKind, RunningSum as RunningKind}
use Rattle.mg_calc.specs.Row.{Row, KindRow}
use Rattle.mg_calc.specs.Computations.IntSum as int_sum
use Rattle.mg_calc.specs.Computations.IntMap as int_map
use Rattle.mg_calc.specs.Computations.RunningSum as running_sum

-- what a formula computes
abbrev pub row_of : Formula → Row
row_of Sum = int_sum.sum
row_of (Map op operand) = int_map.map op operand
row_of Running = running_sum.running

-- what a kind tells of itself
abbrev pub kind_row : ComputationKind → KindRow
kind_row SumKind = int_sum.told
kind_row MapKind = int_map.told
kind_row RunningKind = running_sum.told

-- all kinds
abbrev pub kinds : List ComputationKind
kinds = SumKind ∷ MapKind ∷ RunningKind ∷ []

-- the kind of a list that has a name, if there is one
abbrev pub kind_among : List ComputationKind → List ℕ → Option ComputationKind
kind_among [] name = None
kind_among (kind ∷ more) name = if bytes_eq name (kind_row kind).name then Some kind else kind_among more name

-- the kind that has a name, if there is one
abbrev pub computation_named : List ℕ → Option ComputationKind
computation_named name = kind_among kinds name

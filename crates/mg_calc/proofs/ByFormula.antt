-- What a computation gives, by its formula.
use Rattle.std.proofs.Common.{◌≡◌, ℕ, List, Option, Result, sym, subst}
use Rattle.mg_value.specs.Plain.{Plain}
use Rattle.mg_value.specs.Packet.{Stamped}
use Rattle.mg_calc.specs.declared.emission.Laid.{Laid}
use Rattle.mg_calc.specs.declared.cause.CalcFault.{CalcFault}
use Rattle.mg_calc.specs.declared.computations.Formula.{Formula}
use Rattle.mg_calc.specs.Row.{Row, IsGiven}
use Rattle.mg_calc.specs.Computations.{row_of}

pub by_formula : (formula : Formula) (row : Row) (state : List Plain) (t : ℕ) (set : List (Option (Stamped Plain))) (result : Result (List Plain × List Laid) CalcFault)
    → IsGiven result row state t set → row_of formula ≡ row → IsGiven result (row_of formula) state t set
by_formula formula row state t set result given is = subst (λ (r : Row). IsGiven result r state t set) (sym is) given

-- The form of a state: what each law keeps from one call to the next.
use Rattle.std.specs.Prelude.{◌≡◌, ℕ, ℤ, pos, negsuc, ◌-◌, ◌<◌, ◌≤◌, ◌^◌, List, [], ◌∷◌, length, All, Some, IsTrue, ⊤}
use Rattle.mg_time.specs.Time.{raw_of}
use Rattle.mg_value.specs.Plain.{Plain, int, depth}
use Rattle.mg_calc.specs.Values.{fits, stored, kept_in}
use Rattle.mg_calc.specs.State.{time_kept, kept_list, full_places}
use Rattle.mg_calc.specs.Row.{Row, each, sets, keeping}
use Rattle.mg_calc.specs.Computations.{row_of}
use Rattle.mg_calc.specs.declared.law.Law.{Law}
use Rattle.mg_calc.specs.declared.law.Law.TheVariants.{Cloner, Thin, Compute, SideOnce, Tally, Scripted, BeginLoop, EndLoop}

-- a state of one number that passes a test, or the empty one
abbrev pub IsNumber : (ℤ → Type 0) → List Plain → Type 0
IsNumber P [] = ⊤
IsNumber P (int n ∷ []) = P n
IsNumber P _ = ⊥

-- a number is a count from 0 to a greatest one
abbrev pub CountsTo : ℕ → ℤ → Type 0
CountsTo most (pos n) = n ≤ most
CountsTo most (negsuc n) = ⊥

-- a state of as many places as there are lanes, or the empty one
abbrev pub ArePlaces : ℕ → List Plain → Type 0
ArePlaces lanes [] = ⊤
ArePlaces lanes state = (length state ≡ lanes) × All (λ p. stored (kept_in p) ≡ p) state

-- a state of one full place
abbrev pub IsFullPlace : List Plain → Type 0
IsFullPlace (p ∷ []) = (v : Plain) × (p ≡ stored (Some v))
IsFullPlace _ = ⊥

-- a state of full places, whose payloads may be items of a list
abbrev pub AreItems : List Plain → Type 0
AreItems state = (state ≡ full_places (kept_list state)) × All (λ v. depth v < 16) (kept_list state)

-- a state has the form that a row asks for: it is empty, or a number that fits in 64 signed bits
abbrev pub IsStateOfRow : Row → List Plain → Type 0
IsStateOfRow (each f) state = state ≡ []
IsStateOfRow (sets f) state = state ≡ []
IsStateOfRow (keeping f) state = IsNumber (λ n. IsTrue (fits n)) state

-- a state has the form that its law asks for; under a law that isn't named here it is empty
abbrev pub IsStateOf : Law → List Plain → Type 0
IsStateOf (Cloner lanes) state = ArePlaces lanes state
IsStateOf (Thin period) state = IsNumber (λ n. raw_of (time_kept n) ≡ n) state
IsStateOf (Compute computation) state = IsStateOfRow (row_of computation.formula) state
IsStateOf (SideOnce at) state = IsFullPlace state
IsStateOf Tally state = IsNumber (CountsTo (2 ^ 63 - 1)) state
IsStateOf (Scripted offset first steps last) state = IsNumber (CountsTo (length steps)) state
IsStateOf (BeginLoop clones always_end) state = IsNumber (CountsTo (2 ^ 63 - 4)) state
IsStateOf (EndLoop empty_as_bound) state = AreItems state
IsStateOf _ state = state ≡ []

-- Where a fault is: the names of the fields from the top, joined by `.`. After the name of a field that may stand more
-- than once comes `[k]`.
use Rattle.std.specs.Prelude.{ℕ, List, [], ◌∷◌, ◌++◌, Bool, if◌then◌else◌, count_by, Result, Ok, Err}
use Rattle.std.specs.Fmt.{decimal}
use Rattle.mg_text.specs.View.{Entry}
use Rattle.mg_config.specs.Values.{has_name}
use Rattle.mg_config.specs.declared.fault.ConfigFault.{ConfigFault}
use Rattle.mg_config.specs.declared.fault.ConfigFault.TheVariants.{UnknownField, WrongShape, Repeated, BadPort, OutOfMemory}

-- `name[k]`: the field that stands after k others of its name
abbrev pub numbered : List ℕ → ℕ → List ℕ
numbered name k = name ++ 91 ∷ decimal k ++ 93 ∷ []

-- how many of the fields have a name
abbrev pub count_of : List ℕ → List Entry → ℕ
count_of name fields = count_by (has_name name) fields

-- the part of a path that names a field which stands after others, and may stand more than once or not
abbrev pub step : Bool → List ℕ → List Entry → List ℕ
step many name before = if many then numbered name (count_of name before) else name

-- a path with a place in front
abbrev pub below : List ℕ → List ℕ → List ℕ
below place path = place ++ 46 ∷ path

-- a fault with a place in front of its path
abbrev pub within : List ℕ → ConfigFault → ConfigFault
within place (UnknownField path) = UnknownField (below place path)
within place (WrongShape path) = WrongShape (below place path)
within place (Repeated path) = Repeated (below place path)
within place (BadPort path cause) = BadPort (below place path) cause
within place OutOfMemory = OutOfMemory

abbrev pub result_within : {A : Type 0} → List ℕ → Result A ConfigFault → Result A ConfigFault
result_within place (Ok value) = Ok value
result_within place (Err fault) = Err (within place fault)

-- goes on with the value of a result, or keeps its fault
abbrev pub then_do : {A B : Type 0} → Result A ConfigFault → (A → Result B ConfigFault) → Result B ConfigFault
then_do (Ok value) next = next value
then_do (Err fault) next = Err fault

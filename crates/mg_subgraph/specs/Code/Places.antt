-- Files by their places in the library: the files that each file uses, and the files that are used.
use Rattle.std.specs.Prelude.{ℕ, ◌+◌, ◌≡◌, ◌<◌, List, [], ◌∷◌, if◌then◌else◌, Bool, true, false, ◌==◌, Option, None, Some, unwrap_or, length, slice_get}
use Rattle.std.specs.Option.{option_map_or}
use Rattle.std.specs.List.{list_any}
use Rattle.mg_config.specs.Config.{NodeView, GraphView}
use Rattle.mg_subgraph.specs.Library.{uses, uses_file}

-- whether a place is listed
abbrev pub listed : ℕ → List ℕ → Bool
listed place places = list_any (λ other. place == other) places

-- the flag at a place
abbrev pub flag_at : List Bool → ℕ → Bool
flag_at flags place = unwrap_or (slice_get flags place) false

-- how many flags are set
abbrev pub set_count : List Bool → ℕ
set_count [] = 0
set_count (flag ∷ flags) = (if flag then 1 else 0) + set_count flags

-- whether nodes use the file at a place directly
abbrev pub uses_at : List GraphView → List NodeView → ℕ → Bool
uses_at library nodes place = option_map_or (uses nodes) (slice_get library place) false

-- whether nodes use the file at a place, directly or not
abbrev pub reaches_at : List GraphView → List NodeView → ℕ → Bool
reaches_at library nodes place = option_map_or (uses_file library nodes) (slice_get library place) false

-- The links are for each file the places of the files that it uses directly.
pub record AreLinks (library : List GraphView) (links : List (List ℕ)) : Type 0 where
  pub same : length links ≡ length library
  pub linked : (place : ℕ) (file : GraphView) (list : List ℕ) → slice_get library place ≡ Some file → slice_get links place ≡ Some list
      → (other : ℕ) → listed other list ≡ uses_at library file.nodes other

-- Each listed place is that of a file, which has a list of links.
abbrev pub AreWithin : List (List ℕ) → List ℕ → Type 0
AreWithin links list = (place : ℕ) → listed place list ≡ true → place < length links

-- Each link leads to the place of a file, which has a list of links too.
abbrev pub AreClosed : List (List ℕ) → Type 0
AreClosed links = (place : ℕ) (list : List ℕ) → slice_get links place ≡ Some list → AreWithin links list

-- The flags are those of the least set of places with two properties. It has the listed places, and with each place the
-- places that its links lead to.
pub record IsReach (links : List (List ℕ)) (start : List ℕ) (flags : List Bool) : Type 0 where
  pub started : (place : ℕ) → listed place start ≡ true → flag_at flags place ≡ true
  pub closed : (place : ℕ) (list : List ℕ) (other : ℕ) → flag_at flags place ≡ true → slice_get links place ≡ Some list → listed other list ≡ true → flag_at flags other ≡ true
  pub least : (test : ℕ → Bool) → ((place : ℕ) → listed place start ≡ true → test place ≡ true)
      → ((place : ℕ) (list : List ℕ) (other : ℕ) → test place ≡ true → slice_get links place ≡ Some list → listed other list ≡ true → test other ≡ true)
      → (place : ℕ) → flag_at flags place ≡ true → test place ≡ true

-- The answer is whether links lead from the place back to it: whether its own links reach it.
abbrev pub IsCyclic : List (List ℕ) → ℕ → Bool → Type 0
IsCyclic links place cyclic = (list : List ℕ) → slice_get links place ≡ Some list → (flags : List Bool) × IsReach links list flags × (flag_at flags place ≡ cyclic)

-- The answer is the first place with its flag set from which links lead back to it. It is none if there is no such place.
abbrev pub IsFirstCycle : List (List ℕ) → List Bool → Option ℕ → Type 0
IsFirstCycle links flags None = (place : ℕ) → flag_at flags place ≡ true → IsCyclic links place false
IsFirstCycle links flags (Some found) =
    (found < length links) × (flag_at flags found ≡ true) × IsCyclic links found true × ((place : ℕ) → place < found → flag_at flags place ≡ true → IsCyclic links place false)

-- JSON values (RFC 8259) as payloads. A payload has one JSON value that says it. A value that says no payload has
-- faults.
use Rattle.std.specs.Prelude.{ℕ, ◌+◌, ◌^◌, List, [], ◌∷◌, ◌++◌, Option, slice_get, nat_lt, if◌then◌else◌}
use Rattle.serde_json.specs.Data as json
use Rattle.serde_json.specs.Find.{of_integer}
use Rattle.mg_value.specs.Plain.{Plain, flag, int, text, items, entries, Items, no_items, item, Entries, no_entries, entry}
use Rattle.mg_json.specs.declared.value_fault.ValueFault.{ValueFault}
use Rattle.mg_json.specs.declared.value_fault.ValueFault.TheVariants.{Fraction, Null, TooDeep, TooWide}

-- the JSON value that says a payload: a record is an object
abbrev mutual
  pub json_of : Plain → json.Data
  json_of (flag b) = json.boolean b
  json_of (int n) = json.number (of_integer n)
  json_of (text s) = json.string s
  json_of (items is) = json.array (json_items is)
  json_of (entries es) = json.object (json_members es)

  pub json_items : Items → json.Items
  json_items no_items = json.no_items
  json_items (item p ps) = json.item (json_of p) (json_items ps)

  pub json_members : Entries → json.Members
  json_members no_entries = json.no_members
  json_members (entry k p es) = json.member k (json_of p) (json_members es)

-- The fault of a number. A whole number from 2^63 to 2^64 - 1 is too wide. A number that is held as a float is a
-- fraction. A whole number beyond these is held as a float, so it is a fraction too.
abbrev pub number_faults : json.Num → List ValueFault
number_faults (json.unsigned n) = if nat_lt n (2 ^ 63) then [] else TooWide ∷ []
number_faults (json.negative z) = []
number_faults (json.float x) = Fraction ∷ []

-- a list or a record is too deep if it is the 17th of those inside one another, or lies deeper
abbrev pub depth_faults : ℕ → List ValueFault
depth_faults depth = if nat_lt 16 depth then TooDeep ∷ [] else []

-- the faults of a value, in its order; a list or a record here has the number `depth` among those inside one another
abbrev mutual
  pub faults_at : ℕ → json.Data → List ValueFault
  faults_at depth json.null = Null ∷ []
  faults_at depth (json.boolean b) = []
  faults_at depth (json.number n) = number_faults n
  faults_at depth (json.string s) = []
  faults_at depth (json.array ds) = depth_faults depth ++ items_faults (depth + 1) ds
  faults_at depth (json.object ms) = depth_faults depth ++ members_faults (depth + 1) ms

  pub items_faults : ℕ → json.Items → List ValueFault
  items_faults depth json.no_items = []
  items_faults depth (json.item d ds) = faults_at depth d ++ items_faults depth ds

  pub members_faults : ℕ → json.Members → List ValueFault
  members_faults depth json.no_members = []
  members_faults depth (json.member k d ms) = faults_at depth d ++ members_faults depth ms

-- the first of some faults
abbrev pub first : List ValueFault → Option ValueFault
first faults = slice_get faults 0

-- the first fault of a value, or none
abbrev pub first_fault : json.Data → Option ValueFault
first_fault value = first (faults_at 1 value)

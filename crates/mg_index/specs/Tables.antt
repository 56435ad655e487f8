-- What a table of names says of a list of texts.
use Rattle.std.specs.Prelude.{ℕ, ◌≡◌, List, Bool, Option, None, map, filter}
use Rattle.std.specs.Cow.{cow_str_bytes}
use Rattle.std.specs.Str.{bytes_eq}
use Rattle.indexmap.specs.IndexMap.{get_by}
use Rattle.mg_index.specs.Places.{place_of, place_again}
use Rattle.mg_index.specs.declared.name_table.NameTable.{NameTable}

-- the place that a table keeps of a name
abbrev pub kept_place : NameTable → List ℕ → Option ℕ
kept_place table name = get_by (λ key. bytes_eq name (cow_str_bytes key)) table.places

-- the names that a table keeps, in its order
abbrev pub kept_names : NameTable → List (List ℕ)
kept_names table = map (λ entry. cow_str_bytes entry.0) table.places.entries

-- The table of texts. It has the place at which each name stands first, and the place of the first name that stands
-- again. If no name stands again, it has all names in the order of the texts.
pub record IsTable (is_name : List ℕ → Bool) (table : NameTable) (texts : List (List ℕ)) : Type 0 where
  pub first : (name : List ℕ) → kept_place table name ≡ place_of is_name texts name
  pub again : table.again ≡ place_again is_name texts
  pub in_order : place_again is_name texts ≡ None → kept_names table ≡ filter is_name texts

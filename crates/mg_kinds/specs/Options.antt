-- The options of a node: what its calculator is told by the fields of its options message.
use Rattle.std.specs.Prelude.{ℕ, ℤ, List, [], ◌∷◌, ◌++◌, Bool, ◌||◌, nat_le, Option, None, Some, option_map, option_and_then, if◌then◌else◌, codes, count_by}
use Rattle.std.specs.List.{list_all}
use Rattle.std.specs.Str.{bytes_eq}
use Rattle.mg_text.specs.View.{Value, simple, inner, Entry}
use Rattle.mg_config.specs.Number.{is_one_of}
use Rattle.mg_config.specs.Values.{entries, has_name, values_of, first, long_number_in_value}

-- the names of a calculator's options message as an extension and as an Any's type (Protocol Buffers text format: extension and Any field
-- names)
abbrev pub extension_name : List ℕ → List ℕ
extension_name calculator = codes "[mediapipe." ++ calculator ++ codes "Options.ext]"

abbrev pub any_name : List ℕ → List ℕ
any_name calculator = codes "[type.googleapis.com/mediapipe." ++ calculator ++ codes "Options]"

-- whether a name is one of those of a calculator's options message
abbrev pub is_own : List ℕ → List ℕ → Bool
is_own calculator name = bytes_eq name (extension_name calculator) || bytes_eq name (any_name calculator)

-- the fields of a value that is a message; none if it is a scalar
abbrev pub fields_inside : Value → Option (List Entry)
fields_inside (simple kind bytes) = None
fields_inside (inner fields) = Some (entries fields)

-- the fields inside a field that is a calculator's own options message; none if it isn't
abbrev pub own_fields : List ℕ → Entry → Option (List Entry)
own_fields calculator field = if is_own calculator field.name then fields_inside field.value else None

-- the options that stand in these fields, if each field is an options message of the calculator
abbrev pub calculator_options : List ℕ → List Entry → Option (List Entry)
calculator_options calculator [] = Some []
calculator_options calculator (field ∷ fields) =
    option_and_then (λ own. option_map (λ more. own ++ more) (calculator_options calculator fields)) (own_fields calculator field)

-- whether each option has one of these names
abbrev pub are_known : List (List ℕ) → List Entry → Bool
are_known names options = list_all (λ option. is_one_of names option.name) options

-- whether none of these names is the name of two options
abbrev pub are_once : List (List ℕ) → List Entry → Bool
are_once names options = list_all (λ name. nat_le (count_by (has_name name) options) 1) names

-- what the first option of a name is set to, if there is one
abbrev pub set_to : List ℕ → List Entry → Option Value
set_to name options = first (values_of name options)

-- the number that a required option is set to
abbrev pub number : List ℕ → List Entry → Option ℤ
number name options = option_and_then long_number_in_value (set_to name options)

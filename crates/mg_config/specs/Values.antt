-- What values say, and what the fields of a name say.
use Rattle.std.specs.Prelude.{ℕ, List, [], ◌∷◌, Bool, false, ℤ, pos, Option, None, Some, unwrap_or, map, filter}
use Rattle.std.specs.Str.{bytes_eq}
use Rattle.mg_text.specs.Tree.{word, number, quoted, Fields, none, scalar, message, append}
use Rattle.mg_text.specs.View.{Value, simple, inner, Entry}
use Rattle.mg_config.specs.Number.{number_of, long_number_of, truth_of_word, truth_of_number}

abbrev pub entry : List ℕ → Value → Entry
entry name value = record { name = name; value = value }

-- the fields as a list
abbrev pub entries : Fields → List Entry
entries none = []
entries (scalar name kind bytes rest) = entry name (simple kind bytes) ∷ entries rest
entries (message name fields rest) = entry name (inner fields) ∷ entries rest

abbrev pub has_name : List ℕ → Entry → Bool
has_name name field = bytes_eq field.name name

-- the values of the fields of a name, in order
abbrev pub values_of : List ℕ → List Entry → List Value
values_of name fields = map (λ field. field.value) (filter (has_name name) fields)

-- the first of the values, if there is one
abbrev pub first : List Value → Option Value
first [] = None
first (value ∷ more) = Some value

-- the text of a value, or the empty text if it is no quoted text
abbrev pub text_of_value : Value → List ℕ
text_of_value (simple quoted bytes) = bytes
text_of_value value = []

abbrev pub text_of_first : Option Value → List ℕ
text_of_first None = []
text_of_first (Some value) = text_of_value value

-- the text of the first field of a name, or the empty text if there is none
abbrev pub text_in : List ℕ → List Entry → List ℕ
text_in name fields = text_of_first (first (values_of name fields))

-- the texts of all fields of a name
abbrev pub texts_in : List ℕ → List Entry → List (List ℕ)
texts_in name fields = map text_of_value (values_of name fields)

-- the number that a value spells, if it spells one in the range of 32 signed bits
abbrev pub number_in_value : Value → Option ℤ
number_in_value (simple number bytes) = number_of bytes
number_in_value value = None

-- the number that a value spells, if it spells one in the range of 64 signed bits, as numbers of options do
abbrev pub long_number_in_value : Value → Option ℤ
long_number_in_value (simple number bytes) = long_number_of bytes
long_number_in_value value = None

abbrev pub number_of_first : Option Value → ℤ
number_of_first None = pos 0
number_of_first (Some value) = unwrap_or (number_in_value value) (pos 0)

-- the number of the first field of a name, or 0 if there is no such field or it spells none
abbrev pub number_in : List ℕ → List Entry → ℤ
number_in name fields = number_of_first (first (values_of name fields))

-- the truth value that a value spells, if it spells one
abbrev pub truth_in_value : Value → Option Bool
truth_in_value (simple word bytes) = truth_of_word bytes
truth_in_value (simple number bytes) = truth_of_number bytes
truth_in_value value = None

abbrev pub truth_of_first : Option Value → Bool
truth_of_first None = false
truth_of_first (Some value) = unwrap_or (truth_in_value value) false

-- the truth value of the first field of a name, or false if there is no such field or it spells none
abbrev pub truth_in : List ℕ → List Entry → Bool
truth_in name fields = truth_of_first (first (values_of name fields))

-- the fields of a value, or no fields if it is no message
abbrev pub fields_of_value : Value → Fields
fields_of_value (inner fields) = fields
fields_of_value value = none

abbrev pub message_of_first : Option Value → Fields
message_of_first None = none
message_of_first (Some value) = fields_of_value value

-- the fields inside the first field of a name, or no fields if there is no such field or it is no message
abbrev pub message_in : List ℕ → List Entry → Fields
message_in name fields = message_of_first (first (values_of name fields))

-- for each field of a name the fields inside it
abbrev pub messages_in : List ℕ → List Entry → List Fields
messages_in name fields = map fields_of_value (values_of name fields)

-- the fields of messages, joined into one list
abbrev pub joined : List Fields → Fields
joined [] = none
joined (fields ∷ more) = append fields (joined more)

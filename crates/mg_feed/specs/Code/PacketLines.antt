-- The tokens of a packet line of the usual form, and what they say.
use Rattle.std.specs.Prelude.{◌≡◌, ℕ, List, [], ◌∷◌, Option, None, Some, codes, option_map}
use Rattle.json.specs.Token.{Token, begin_object, end_object, begin_array, end_array, key, string, number, boolean, null, bad}
use Rattle.serde_json.specs.Data as json
use Rattle.json.specs.Json.{value}
use Rattle.serde_json.specs.Read.{number_of, of_json, converted}

-- the number that a text writes
abbrev pub number_written : List ℕ → Option json.Data
number_written s = option_map json.number (number_of s)

-- the value that one token is by itself
abbrev pub scalar_of : Token → Option json.Data
scalar_of begin_object = None
scalar_of end_object = None
scalar_of begin_array = None
scalar_of end_array = None
scalar_of (key s) = None
scalar_of (string s) = Some (json.string s)
scalar_of (number s) = number_written s
scalar_of (boolean b) = Some (json.boolean b)
scalar_of null = Some json.null
scalar_of bad = None

-- the value that these tokens begin with, as it lies in the line's object, and the tokens after it
abbrev pub value_at : List Token → Option (json.Data × List Token)
value_at ts = converted of_json (value 126 ts)

-- the tokens of a packet line of the usual form up to its value: a stream's name and a timestamp, and these tokens after them
abbrev pub packet_line_tokens : List ℕ → List ℕ → List Token → List Token
packet_line_tokens name time rest =
    begin_object ∷ key (codes "stream") ∷ string name ∷ key (codes "ts") ∷ number time ∷ key (codes "value") ∷ rest

-- the tokens are a whole packet line of the usual form, with this name, this timestamp and this value
abbrev pub IsPacketLine : List Token → List ℕ → json.Data → json.Data → Type 0
IsPacketLine ts name time v =
    (s : List ℕ) × (rest : List Token) × (ts ≡ packet_line_tokens name s rest) × (number_written s ≡ Some time) × (value_at rest ≡ Some (v, end_object ∷ []))

-- the tokens `old` are this key, a number of this value, and the tokens `new`
abbrev pub NumberAt : List ℕ → List Token → json.Data → List Token → Type 0
NumberAt name old value new = (s : List ℕ) × (old ≡ key name ∷ number s ∷ new) × (number_written s ≡ Some value)

-- the tokens `old` are this key, this value, and the tokens `new`
abbrev pub ValueAt : List ℕ → List Token → json.Data → List Token → Type 0
ValueAt name old v new = (rest : List Token) × (old ≡ key name ∷ rest) × (value_at rest ≡ Some (v, new))

-- What the values of options say, if they say it.
use Rattle.std.specs.Prelude.{ℕ, ◌^◌, ◌-◌, List, [], ◌∷◌, Bool, true, ◌&&◌, int_le, ℤ, pos, negsuc, Option, None, Some, option_map, option_and_then, if◌then◌else◌, codes}
use Rattle.std.specs.Str.{bytes_eq}
use Rattle.mg_text.specs.Tree.{word, quoted}
use Rattle.mg_text.specs.View.{Value, simple, inner, Entry}
use Rattle.mg_time.specs.Time.{raw_of, least, greatest}
use Rattle.mg_value.specs.Plain.{Plain, flag, int, text}
use Rattle.mg_config.specs.Values.{entries, has_name, long_number_in_value, truth_in_value}
use Rattle.mg_calc.specs.declared.law.Keep.{Keep}
use Rattle.mg_calc.specs.declared.law.Keep.TheVariants.{Even, Odd, Negative, NonNegative}

-- what an option that may be absent says, by its value, or what it says when absent
abbrev pub or_absent : {A : Type 0} → A → (Value → Option A) → Option Value → Option A
or_absent absent read None = Some absent
or_absent absent read (Some value) = read value

-- what a required option says, by its value; none if it is absent
abbrev pub required : {A : Type 0} → (Value → Option A) → Option Value → Option A
required read value = option_and_then read value

-- a number, if it is from a low one to a high one
abbrev pub between : ℤ → ℤ → ℤ → Option ℤ
between low high n = if int_le low n && int_le n high then Some n else None

-- the number that a value says, in the range of 64 signed bits, if it is from a low one to a high one
abbrev pub number_between : ℤ → ℤ → Value → Option ℤ
number_between low high value = option_and_then (between low high) (long_number_in_value value)

-- the highest number of 64 signed bits
abbrev pub highest : ℤ
highest = pos (2 ^ 63 - 1)

-- the number that a value says, if it is above 0
abbrev pub positive : Value → Option ℤ
positive value = number_between (pos 1) highest value

-- the number that a value says, if a timestamp in the range has it
abbrev pub timestamp_number : Value → Option ℤ
timestamp_number value = number_between (raw_of least) (raw_of greatest) value

-- the most calls that a counting source may have
abbrev pub most_calls : ℤ
most_calls = pos 1000000

-- a number as a natural one, and 0 for a negative one
abbrev pub natural : ℤ → ℕ
natural (pos n) = n
natural (negsuc n) = 0

-- how many calls a value sets for a counting source, if it may have so many
abbrev pub call_count : Value → Option ℕ
call_count value = option_map natural (number_between (pos 0) most_calls value)

-- the most packets that a limiter may be allowed in flight
abbrev pub most_in_flight : ℤ
most_in_flight = pos 2147483647

-- how many packets a value allows a limiter in flight, if that is from 1 to the most
abbrev pub flight_limit : Value → Option ℕ
flight_limit value = option_map natural (number_between (pos 1) most_in_flight value)

-- the bytes of a value that is a word; empty for every other value
abbrev pub word_in : Value → List ℕ
word_in (simple word bytes) = bytes
word_in value = []

abbrev pub keep_named : List ℕ → Option Keep
keep_named name =
    if bytes_eq name (codes "EVEN") then Some Even
    else (if bytes_eq name (codes "ODD") then Some Odd
    else (if bytes_eq name (codes "NEGATIVE") then Some Negative
    else (if bytes_eq name (codes "NON_NEGATIVE") then Some NonNegative else None)))

-- which numbers IntFilterCalculator is told to keep by a value, if the value names one of the choices
abbrev pub keep_in : Value → Option Keep
keep_in value = keep_named (word_in value)

-- whether a value is ASYNC, the only thinner type that PacketThinnerCalculator has here
abbrev pub is_asynchronous : Value → Bool
is_asynchronous value = bytes_eq (word_in value) (codes "ASYNC")

-- whether an option is absent, or its value passes a test
abbrev pub is_absent_or : (Value → Bool) → Option Value → Bool
is_absent_or test None = true
is_absent_or test (Some value) = test value

-- the bytes of a value that is a quoted text
abbrev pub text_in_value : Value → Option (List ℕ)
text_in_value (simple quoted bytes) = Some bytes
text_in_value value = None

-- the payload that a field of a side packet's message gives, if it gives one
abbrev pub payload_of : Entry → Option Plain
payload_of field =
    if has_name (codes "int_value") field then option_map int (long_number_in_value field.value)
    else (if has_name (codes "bool_value") field then option_map flag (truth_in_value field.value)
    else (if has_name (codes "string_value") field then option_map text (text_in_value field.value) else None))

-- the payload that the fields of a side packet's message give, if there is just one field and it gives one
abbrev pub payload_by : List Entry → Option Plain
payload_by (field ∷ []) = payload_of field
payload_by fields = None

-- the payload of a side packet that stands in the graph, if its value is a message that gives one
abbrev pub payload_in : Value → Option Plain
payload_in (simple kind bytes) = None
payload_in (inner fields) = payload_by (entries fields)

-- the payload that each value gives, in order, or none if one of the values gives none
abbrev pub payloads_in : List Value → Option (List Plain)
payloads_in [] = Some []
payloads_in (value ∷ values) = option_and_then (λ payload. option_map (λ payloads. payload ∷ payloads) (payloads_in values)) (payload_in value)

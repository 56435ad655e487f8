-- What a packet line says. A line is JSON (RFC 8259), whose value is what `serde_json` reads: of equal keys the last
-- counts. A line has one of five forms, each an object with just these keys:
--
--     {"stream":s,"ts":t,"value":v}    a packet
--     {"stream":s,"bound":t}           a bound
--     {"stream":s,"close":true}        a close
--     {"side":s,"value":v}             a side packet
--     {"at":t,"packets":{s:v}}         packets of one or more streams at one time
--
-- A packet line means the same as packets of one stream at its time.
use Rattle.std.specs.Prelude.{ℕ, ◌+◌, ◌||◌, ◌&&◌, ◌==◌, ℤ, List, [], ◌∷◌, Bool, Option, None, Some, codes, nat_le, option_and_then, if◌then◌else◌}
use Rattle.std.specs.Str.{is_utf8, bytes_eq}
use Rattle.serde_json.specs.Data.{Data, null, boolean, number, string, array, object, Members, no_members, member}
use Rattle.serde_json.specs.Read.{read}
use Rattle.serde_json.specs.Find.{get, as_str, as_bool, as_object, as_i64}
use Rattle.mg_time.specs.Time.{place_of, least, greatest, pre_stream, post_stream}

-- a name with a value
pub record Named : Type 0 where
  pub name : List ℕ
  pub value : Data

-- what a packet line says
pub data Form : Type 0 where
  -- at a time a packet of each named stream
  packets : Data → List Named → Form
  -- a bound of a stream
  bound : List ℕ → Data → Form
  -- the close of a stream
  close : List ℕ → Form
  -- a side packet
  side : List ℕ → Data → Form

-- a space, a tab or a carriage return
abbrev pub is_blank : ℕ → Bool
is_blank b = b == 32 || b == 9 || b == 13

-- how many members an object has
abbrev pub count : Members → ℕ
count no_members = 0
count (member k d ms) = 1 + count ms

abbrev pub member_count : Data → ℕ
member_count null = 0
member_count (boolean b) = 0
member_count (number n) = 0
member_count (string s) = 0
member_count (array ds) = 0
member_count (object ms) = count ms

-- the members of an object, in the byte order of their names
abbrev pub listed : Members → List Named
listed no_members = []
listed (member k d ms) = record { name = k; value = d } ∷ listed ms

-- the text at a key of an object, if one is there
abbrev pub text_at : List ℕ → Data → Option (List ℕ)
text_at key d = option_and_then as_str (get key d)

-- the truth value at a key of an object, if one is there
abbrev pub flag_at : List ℕ → Data → Option Bool
flag_at key d = option_and_then as_bool (get key d)

-- the members of the object at a key of an object, if one is there
abbrev pub members_at : List ℕ → Data → Option Members
members_at key d = option_and_then as_object (get key d)

-- the forms, each from the members that it needs, if all are there
abbrev pub packet_form : Option (List ℕ) → Option Data → Option Data → Option Form
packet_form None time value = None
packet_form (Some name) None value = None
packet_form (Some name) (Some time) None = None
packet_form (Some name) (Some time) (Some value) = Some (packets time (record { name = name; value = value } ∷ []))

abbrev pub bound_form : Option (List ℕ) → Option Data → Option Form
bound_form None time = None
bound_form (Some name) None = None
bound_form (Some name) (Some time) = Some (bound name time)

abbrev pub close_form : Option (List ℕ) → Option Bool → Option Form
close_form None flag = None
close_form (Some name) None = None
close_form (Some name) (Some flag) = if flag then Some (close name) else None

abbrev pub side_form : Option (List ℕ) → Option Data → Option Form
side_form None value = None
side_form (Some name) None = None
side_form (Some name) (Some value) = Some (side name value)

abbrev pub packets_form : Option Data → Option Members → Option Form
packets_form None ms = None
packets_form (Some time) None = None
packets_form (Some time) (Some no_members) = None
packets_form (Some time) (Some (member k d ms)) = Some (packets time (listed (member k d ms)))

-- the first form, or the other form if there is no first
abbrev pub either : Option Form → Option Form → Option Form
either None other = other
either (Some form) other = Some form

-- the form of an object of two members, if it has one
abbrev pub two_form : Data → Option Form
two_form d =
    either (bound_form (text_at (codes "stream") d) (get (codes "bound") d))
    (either (close_form (text_at (codes "stream") d) (flag_at (codes "close") d))
    (either (side_form (text_at (codes "side") d) (get (codes "value") d))
    (packets_form (get (codes "at") d) (members_at (codes "packets") d))))

-- the form of a JSON value, if it has one
abbrev pub form_of : Data → Option Form
form_of d =
    if member_count d == 3 then packet_form (text_at (codes "stream") d) (get (codes "ts") d) (get (codes "value") d)
    else (if member_count d == 2 then two_form d else None)

-- the JSON value of a text, which is UTF-8 as JSON has to be
unfoldable pub json_value : List ℕ → Option Data
json_value text = if is_utf8 text then read text else None

-- Times --

-- whether a number is that of a time of the range
abbrev pub is_of_range : ℤ → Bool
is_of_range time = nat_le least (place_of time) && nat_le (place_of time) greatest

-- the time of a number, if it is in the range
abbrev pub time_numbered : ℤ → Option ℕ
time_numbered z = if is_of_range z then Some (place_of z) else None

-- the time of a name, if it is one of the two
abbrev pub time_named : List ℕ → Option ℕ
time_named s = if bytes_eq s (codes "PreStream") then Some pre_stream else (if bytes_eq s (codes "PostStream") then Some post_stream else None)

-- The time that a JSON value is: a whole number in the range, or one of two texts.
abbrev pub time_of : Data → Option ℕ
time_of null = None
time_of (boolean b) = None
time_of (number n) = option_and_then time_numbered (as_i64 n)
time_of (string s) = time_named s
time_of (array ds) = None
time_of (object ms) = None

-- A JSON value that is read from a text. Its texts are UTF-8, the keys of its objects ascend, and its whole numbers have 64 bits.
use Rattle.std.proofs.Common.{◌≡◌, ◌<◌, ◌≤◌, ◌^◌, ◌==◌, ◌&&◌, ℕ, zero, suc, pos, negsuc, neg_ℤ, List, [], ◌∷◌, length, drop, slice_index, Bool, true, false, nat_lt, nat_le, Option, Some, None, IfSome, option_map, option_and_then, IsUtf8, Less, Greater, Equal, refl, ap, ◌∙◌, arith, if◌then◌else◌}
use Rattle.std.specs.Float.{binary64, float_is_finite}
use Rattle.std.specs.Ordering.{nat_cmp, match_ordering, ordering_reverse}
use Rattle.std.specs.declared.cmp.Ordering.{Ordering}
use Rattle.std.specs.Cmp.Lexicographic.{slice_cmp}
use Rattle.std.specs.Str.{is_utf8}
use Rattle.std.proofs.lemmas.Bool.{and_parts}
use Rattle.std.proofs.lemmas.Bool.Decides.{nat_tests}
use Rattle.std.proofs.lemmas.Cmp.{nat_list_cmp_total}
use Rattle.std.proofs.lemmas.Str.{IsUtf8-from_is_utf8}
use Rattle.std.specs.Float.Numeral.{minus, Parts, scan_numeral as scan, numeral_digits as digits_of, nearest_float as nearest}
use Rattle.json.specs.Lex.{tokens}
use Rattle.json.specs.Token.{Token, begin_object, end_object, begin_array, end_array, key, string, number, boolean, null, bad}
use Rattle.json.specs.Json as json
use Rattle.serde_json.specs.Data as serde
use Rattle.serde_json.specs.Data.{Num, unsigned, negative, float, Data, Items, no_items, item, Members, no_members, member, put}
use Rattle.serde_json.specs.Read.{is_integer, float_of, number_from, number_of, of_json, of_items, of_members, read, max_depth}
use Rattle.mg_feed.specs.Form.{json_value}
use Rattle.mg_trace.specs.Readable.{IsBelow}
use Rattle.mg_trace.proofs.TextsRead.{HaveTexts, texts_of}

-- The tree of a text --

-- the texts of a tree are UTF-8
abbrev mutual
  TreeHasTexts : json.Json → Type 0
  TreeHasTexts json.null = Unit {0}
  TreeHasTexts (json.boolean b) = Unit {0}
  TreeHasTexts (json.number s) = Unit {0}
  TreeHasTexts (json.string s) = IsUtf8 s
  TreeHasTexts (json.array js) = ItemsHaveTexts js
  TreeHasTexts (json.object ms) = MembersHaveTexts ms

  ItemsHaveTexts : json.Items → Type 0
  ItemsHaveTexts json.no_items = Unit {0}
  ItemsHaveTexts (json.item j js) = TreeHasTexts j × ItemsHaveTexts js

  MembersHaveTexts : json.Members → Type 0
  MembersHaveTexts json.no_members = Unit {0}
  MembersHaveTexts (json.member k j ms) = IsUtf8 k × TreeHasTexts j × MembersHaveTexts ms

-- what is parsed has them, and so have the tokens that are left
abbrev Parsed : {A : Type 0} → (A → Type 0) → Option (A × List Token) → Type 0
Parsed Has o = IfSome o (λ p. Has p.0 × HaveTexts p.1)

abbrev Parses : {A : Type 0} → (A → Type 0) → json.Parse A → Type 0
Parses Has parse = (ts : List Token) → HaveTexts ts → Parsed Has (parse ts)

parsed_map : {A B : Type 0} (P : A → Type 0) (Q : B → Type 0) (f : A → B) (o : Option (A × List Token)) → ((a : A) → P a → Q (f a)) → Parsed P o → Parsed Q (json.parse_map f o)
parsed_map P Q f None step h = tt
parsed_map P Q f (Some r) step h = (step r.0 h.0, h.1)

parsed_then : {A B : Type 0} (P : A → Type 0) (Q : B → Type 0) (f : A × List Token → Option (B × List Token)) (o : Option (A × List Token)) → ((r : A × List Token) → P r.0 → HaveTexts r.1 → Parsed Q (f r))
    → Parsed P o → Parsed Q (option_and_then f o)
parsed_then P Q f None step h = tt
parsed_then P Q f (Some r) step h = step r h.0 h.1

end_parsed : (ts : List Token) → HaveTexts ts → IfSome (json.after_end_array ts) HaveTexts
end_parsed [] h = tt
end_parsed (begin_object ∷ ts) h = tt
end_parsed (end_object ∷ ts) h = tt
end_parsed (begin_array ∷ ts) h = tt
end_parsed (end_array ∷ ts) h = h.1
end_parsed (key s ∷ ts) h = tt
end_parsed (string s ∷ ts) h = tt
end_parsed (number s ∷ ts) h = tt
end_parsed (boolean b ∷ ts) h = tt
end_parsed (null ∷ ts) h = tt
end_parsed (bad ∷ ts) h = tt

abbrev KeyHasText : Option (List ℕ) → Type 0
KeyHasText o = IfSome o IsUtf8

key_parsed : (ts : List Token) → HaveTexts ts → Parsed KeyHasText (json.read_key ts)
key_parsed [] h = tt
key_parsed (begin_object ∷ ts) h = tt
key_parsed (end_object ∷ ts) h = (tt, h.1)
key_parsed (begin_array ∷ ts) h = tt
key_parsed (end_array ∷ ts) h = tt
key_parsed (key s ∷ ts) h = (h.0, h.1)
key_parsed (string s ∷ ts) h = tt
key_parsed (number s ∷ ts) h = tt
key_parsed (boolean b ∷ ts) h = tt
key_parsed (null ∷ ts) h = tt
key_parsed (bad ∷ ts) h = tt

items_next : (value : json.Parse json.Json) (more : json.Parse json.Items) (ts : List Token) (o : Option (List Token)) → Parses TreeHasTexts value → Parses ItemsHaveTexts more → HaveTexts ts → IfSome o HaveTexts
    → Parsed ItemsHaveTexts (json.items_step value more ts o)
items_next value more ts (Some rest) one all h left = (tt, left)
items_next value more ts None one all h left =
    parsed_then TreeHasTexts ItemsHaveTexts (λ p. json.parse_map (json.item p.0) (more p.1)) (value ts)
    (λ r has later. parsed_map ItemsHaveTexts ItemsHaveTexts (json.item r.0) (more r.1) (λ js each. (has, each)) (all r.1 later)) (one ts h)

items_parsed : (value : json.Parse json.Json) (n : ℕ) → Parses TreeHasTexts value → Parses ItemsHaveTexts (json.items value n)
unfolding json.items
items_parsed value zero one ts h = tt
items_parsed value (suc n) one ts h = items_next value (json.items value n) ts (json.after_end_array ts) one (items_parsed value n one) h (end_parsed ts h)

members_next : (value : json.Parse json.Json) (more : json.Parse json.Members) (o : Option (List ℕ)) (ts : List Token) → Parses TreeHasTexts value → Parses MembersHaveTexts more → KeyHasText o → HaveTexts ts
    → Parsed MembersHaveTexts (json.members_step value more o ts)
members_next value more None ts one all k h = (tt, h)
members_next value more (Some s) ts one all k h =
    parsed_then TreeHasTexts MembersHaveTexts (λ p. json.parse_map (json.member s p.0) (more p.1)) (value ts)
    (λ r has later. parsed_map MembersHaveTexts MembersHaveTexts (json.member s r.0) (more r.1) (λ ms each. (k, has, each)) (all r.1 later)) (one ts h)

members_parsed : (value : json.Parse json.Json) (n : ℕ) → Parses TreeHasTexts value → Parses MembersHaveTexts (json.members value n)
unfolding json.members
members_parsed value zero one ts h = tt
members_parsed value (suc n) one ts h =
    parsed_then KeyHasText MembersHaveTexts (λ p. json.members_step value (json.members value n) p.0 p.1) (json.read_key ts)
    (λ r k later. members_next value (json.members value n) r.0 r.1 one (members_parsed value n one) k later) (key_parsed ts h)

value_with_parsed : (a : json.Parse json.Items) (o : json.Parse json.Members) → Parses ItemsHaveTexts a → Parses MembersHaveTexts o → Parses TreeHasTexts (json.value_with a o)
value_with_parsed a o items members [] h = tt
value_with_parsed a o items members (begin_object ∷ ts) h = parsed_map MembersHaveTexts TreeHasTexts json.object (o ts) (λ ms each. each) (members ts h.1)
value_with_parsed a o items members (end_object ∷ ts) h = tt
value_with_parsed a o items members (begin_array ∷ ts) h = parsed_map ItemsHaveTexts TreeHasTexts json.array (a ts) (λ js each. each) (items ts h.1)
value_with_parsed a o items members (end_array ∷ ts) h = tt
value_with_parsed a o items members (key s ∷ ts) h = tt
value_with_parsed a o items members (string s ∷ ts) h = (h.0, h.1)
value_with_parsed a o items members (number s ∷ ts) h = (tt, h.1)
value_with_parsed a o items members (boolean b ∷ ts) h = (tt, h.1)
value_with_parsed a o items members (null ∷ ts) h = (tt, h.1)
value_with_parsed a o items members (bad ∷ ts) h = tt

value_parsed : (depth : ℕ) → Parses TreeHasTexts (json.value depth)
unfolding json.value
value_parsed zero = value_with_parsed (λ ts. None) (λ ts. None) (λ ts h. tt) (λ ts h. tt)
value_parsed (suc depth) =
    value_with_parsed (λ ts. json.items (json.value depth) (length ts) ts) (λ ts. json.members (json.value depth) (length ts) ts)
    (λ ts h. items_parsed (json.value depth) (length ts) (value_parsed depth) ts h) (λ ts h. members_parsed (json.value depth) (length ts) (value_parsed depth) ts h)

last_parsed : (j : json.Json) (ts : List Token) → TreeHasTexts j → IfSome (json.if_last j ts) TreeHasTexts
last_parsed j [] h = h
last_parsed j (t ∷ ts) h = tt

-- Its value --

-- a number that is held as an unsigned or a signed number fits
abbrev pub IsReadNumber : Num → Type 0
IsReadNumber (unsigned n) = n < 2 ^ 64
IsReadNumber (negative (pos n)) = ⊥
IsReadNumber (negative (negsuc n)) = n < 2 ^ 63
IsReadNumber (float x) = Unit {0}

-- the texts of a value are UTF-8, the keys of its objects ascend, and its whole numbers fit
abbrev mutual
  pub IsRead : Data → Type 0
  IsRead serde.null = Unit {0}
  IsRead (serde.boolean b) = Unit {0}
  IsRead (serde.number n) = IsReadNumber n
  IsRead (serde.string s) = IsUtf8 s
  IsRead (serde.array ds) = ItemsAreRead ds
  IsRead (serde.object ms) = MembersAreRead ms

  pub ItemsAreRead : Items → Type 0
  ItemsAreRead no_items = Unit {0}
  ItemsAreRead (item d ds) = IsRead d × ItemsAreRead ds

  pub MembersAreRead : Members → Type 0
  MembersAreRead no_members = Unit {0}
  MembersAreRead (member k d ms) = IsUtf8 k × IsRead d × IsBelow k ms × MembersAreRead ms

float_is : (sign : Bool) (p : Parts) → IfSome (float_of sign p) IsReadNumber
float_is sign p = by (float_is_finite (nearest binary64 sign p))
  where
    by : (b : Bool) → IfSome (if b then Some (float (nearest binary64 sign p)) else None) IsReadNumber
    by true = tt
    by false = tt

unsigned_by : (t : Bool) (n : ℕ) (o : Option Num) → (t ≡ true → n < 2 ^ 64) → IfSome o IsReadNumber → IfSome (if t then Some (unsigned n) else o) IsReadNumber
unsigned_by true n o fits other = fits refl
unsigned_by false n o fits other = other

signed_is : (n : ℕ) → 0 < n → n ≤ 2 ^ 63 → IsReadNumber (negative (neg_ℤ (pos n)))
signed_is zero some fits = absurd (omega (arith, some))
signed_is (suc n) some fits = omega (arith, fits)

negative_by : (t : Bool) (n : ℕ) (o : Option Num) → (t ≡ true → (0 < n) × (n ≤ 2 ^ 63)) → IfSome o IsReadNumber → IfSome (if t then Some (negative (neg_ℤ (pos n))) else o) IsReadNumber
negative_by true n o fits other = (let f = fits refl in signed_is n f.0 f.1)
negative_by false n o fits other = other

below_by : (a b : ℕ) → nat_lt a b ≡ true → a < b
below_by a b is = grind (arith, nat_tests, is)

most_by : (a b : ℕ) → nat_le a b ≡ true → a ≤ b
most_by a b is = grind (arith, nat_tests, is)

number_is_read : (sign : Bool) (p : Parts) → IfSome (number_from sign p) IsReadNumber
number_is_read false p =
    unsigned_by (is_integer p && nat_lt (digits_of p) (2 ^ 64)) (digits_of p) (float_of false p) (λ is. below_by (digits_of p) (2 ^ 64) (and_parts (is_integer p) (nat_lt (digits_of p) (2 ^ 64)) is).1) (float_is false p)
number_is_read true p =
    negative_by (is_integer p && nat_lt 0 (digits_of p) && nat_le (digits_of p) (2 ^ 63)) (digits_of p) (float_of true p)
    (λ is. let both = and_parts (is_integer p && nat_lt 0 (digits_of p)) (nat_le (digits_of p) (2 ^ 63)) is in
    (below_by 0 (digits_of p) (and_parts (is_integer p) (nat_lt 0 (digits_of p)) both.0).1, most_by (digits_of p) (2 ^ 63) both.1)) (float_is true p)

if_either : {A : Type 0} (P : A → Type 0) (b : Bool) (x y : Option A) → IfSome x P → IfSome y P → IfSome (if b then x else y) P
if_either P true x y one two = one
if_either P false x y one two = two

number_of_is : (s : List ℕ) → IfSome (number_of s) IsReadNumber
unfolding number_of
number_of_is s =
    if_either IsReadNumber (slice_index s 0 == minus) (number_from true (scan (drop 1 s))) (number_from false (scan s)) (number_is_read true (scan (drop 1 s))) (number_is_read false (scan s))

-- one more key

less_turned : (a b : List ℕ) → slice_cmp nat_cmp a b ≡ Greater → slice_cmp nat_cmp b a ≡ Less
less_turned a b e = nat_list_cmp_total.antisymm b a ∙ ap ordering_reverse e

below_on : (k l : List ℕ) (ms : Members) → slice_cmp nat_cmp k l ≡ Less → IsBelow l ms → IsBelow k ms
below_on k l no_members less below = tt
below_on k l (member m e ms) less below = (nat_list_cmp_total.trans k l m less below.0, below_on k l ms less below.1)

below_match : (j : List ℕ) (o : Ordering) (a b c : Members) → IsBelow j a → IsBelow j b → IsBelow j c → IsBelow j (match_ordering o a b c)
below_match j Less a b c x y z = x
below_match j Equal a b c x y z = y
below_match j Greater a b c x y z = z

below_put : (j k : List ℕ) (d : Data) (ms : Members) → slice_cmp nat_cmp j k ≡ Less → IsBelow j ms → IsBelow j (put k d ms)
below_put j k d no_members less below = (less, tt)
below_put j k d (member l e ms) less below =
    below_match j (slice_cmp nat_cmp k l) (member k d (member l e ms)) (member l d ms) (member l e (put k d ms))
    (less, below) below (below.0, below_put j k d ms less below.1)

read_match : (o : Ordering) (k l : List ℕ) (d e : Data) (ms : Members) → slice_cmp nat_cmp k l ≡ o → IsUtf8 k → IsRead d → MembersAreRead (member l e ms) → MembersAreRead (put k d ms)
    → MembersAreRead (match_ordering o (member k d (member l e ms)) (member l d ms) (member l e (put k d ms)))
read_match Less k l d e ms is utf8 inner all more = (utf8, inner, (is, below_on k l ms is all.2), all)
read_match Equal k l d e ms is utf8 inner all more = (all.0, inner, all.2, all.3)
read_match Greater k l d e ms is utf8 inner all more = (all.0, all.1, below_put l k d ms (less_turned k l is) all.2, more)

read_put : (k : List ℕ) (d : Data) (ms : Members) → IsUtf8 k → IsRead d → MembersAreRead ms → MembersAreRead (put k d ms)
read_put k d no_members utf8 inner all = (utf8, inner, tt, tt)
read_put k d (member l e ms) utf8 inner all = read_match (slice_cmp nat_cmp k l) k l d e ms refl utf8 inner all (read_put k d ms utf8 inner all.3)

-- what is read of a tree

if_map : {A B : Type 0} (P : A → Type 0) (Q : B → Type 0) (f : A → B) (o : Option A) → ((a : A) → P a → Q (f a)) → IfSome o P → IfSome (option_map f o) Q
if_map P Q f None step h = tt
if_map P Q f (Some a) step h = step a h

pub if_then : {A B : Type 0} (P : A → Type 0) (Q : B → Type 0) (f : A → Option B) (o : Option A) → ((a : A) → P a → IfSome (f a) Q) → IfSome o P → IfSome (option_and_then f o) Q
if_then P Q f None step h = tt
if_then P Q f (Some a) step h = step a h

mutual
  data_is_read : (j : json.Json) → TreeHasTexts j → IfSome (of_json j) IsRead
  data_is_read json.null h = tt
  data_is_read (json.boolean b) h = tt
  data_is_read (json.number s) h = if_map IsReadNumber IsRead serde.number (number_of s) (λ n fits. fits) (number_of_is s)
  data_is_read (json.string s) h = h
  data_is_read (json.array js) h = if_map ItemsAreRead IsRead serde.array (of_items js) (λ ds each. each) (items_are_read js h)
  data_is_read (json.object ms) h = if_map MembersAreRead IsRead serde.object (of_members ms no_members) (λ ms each. each) (members_are_read ms no_members h tt)

  items_are_read : (js : json.Items) → ItemsHaveTexts js → IfSome (of_items js) ItemsAreRead
  items_are_read json.no_items h = tt
  items_are_read (json.item j js) h =
      if_then IsRead ItemsAreRead (λ d. option_map (item d) (of_items js)) (of_json j) (λ d inner. if_map ItemsAreRead ItemsAreRead (item d) (of_items js) (λ ds each. (inner, each)) (items_are_read js h.1)) (data_is_read j h.0)

  members_are_read : (ms : json.Members) (found : Members) → MembersHaveTexts ms → MembersAreRead found → IfSome (of_members ms found) MembersAreRead
  members_are_read json.no_members found h all = all
  members_are_read (json.member k j ms) found h all =
      if_then IsRead MembersAreRead (λ d. of_members ms (put k d found)) (of_json j) (λ d inner. members_are_read ms (put k d found) h.2 (read_put k d found h.0 inner all)) (data_is_read j h.1)

-- what is read of a text

text_is_read : (text : List ℕ) → IsUtf8 text → IfSome (read text) IsRead
text_is_read text utf8 =
    if_then TreeHasTexts IsRead of_json (option_and_then (λ p. json.if_last p.0 p.1) (json.value max_depth (tokens text))) (λ j has. data_is_read j has)
    (if_then (λ p. TreeHasTexts p.0 × HaveTexts p.1) TreeHasTexts (λ p. json.if_last p.0 p.1) (json.value max_depth (tokens text)) (λ p has. last_parsed p.0 p.1 has.0)
    (value_parsed max_depth (tokens text) (texts_of text utf8)))

line_by : (b : Bool) (text : List ℕ) → (b ≡ true → IsUtf8 text) → IfSome (if b then read text else None) IsRead
line_by true text utf8 = text_is_read text (utf8 refl)
line_by false text utf8 = tt

-- the JSON value of a line
pub line_is_read : (text : List ℕ) → IfSome (json_value text) IsRead
unfolding json_value
line_is_read text = line_by (is_utf8 text) text (λ is. IsUtf8-from_is_utf8 text is)

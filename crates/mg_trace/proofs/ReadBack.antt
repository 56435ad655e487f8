-- What is written of a readable JSON value is read as that value.
use Rattle.std.proofs.Common.{◌≡◌, ◌≤◌, ℕ, pos, negsuc, List, [], ◌∷◌, Bool, true, false, Option, Some, option_map, option_and_then, IsUtf8, Less, Greater, decimal, refl, suc, max, sym, ap, ap₂, ◌∙◌, arith, append-nil}
use Rattle.std.specs.Fmt.{signed_decimal}
use Rattle.std.specs.Ordering.{nat_cmp, ordering_reverse}
use Rattle.std.specs.Cmp.Lexicographic.{slice_cmp}
use Rattle.std.proofs.lemmas.Cmp.{nat_list_cmp_total}
use Rattle.std.proofs.lemmas.Fmt.{IsAscii-decimal, IsAscii-signed}
use Rattle.std.proofs.lemmas.Str.{IsUtf8-from_ascii, IsUtf8-append}
use Rattle.json.specs.Lex.{tokens}
use Rattle.json.specs.Token.{Token}
use Rattle.json.specs.Json as json
use Rattle.json.specs.Tree as tree
use Rattle.json.specs.Print.{quoted}
use Rattle.json.proofs.Printed.Decimals.{IsNumber-decimal, IsNumber-signed_decimal}
use Rattle.json.proofs.Printed.Tokens.{tokens-print}
use Rattle.json.proofs.Printed.Trees.{value-json_tokens, ArePrintable-json_tokens}
use Rattle.json.proofs.Printed.Utf8.{IsUtf8-quoted, IsUtf8-are_ascii, IsUtf8-boolean}
use Rattle.serde_json.specs.Data.{Num, unsigned, negative, float, Data, null, boolean, number, string, array, object, Items, no_items, item, Members, no_members, member, put, depth, items_depth, members_depth}
use Rattle.serde_json.specs.Read.{number_of, of_json, of_items, of_members, read, max_depth}
use Rattle.serde_json.specs.Written.{number_text, outline, items_outline, members_outline, comma_if, compact_text, items_text, members_text}
use Rattle.serde_json.proofs.Numbers.{number_of-decimal, number_of-negative}
use Rattle.serde_json.proofs.Texts.{print-outline}
use Rattle.mg_feed.specs.Form.{json_value}
use Rattle.mg_feed.proofs.Json.{json_value-read}
use Rattle.mg_trace.specs.Readable.{IsReadableNumber, IsBelow, IsReadable, ItemsAreReadable, MembersAreReadable}

-- what is read of the tokens of a text
abbrev whole : Option (json.Json × List Token) → Option Data
whole o = option_and_then of_json (option_and_then (λ p. json.if_last p.0 p.1) o)

-- Its numbers are read back --

number_back : (n : Num) → IsReadableNumber n → number_of (number_text n) ≡ Some n
number_back (unsigned n) h = number_of-decimal n h
number_back (negative (pos n)) h = absurd h
number_back (negative (negsuc n)) h = number_of-negative n h
number_back (float x) h = absurd h

number_is : (n : Num) → IsReadableNumber n → tree.HasNumbers (json.number (number_text n))
number_is (unsigned n) h = IsNumber-decimal n h
number_is (negative (pos n)) h = absurd h
number_is (negative (negsuc n)) h = IsNumber-signed_decimal (negsuc n) (omega arith)
number_is (float x) h = absurd h

-- The members go in one after the other --

-- members after other members
abbrev behind : Members → Members → Members
behind no_members ms = ms
behind (member k d found) ms = member k d (behind found ms)

-- all keys that were found stand below one, and below those of some members
abbrev AreBelowKey : Members → List ℕ → Type 0
AreBelowKey no_members k = Unit {0}
AreBelowKey (member l d found) k = (slice_cmp nat_cmp l k ≡ Less) × AreBelowKey found k

abbrev AreBelow : Members → Members → Type 0
AreBelow found no_members = Unit {0}
AreBelow found (member k d ms) = AreBelowKey found k × AreBelow found ms

put_last : (k : List ℕ) (d : Data) (found : Members) → AreBelowKey found k → put k d found ≡ behind found (member k d no_members)
put_last k d no_members h = refl
put_last k d (member l e found) h =
    let above : slice_cmp nat_cmp k l ≡ Greater = nat_list_cmp_total.antisymm k l ∙ ap ordering_reverse h.0 in
    rw above (ap (member l e) (put_last k d found h.1))

behind_all : (found : Members) (k : List ℕ) (d : Data) (ms : Members) → behind (behind found (member k d no_members)) ms ≡ behind found (member k d ms)
behind_all no_members k d ms = refl
behind_all (member l e found) k d ms = ap (member l e) (behind_all found k d ms)

key_below : (found : Members) (k : List ℕ) (d : Data) (l : List ℕ) → AreBelowKey found l → slice_cmp nat_cmp k l ≡ Less → AreBelowKey (behind found (member k d no_members)) l
key_below no_members k d l h less = (less, tt)
key_below (member j e found) k d l h less = (h.0, key_below found k d l h.1 less)

one_more_below : (found : Members) (k : List ℕ) (d : Data) (ms : Members) → AreBelow found ms → IsBelow k ms → AreBelow (behind found (member k d no_members)) ms
one_more_below found k d no_members h below = tt
one_more_below found k d (member l e ms) h below = (key_below found k d l h.0 below.0, one_more_below found k d ms h.1 below.1)

none_found : (ms : Members) → AreBelow no_members ms
none_found no_members = tt
none_found (member k d ms) = (tt, none_found ms)

nothing_behind : (found : Members) → behind found no_members ≡ found
nothing_behind no_members = refl
nothing_behind (member k d found) = ap (member k d) (nothing_behind found)

mutual
  data_back : (d : Data) → IsReadable d → of_json (outline d) ≡ Some d
  data_back null h = refl
  data_back (boolean b) h = refl
  data_back (number n) h = ap (option_map number) (number_back n h)
  data_back (string s) h = refl
  data_back (array ds) h = ap (option_map array) (items_back ds h)
  data_back (object ms) h = ap (option_map object) (members_back ms no_members h (none_found ms))

  items_back : (ds : Items) → ItemsAreReadable ds → of_items (items_outline ds) ≡ Some ds
  items_back no_items h = refl
  items_back (item d ds) h =
      ap (option_and_then (λ e. option_map (item e) (of_items (items_outline ds)))) (data_back d h.0) ∙ ap (option_map (item d)) (items_back ds h.1)

  members_back : (ms found : Members) → MembersAreReadable ms → AreBelow found ms → of_members (members_outline ms) found ≡ Some (behind found ms)
  members_back no_members found h below = ap Some (sym (nothing_behind found))
  members_back (member k d ms) found h below =
      ap (option_and_then (λ e. of_members (members_outline ms) (put k e found))) (data_back d h.1)
      ∙ ap (of_members (members_outline ms)) (put_last k d found below.0)
      ∙ members_back ms (behind found (member k d no_members)) h.3 (one_more_below found k d ms below.1 h.2)
      ∙ ap Some (behind_all found k d ms)

-- Its text is JSON --

mutual
  has_numbers : (d : Data) → IsReadable d → tree.HasNumbers (outline d)
  has_numbers null h = tt
  has_numbers (boolean b) h = tt
  has_numbers (number n) h = number_is n h
  has_numbers (string s) h = tt
  has_numbers (array ds) h = items_have_numbers ds h
  has_numbers (object ms) h = members_have_numbers ms h

  items_have_numbers : (ds : Items) → ItemsAreReadable ds → tree.ItemsHaveNumbers (items_outline ds)
  items_have_numbers no_items h = tt
  items_have_numbers (item d ds) h = (has_numbers d h.0, items_have_numbers ds h.1)

  members_have_numbers : (ms : Members) → MembersAreReadable ms → tree.MembersHaveNumbers (members_outline ms)
  members_have_numbers no_members h = tt
  members_have_numbers (member k d ms) h = (has_numbers d h.1, members_have_numbers ms h.3)

mutual
  same_depth : (d : Data) → tree.depth (outline d) ≡ depth d
  same_depth null = refl
  same_depth (boolean b) = refl
  same_depth (number n) = refl
  same_depth (string s) = refl
  same_depth (array ds) = ap suc (same_items_depth ds)
  same_depth (object ms) = ap suc (same_members_depth ms)

  same_items_depth : (ds : Items) → tree.items_depth (items_outline ds) ≡ items_depth ds
  same_items_depth no_items = refl
  same_items_depth (item d ds) = ap₂ max (same_depth d) (same_items_depth ds)

  same_members_depth : (ms : Members) → tree.members_depth (members_outline ms) ≡ members_depth ms
  same_members_depth no_members = refl
  same_members_depth (member k d ms) = ap₂ max (same_depth d) (same_members_depth ms)

text_back : (d : Data) → IsReadable d → depth d ≤ 127 → read (compact_text d) ≡ Some d
text_back d h shallow =
    let j = outline d in
    let printed : tokens (compact_text d) ≡ tree.json_tokens j = ap tokens (sym (print-outline d)) ∙ tokens-print (tree.json_tokens j) (ArePrintable-json_tokens j (has_numbers d h)) in
    ap whole (ap (json.value max_depth) (printed ∙ sym (append-nil _)) ∙ value-json_tokens j max_depth [] (omega (arith, same_depth d))) ∙ data_back d h

-- Its text is UTF-8 --

number_is_utf8 : (n : Num) → IsReadableNumber n → IsUtf8 (number_text n)
number_is_utf8 (unsigned n) h = IsUtf8-from_ascii (decimal n) (IsAscii-decimal n h)
number_is_utf8 (negative (pos n)) h = absurd h
number_is_utf8 (negative (negsuc n)) h = IsUtf8-from_ascii (signed_decimal (negsuc n)) (IsAscii-signed (negsuc n) (omega arith))
number_is_utf8 (float x) h = absurd h

comma_is_utf8 : (later : Bool) → IsUtf8 (comma_if later)
comma_is_utf8 true = IsUtf8-are_ascii _ refl
comma_is_utf8 false = IsUtf8-are_ascii _ refl

mutual
  text_is_utf8 : (d : Data) → IsReadable d → IsUtf8 (compact_text d)
  text_is_utf8 null h = IsUtf8-are_ascii _ refl
  text_is_utf8 (boolean b) h = IsUtf8-boolean b
  text_is_utf8 (number n) h = number_is_utf8 n h
  text_is_utf8 (string s) h = IsUtf8-quoted s h
  text_is_utf8 (array ds) h = IsUtf8-append (91 ∷ []) (items_text false ds) (IsUtf8-are_ascii _ refl) (items_are_utf8 false ds h)
  text_is_utf8 (object ms) h = IsUtf8-append (123 ∷ []) (members_text false ms) (IsUtf8-are_ascii _ refl) (members_are_utf8 false ms h)

  items_are_utf8 : (later : Bool) (ds : Items) → ItemsAreReadable ds → IsUtf8 (items_text later ds)
  items_are_utf8 later no_items h = IsUtf8-are_ascii _ refl
  items_are_utf8 later (item d ds) h = IsUtf8-append (comma_if later) _ (comma_is_utf8 later) (IsUtf8-append (compact_text d) _ (text_is_utf8 d h.0) (items_are_utf8 true ds h.1))

  members_are_utf8 : (later : Bool) (ms : Members) → MembersAreReadable ms → IsUtf8 (members_text later ms)
  members_are_utf8 later no_members h = IsUtf8-are_ascii _ refl
  members_are_utf8 later (member k d ms) h =
      IsUtf8-append (comma_if later) _ (comma_is_utf8 later)
      (IsUtf8-append (quoted k) _ (IsUtf8-quoted k h.0)
      (IsUtf8-append (58 ∷ []) _ (IsUtf8-are_ascii _ refl) (IsUtf8-append (compact_text d) _ (text_is_utf8 d h.1) (members_are_utf8 true ms h.3))))

pub value_back : (d : Data) → IsReadable d → depth d ≤ 127 → json_value (compact_text d) ≡ Some d
value_back d h shallow = json_value-read (compact_text d) d (text_is_utf8 d h) (text_back d h shallow)

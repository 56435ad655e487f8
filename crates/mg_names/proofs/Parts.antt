-- Texts cut at their colons, and bytes below 128.
use Rattle.std.proofs.Common.{ℕ, zero, suc, ◌+◌, ◌-◌, ◌<◌, ◌≤◌, ◌≡◌, List, [], ◌∷◌, Bool, true, false, None, Some, Err, length, take, drop, arith, refl, ◌∙◌, ap}
use Rattle.std.specs.Prelude.{position, IsUtf8}
use Rattle.std.specs.List.{list_all, position_or_len, slice_split}
use Rattle.std.specs.Str.{IsAscii}
use Rattle.std.proofs.lemmas.Bool.Decides.{nat_tests}
use Rattle.std.proofs.lemmas.Str.{IsUtf8-from_ascii}
use Rattle.std.proofs.lemmas.List.Splits.{slice_split_none, slice_split_first, length-slice_split}
use Rattle.std.proofs.lemmas.List.Sums.{fails_before_first}
use Rattle.std.proofs.lemmas.List.{take_rest, length-drop, drop-drop}
use Rattle.mg_names.specs.Grammar.{is_name, is_tag, continues_name, continues_tag}
use Rattle.mg_names.specs.Spelling.{is_colon, parts_of, spelling_of_parts, is_one}
use Rattle.mg_names.specs.TagIndex.{is_tag_or_empty, tag_index_of_parts}
use Rattle.mg_names.specs.declared.fault.NameFault.TheVariants.{BadName}

pub no_colon : (text : List ℕ) → position is_colon text ≡ None → length text ≤ position_or_len is_colon text
no_colon text none = grind (arith, nat_tests)

pub colon_found : (text : List ℕ) (colon : ℕ) → position is_colon text ≡ Some colon → (position_or_len is_colon text ≡ colon) × (colon < length text)
colon_found text colon found = grind (arith, nat_tests)

pub parts_without_colon : (text : List ℕ) → position is_colon text ≡ None → parts_of text ≡ text ∷ []
parts_without_colon text none =
    let far : length text ≤ position_or_len is_colon text = no_colon text none in
    slice_split_none is_colon text (λ k d inside. fails_before_first is_colon text k d (omega arith))

pub parts_from_colon : (text : List ℕ) (colon : ℕ) → position is_colon text ≡ Some colon → parts_of text ≡ take colon text ∷ parts_of (drop (colon + 1) text)
parts_from_colon text colon found =
    let at : position_or_len is_colon text ≡ colon = (colon_found text colon found).0 in
    let inside : colon < length text = (colon_found text colon found).1 in
    let here : position_or_len is_colon text < length text = omega arith in
    let whole : slice_split is_colon text ≡ take (position_or_len is_colon text) text ∷ slice_split is_colon (drop (position_or_len is_colon text + 1) text) = slice_split_first is_colon text 0 here in
    rw at at whole

-- the parts of a text with a colon, by the two pieces that the code cuts
pub parts_when_cut : (text tag rest : List ℕ) (colon : ℕ) → position is_colon text ≡ Some colon → tag ≡ take colon text → rest ≡ drop colon text
    → (1 ≤ length rest) × (parts_of text ≡ tag ∷ parts_of (take (length rest - 1) (drop 1 rest)))
parts_when_cut text tag rest colon found front back =
    let inside : colon < length text = (colon_found text colon found).1 in
    let some : 1 ≤ length rest = rw back (omega (arith, length-drop colon text)) in
    let tail : take (length rest - 1) (drop 1 rest) ≡ drop (colon + 1) text = take_rest rest 1 ∙ (ap (drop 1) back ∙ drop-drop 1 colon text) in
    (some, rw (front, tail) (parts_from_colon text colon found))

pub ascii_is_utf8 : (bs : List ℕ) → IsAscii bs → IsUtf8 bs
ascii_is_utf8 bs ascii = IsUtf8-from_ascii bs ascii

pub all_ascii : (test : ℕ → Bool) → ((byte : ℕ) → test byte ≡ true → byte < 128) → (bs : List ℕ) → list_all test bs ≡ true → IsAscii bs
all_ascii test small [] all zero = omega arith
all_ascii test small [] all (suc i) = omega arith
all_ascii test small (b ∷ bs) all zero = small b (grind (arith, nat_tests))
all_ascii test small (b ∷ bs) all (suc i) = all_ascii test small bs (grind (arith, nat_tests)) i

pub name_byte_is_ascii : (byte : ℕ) → continues_name byte ≡ true → byte < 128
name_byte_is_ascii byte continues = grind (arith, nat_tests)

pub tag_byte_is_ascii : (byte : ℕ) → continues_tag byte ≡ true → byte < 128
tag_byte_is_ascii byte continues = grind (arith, nat_tests)

pub name_continues : (bs : List ℕ) → is_name bs ≡ true → list_all continues_name bs ≡ true
name_continues [] named = cc
name_continues (b ∷ bs) named = grind (arith, nat_tests)

pub tag_continues : (bs : List ℕ) → is_tag bs ≡ true → list_all continues_tag bs ≡ true
tag_continues [] tagged = cc
tag_continues (b ∷ bs) tagged = grind (arith, nat_tests)

pub name_is_ascii : (bs : List ℕ) → is_name bs ≡ true → IsAscii bs
name_is_ascii bs named = all_ascii continues_name name_byte_is_ascii bs (name_continues bs named)

pub tag_is_ascii : (bs : List ℕ) → is_tag bs ≡ true → IsAscii bs
tag_is_ascii bs tagged = all_ascii continues_tag tag_byte_is_ascii bs (tag_continues bs tagged)

refused_past_three : (tag index name : List ℕ) (more : List (List ℕ)) → 1 ≤ length more → spelling_of_parts (tag ∷ index ∷ name ∷ more) ≡ Err BadName
refused_past_three tag index name [] some = absurd (omega arith)
refused_past_three tag index name (part ∷ parts) some = refl

-- a third colon
pub third_colon_refused : (tag index name rest : List ℕ) → spelling_of_parts (tag ∷ index ∷ name ∷ parts_of rest) ≡ Err BadName
third_colon_refused tag index name rest = refused_past_three tag index name (parts_of rest) (omega (arith, length-slice_split is_colon rest))

more_than_one : (part : List ℕ) (parts : List (List ℕ)) → 1 ≤ length parts → is_one (part ∷ parts) ≡ false
more_than_one part [] some = absurd (omega arith)
more_than_one part (other ∷ more) some = refl

-- a text with a colon has more than one part
pub parts_past_one : (part rest : List ℕ) → is_one (part ∷ parts_of rest) ≡ false
parts_past_one part rest = more_than_one part (parts_of rest) (omega (arith, length-slice_split is_colon rest))

tag_refused_past_two : (tag index : List ℕ) (more : List (List ℕ)) → 1 ≤ length more → tag_index_of_parts (tag ∷ index ∷ more) ≡ Err BadName
tag_refused_past_two tag index [] some = absurd (omega arith)
tag_refused_past_two tag index (part ∷ parts) some = refl

-- a second colon in a text that is to have no name
pub second_colon_refused : (tag index rest : List ℕ) → tag_index_of_parts (tag ∷ index ∷ parts_of rest) ≡ Err BadName
second_colon_refused tag index rest = tag_refused_past_two tag index (parts_of rest) (omega (arith, length-slice_split is_colon rest))

pub tag_or_empty_is_ascii : (bs : List ℕ) → is_tag_or_empty bs ≡ true → IsAscii bs
tag_or_empty_is_ascii [] passed = all_ascii continues_tag tag_byte_is_ascii [] refl
tag_or_empty_is_ascii (b ∷ bs) passed = tag_is_ascii (b ∷ bs) passed

-- The text of a port is read back as the same port.
use Rattle.std.proofs.Common.{Bool, Err, List, None, Ok, Option, Some, [], ap, append_assoc, arith, count_by, eqb, false, if◌then◌else◌, inl, inr, nat_le, refl, suc, true, unwrap_or, zero, ℕ, ⊎_elim, ◌%◌, ◌&&◌, ◌*◌, ◌++◌, ◌+◌, ◌/◌, ◌<◌, ◌∙◌, ◌∷◌, ◌≡◌, ◌≤◌, ◌⊎◌}
use Rattle.std.specs.Prelude.{IsTrue, unwrap_or}
use Rattle.std.specs.List.{list_all, All}
use Rattle.std.specs.Str.{bytes_eq}
use Rattle.std.specs.Fmt.{decimal}
use Rattle.std.proofs.lemmas.Bool.{cases_lt}
use Rattle.std.proofs.lemmas.Bool.Decides.{nat_tests}
use Rattle.std.proofs.lemmas.Fmt.{decimal_digit, decimal_step}
use Rattle.std.proofs.lemmas.List.Splits.{slice_split_none, slice_split_at}
use Rattle.mg_names.specs.Grammar.{is_name, is_tag, is_digit, continues_name, continues_tag, index_of}
use Rattle.mg_names.specs.Spelling.{is_colon, parts_of, spelling_of, spelling_of_parts, named, tagged, named_at, indexed, is_untagged, is_one}
use Rattle.mg_names.specs.Ports.{after, index_in, port_of, lacks_index, port_after, text_of, tagged_text, IsSpelled}
use Rattle.mg_names.specs.declared.fault.NameFault.TheVariants.{BadIndex}
use Rattle.mg_names.specs.declared.spelling.Spelling.{Spelling}
use Rattle.mg_names.specs.declared.port.Port.{Port}
use Rattle.mg_names.proofs.Parts.{name_continues, tag_continues}

-- bytes that pass a test which no colon passes
pub no_colons : (test : ℕ → Bool) → ((byte : ℕ) → test byte ≡ true → is_colon byte ≡ false) → (bs : List ℕ) → list_all test bs ≡ true → All (λ byte. is_colon byte ≡ false) bs
no_colons test apart [] all k d inside = absurd (omega arith)
no_colons test apart (b ∷ bs) all zero d inside = apart b (grind (arith, nat_tests))
no_colons test apart (b ∷ bs) all (suc k) d inside = no_colons test apart bs (grind (arith, nat_tests)) k d (omega arith)

pub no_colon_in_name : (bs : List ℕ) → is_name bs ≡ true → All (λ byte. is_colon byte ≡ false) bs
no_colon_in_name bs named = no_colons continues_name (λ byte h. grind (arith, nat_tests)) bs (name_continues bs named)

pub no_colon_in_tag : (bs : List ℕ) → is_tag bs ≡ true → All (λ byte. is_colon byte ≡ false) bs
no_colon_in_tag bs tagged = no_colons continues_tag (λ byte h. grind (arith, nat_tests)) bs (tag_continues bs tagged)

no_colon_in_digits : (bs : List ℕ) → list_all is_digit bs ≡ true → All (λ byte. is_colon byte ≡ false) bs
no_colon_in_digits bs digits = no_colons is_digit (λ byte h. grind (arith, nat_tests)) bs digits

-- an index of one digit or two
pub decimal_two : (index : ℕ) → 10 ≤ index → index < 64 → decimal index ≡ (48 + index / 10) ∷ (48 + index % 10) ∷ []
decimal_two index low high =
    let step : decimal index ≡ decimal (index / 10) ++ ((48 + index % 10) ∷ []) = decimal_step index low (omega arith) in
    let first : decimal (index / 10) ≡ (48 + index / 10) ∷ [] = decimal_digit (index / 10) (omega arith) in
    rw first at step

one_digit : (ones : ℕ) → ones < 10 → index_of ((48 + ones) ∷ []) ≡ Some ones
one_digit ones small = grind (arith, nat_tests)

two_digit : (tens ones : ℕ) → 0 < tens → ones < 10 → 10 * tens + ones < 64 → index_of ((48 + tens) ∷ (48 + ones) ∷ []) ≡ Some (10 * tens + ones)
two_digit tens ones some small below = grind (arith, nat_tests)

one_is_digit : (ones : ℕ) → ones < 10 → list_all is_digit ((48 + ones) ∷ []) ≡ true
one_is_digit ones small = grind (arith, nat_tests)

two_are_digits : (tens ones : ℕ) → tens < 10 → ones < 10 → list_all is_digit ((48 + tens) ∷ (48 + ones) ∷ []) ≡ true
two_are_digits tens ones low small = grind (arith, nat_tests)

pub index_of-decimal : (index : ℕ) → index < 64 → index_of (decimal index) ≡ Some index
index_of-decimal index small =
    ⊎_elim
    (λ low. ap index_of (decimal_digit index low) ∙ one_digit index low)
    (λ high. ap index_of (decimal_two index high small) ∙ (two_digit (index / 10) (index % 10) (omega arith) (omega arith) (omega arith) ∙ ap Some (omega arith)))
    (cases_lt index 10)

digits_of_index : (index : ℕ) → index < 64 → list_all is_digit (decimal index) ≡ true
digits_of_index index small =
    ⊎_elim
    (λ low. ap (list_all is_digit) (decimal_digit index low) ∙ one_is_digit index low)
    (λ high. ap (list_all is_digit) (decimal_two index high small) ∙ two_are_digits (index / 10) (index % 10) (omega arith) (omega arith))
    (cases_lt index 10)

pub no_colon_in_index : (index : ℕ) → index < 64 → All (λ byte. is_colon byte ≡ false) (decimal index)
no_colon_in_index index small = no_colon_in_digits (decimal index) (digits_of_index index small)

-- the parts of the three forms of text
pub parts_of_name : (name : List ℕ) → is_name name ≡ true → parts_of name ≡ name ∷ []
parts_of_name name good = slice_split_none is_colon name (no_colon_in_name name good)

pub parts_of_tagged : (tag name : List ℕ) → is_tag tag ≡ true → is_name name ≡ true → parts_of (tag ++ (58 ∷ name)) ≡ tag ∷ name ∷ []
parts_of_tagged tag name good_tag good =
    slice_split_at is_colon tag 58 name (no_colon_in_tag tag good_tag) refl ∙ ap (λ parts. tag ∷ parts) (parts_of_name name good)

pub parts_of_indexed : (tag : List ℕ) (index : ℕ) (name : List ℕ) → is_tag tag ≡ true → index < 64 → is_name name ≡ true
    → parts_of ((tag ++ (58 ∷ decimal index)) ++ (58 ∷ name)) ≡ tag ∷ decimal index ∷ name ∷ []
parts_of_indexed tag index name good_tag small good =
    let tail : parts_of (decimal index ++ (58 ∷ name)) ≡ decimal index ∷ name ∷ [] =
    slice_split_at is_colon (decimal index) 58 name (no_colon_in_index index small) refl
    ∙ ap (λ parts. decimal index ∷ parts) (parts_of_name name good) in
    let head : parts_of (tag ++ (58 ∷ (decimal index ++ (58 ∷ name)))) ≡ tag ∷ parts_of (decimal index ++ (58 ∷ name)) =
    slice_split_at is_colon tag 58 (decimal index ++ (58 ∷ name)) (no_colon_in_tag tag good_tag) refl in
    ap parts_of (append_assoc tag (58 ∷ decimal index) (58 ∷ name)) ∙ (head ∙ ap (λ parts. tag ∷ parts) tail)

-- their spellings
named_good : (tag : List ℕ) (index : Option ℕ) (name : List ℕ) → is_name name ≡ true → named tag index name ≡ Ok (record { tag = tag; index = index; name = name })
named_good tag index name good = rw good

spelling_of_name : (name : List ℕ) → is_name name ≡ true → spelling_of name ≡ Ok (record { tag = []; index = None; name = name })
spelling_of_name name good = ap spelling_of_parts (parts_of_name name good) ∙ named_good [] None name good

spelling_of_tagged : (tag name : List ℕ) → is_tag tag ≡ true → is_name name ≡ true → spelling_of (tag ++ (58 ∷ name)) ≡ Ok (record { tag = tag; index = None; name = name })
spelling_of_tagged tag name good_tag good =
    let inner : tagged tag name ≡ Ok (record { tag = tag; index = None; name = name }) = rw good_tag (named_good tag None name good) in
    ap spelling_of_parts (parts_of_tagged tag name good_tag good) ∙ inner

spelling_of_indexed : (tag : List ℕ) (index : ℕ) (name : List ℕ) → is_tag tag ≡ true → index < 64 → is_name name ≡ true
    → spelling_of ((tag ++ (58 ∷ decimal index)) ++ (58 ∷ name)) ≡ Ok (record { tag = tag; index = Some index; name = name })
spelling_of_indexed tag index name good_tag small good =
    let inner : indexed tag (decimal index) name ≡ Ok (record { tag = tag; index = Some index; name = name }) =
    rw good_tag (ap (λ spelled. named_at tag spelled name) (index_of-decimal index small) ∙ named_good tag (Some index) name good) in
    ap spelling_of_parts (parts_of_indexed tag index name good_tag small good) ∙ inner

-- their ports
pub tag_is_some : (tag : List ℕ) → is_tag tag ≡ true → bytes_eq tag [] ≡ false
tag_is_some [] good = cc
tag_is_some (first ∷ rest) good = refl

tagged_index : (number : ℕ) (tag : List ℕ) (index : Option ℕ) (name : List ℕ) → is_tag tag ≡ true → index_in number (record { tag = tag; index = index; name = name }) ≡ unwrap_or index 0
tagged_index number tag index name good = rw (tag_is_some tag good) refl

spelled_then : (before : List (List ℕ)) (text : List ℕ) (spelling : Spelling) (index : ℕ) → spelling_of text ≡ Ok spelling → lacks_index (count_by is_untagged before) text ≡ false
    → index_in (count_by is_untagged before) spelling ≡ index → port_after before text ≡ Ok (record { tag = spelling.tag; index = index; name = spelling.name })
spelled_then before text spelling index spelled room counted =
    let number = count_by is_untagged before in
    let read : (if lacks_index number text then Err BadIndex else after (spelling_of text) (λ s. Ok (port_of number s))) ≡ after (spelling_of text) (λ s. Ok (port_of number s)) = rw room refl in
    read ∙ (ap (λ r. after r (λ s. Ok (port_of number s))) spelled ∙ ap (λ i. Ok (record { tag = spelling.tag; index = i; name = spelling.name })) counted)

room_below : (test : Bool) (number : ℕ) → number < 64 → (test && nat_le 64 number) ≡ false
room_below true number small = grind (arith, nat_tests)
room_below false number small = refl

room_tagged : (text : List ℕ) (number : ℕ) → is_untagged text ≡ false → lacks_index number text ≡ false
room_tagged text number tagged = ap (λ b. b && nat_le 64 number) tagged

-- a port with an empty tag, and a port with a tag
read_untagged : (index : ℕ) (name : List ℕ) (before : List (List ℕ)) → index < 64 → is_name name ≡ true → count_by is_untagged before ≡ index
    → port_after before name ≡ Ok (record { tag = []; index = index; name = name })
read_untagged index name before small good number =
    spelled_then before name (record { tag = []; index = None; name = name }) index (spelling_of_name name good) (room_below (is_untagged name) (count_by is_untagged before) (omega arith)) number

read_at_zero : (tag name : List ℕ) (before : List (List ℕ)) → is_tag tag ≡ true → is_name name ≡ true
    → port_after before (tag ++ (58 ∷ name)) ≡ Ok (record { tag = tag; index = 0; name = name })
read_at_zero tag name before good_tag good =
    spelled_then before (tag ++ (58 ∷ name)) (record { tag = tag; index = None; name = name }) 0 (spelling_of_tagged tag name good_tag good)
    (room_tagged (tag ++ (58 ∷ name)) (count_by is_untagged before) (ap is_one (parts_of_tagged tag name good_tag good)))
    (tagged_index (count_by is_untagged before) tag None name good_tag)

read_at_index : (tag : List ℕ) (index : ℕ) (name : List ℕ) (before : List (List ℕ)) → is_tag tag ≡ true → index < 64 → is_name name ≡ true
    → port_after before ((tag ++ (58 ∷ decimal index)) ++ (58 ∷ name)) ≡ Ok (record { tag = tag; index = index; name = name })
read_at_index tag index name before good_tag small good =
    spelled_then before ((tag ++ (58 ∷ decimal index)) ++ (58 ∷ name)) (record { tag = tag; index = Some index; name = name }) index (spelling_of_indexed tag index name good_tag small good)
    (room_tagged ((tag ++ (58 ∷ decimal index)) ++ (58 ∷ name)) (count_by is_untagged before) (ap is_one (parts_of_indexed tag index name good_tag small good)))
    (tagged_index (count_by is_untagged before) tag (Some index) name good_tag)

read_tagged : (tag : List ℕ) (index : ℕ) (name : List ℕ) (before : List (List ℕ)) → is_tag tag ≡ true → index < 64 → is_name name ≡ true
    → port_after before (tagged_text tag index name) ≡ Ok (record { tag = tag; index = index; name = name })
read_tagged tag zero name before good_tag small good = read_at_zero tag name before good_tag good
read_tagged tag (suc index) name before good_tag small good =
    let above : eqb (suc index) 0 ≡ false = grind (arith, nat_tests) in
    rw above (read_at_index tag (suc index) name before good_tag small good)

read_plain : (tag : List ℕ) (index : ℕ) (name : List ℕ) (before : List (List ℕ)) → (tag ≡ []) ⊎ IsTrue (is_tag tag) → index < 64 → is_name name ≡ true
    → (tag ≡ [] → count_by is_untagged before ≡ index) → port_after before (text_of (record { tag = tag; index = index; name = name })) ≡ Ok (record { tag = tag; index = index; name = name })
read_plain [] index name before kind small good number = read_untagged index name before small good (number refl)
read_plain (first ∷ rest) index name before (inl empty) small good number = cc
read_plain (first ∷ rest) index name before (inr good_tag) small good number = read_tagged (first ∷ rest) index name before good_tag small good

pub port_read_back : (port : Port) (text : List ℕ) → text ≡ text_of port → IsSpelled port → (before : List (List ℕ)) → (port.tag ≡ [] → count_by is_untagged before ≡ port.index) → port_after before text ≡ Ok port
port_read_back port text written spelled before number =
    ap (port_after before) written ∙ read_plain port.tag port.index port.name before spelled.tag spelled.index spelled.name number

-- A tag and an index are read back from their text, and those of a text can be spelled.
use Rattle.std.proofs.Common.{ℕ, suc, zero, ◌<◌, ◌≡◌, ◌⊎◌, inl, inr, List, [], ◌∷◌, ◌++◌, Bool, true, false, ◌&&◌, eqb, Option, None, Some, Result, Ok, arith, refl, ap, ◌∙◌, if◌then◌else◌, subst}
use Rattle.std.specs.Prelude.{IsTrue}
use Rattle.std.specs.List.{All}
use Rattle.std.specs.Fmt.{decimal}
use Rattle.std.proofs.lemmas.Bool.Decides.{nat_tests}
use Rattle.std.proofs.lemmas.List.Splits.{slice_split_none, slice_split_at}
use Rattle.mg_names.specs.Grammar.{is_tag, index_of}
use Rattle.mg_names.specs.Spelling.{is_colon, parts_of}
use Rattle.mg_names.specs.TagIndex.{tag_with, is_tag_or_empty, tag_index_of_parts, tag_index_of, text_of_tag_index, IsTagIndex}
use Rattle.mg_names.specs.declared.fault.NameFault.{NameFault}
use Rattle.mg_names.specs.declared.fault.NameFault.TheVariants.{BadTag}
use Rattle.mg_names.proofs.Counting.{if_ok}
use Rattle.mg_names.proofs.Again.{index_below}
use Rattle.mg_names.proofs.ReadBack.{no_colon_in_tag, no_colon_in_index, index_of-decimal, tag_is_some}

-- the parts of a text
parts_at : (tag : List ℕ) (index : ℕ) → All (λ byte. is_colon byte ≡ false) tag → index < 64 → parts_of (tag ++ 58 ∷ decimal index) ≡ tag ∷ decimal index ∷ []
parts_at tag index clear small =
    slice_split_at is_colon tag 58 (decimal index) clear refl ∙ ap (λ parts. tag ∷ parts) (slice_split_none is_colon (decimal index) (no_colon_in_index index small))

bare_back : (index : ℕ) → index < 64 → tag_index_of (58 ∷ decimal index) ≡ Ok ([], index)
bare_back index small = ap tag_index_of_parts (parts_at [] index (λ k d inside. absurd (omega arith)) small) ∙ ap (tag_with []) (index_of-decimal index small)

tag_back : (tag : List ℕ) → is_tag tag ≡ true → tag_index_of tag ≡ Ok (tag, 0)
tag_back tag good =
    let inner : tag_index_of_parts (tag ∷ []) ≡ Ok (tag, 0) = rw good refl in
    ap tag_index_of_parts (slice_split_none is_colon tag (no_colon_in_tag tag good)) ∙ inner

indexed_back : (tag : List ℕ) (index : ℕ) → is_tag tag ≡ true → index < 64 → tag_index_of (tag ++ 58 ∷ decimal index) ≡ Ok (tag, index)
indexed_back tag index good small =
    let inner : tag_index_of_parts (tag ∷ decimal index ∷ []) ≡ tag_with tag (index_of (decimal index)) = rw (tag_is_some tag good, good) refl in
    ap tag_index_of_parts (parts_at tag index (no_colon_in_tag tag good) small) ∙ inner ∙ ap (tag_with tag) (index_of-decimal index small)

tagged_back : (tag : List ℕ) (index : ℕ) → is_tag tag ≡ true → index < 64 → tag_index_of (text_of_tag_index tag index) ≡ Ok (tag, index)
tagged_back tag zero good small = rw (tag_is_some tag good) (tag_back tag good)
tagged_back tag (suc index) good small =
    let above : eqb (suc index) 0 ≡ false = grind (arith, nat_tests) in
    rw above (indexed_back tag (suc index) good small)

text_back : (tag : List ℕ) (index : ℕ) → (tag ≡ []) ⊎ IsTrue (is_tag tag) → index < 64 → tag_index_of (text_of_tag_index tag index) ≡ Ok (tag, index)
text_back [] index kind small =
    let written : text_of_tag_index [] index ≡ 58 ∷ decimal index = by (eqb index 0) in
    ap tag_index_of written ∙ bare_back index small
  where
    by : (t : Bool) → (if t && false then [] else 58 ∷ decimal index) ≡ 58 ∷ decimal index
    by true = refl
    by false = refl
text_back (first ∷ rest) index (inl empty) small = cc
text_back (first ∷ rest) index (inr good) small = tagged_back (first ∷ rest) index good small

pub tag_index_back : (tag : List ℕ) (index : ℕ) → IsTagIndex tag index → tag_index_of (text_of_tag_index tag index) ≡ Ok (tag, index)
tag_index_back tag index known = text_back tag index known.tag known.index

-- what is read can be spelled
abbrev read_as : List ℕ × ℕ → Result (List ℕ × ℕ) NameFault
read_as pair = Ok pair

same_pair : (first second : List ℕ × ℕ) → read_as first ≡ read_as second → first ≡ second
same_pair first second same = cc

abbrev IsPair : List ℕ × ℕ → Type 0
IsPair pair = IsTagIndex pair.0 pair.1

with_index : (tag : List ℕ) (index : Option ℕ) (pair : List ℕ × ℕ) → tag_with tag index ≡ Ok pair → (tag ≡ []) ⊎ IsTrue (is_tag tag) → ((k : ℕ) → index ≡ Some k → k < 64) → IsPair pair
with_index tag None pair made kind below = cc
with_index tag (Some index) pair made kind below = subst IsPair (same_pair (tag, index) pair made) (record { tag = kind; index = below index refl })

empty_or_tag : (tag : List ℕ) → is_tag_or_empty tag ≡ true → (tag ≡ []) ⊎ IsTrue (is_tag tag)
empty_or_tag [] passed = inl refl
empty_or_tag (letter ∷ rest) passed = inr passed

parts_pass : (parts : List (List ℕ)) (pair : List ℕ × ℕ) → tag_index_of_parts parts ≡ Ok pair → IsPair pair
parts_pass [] pair made = cc
parts_pass (tag ∷ []) pair made =
    let passed = if_ok (is_tag tag) (Ok (tag, 0)) BadTag pair made in
    subst IsPair (same_pair (tag, 0) pair passed.1) (record { tag = inr passed.0; index = omega arith })
parts_pass (tag ∷ index ∷ []) pair made =
    let passed = if_ok (is_tag_or_empty tag) (tag_with tag (index_of index)) BadTag pair made in
    with_index tag (index_of index) pair passed.1 (empty_or_tag tag passed.0) (index_below index)
parts_pass (a ∷ b ∷ c ∷ more) pair made = cc

pub tag_index_passes : (text tag : List ℕ) (index : ℕ) → tag_index_of text ≡ Ok (tag, index) → IsTagIndex tag index
tag_index_passes text tag index made = parts_pass (parts_of text) (tag, index) made

-- A tag and an index by themselves, as a setting of one port names it: `TAG`, `TAG:index` or `:index`.
use Rattle.std.specs.Prelude.{ℕ, ◌≡◌, ◌<◌, ◌⊎◌, List, [], ◌∷◌, ◌++◌, Bool, ◌||◌, ◌&&◌, not, ◌==◌, Option, None, Some, Result, Ok, Err, if◌then◌else◌, IsTrue}
use Rattle.std.specs.Str.{bytes_eq}
use Rattle.std.specs.Fmt.{decimal}
use Rattle.mg_names.specs.Grammar.{is_tag, index_of, index_count}
use Rattle.mg_names.specs.Spelling.{parts_of}
use Rattle.mg_names.specs.declared.fault.NameFault.{NameFault}
use Rattle.mg_names.specs.declared.fault.NameFault.TheVariants.{BadName, BadTag, BadIndex}

-- a tag alone, which has the index 0
abbrev pub tag_alone : List ℕ → Result (List ℕ × ℕ) NameFault
tag_alone tag = if is_tag tag then Ok (tag, 0) else Err BadTag

-- whether a text may stand before an index: it is empty or a tag
abbrev pub is_tag_or_empty : List ℕ → Bool
is_tag_or_empty text = bytes_eq text [] || is_tag text

-- the tag with the index that was read, if one was
abbrev pub tag_with : List ℕ → Option ℕ → Result (List ℕ × ℕ) NameFault
tag_with tag None = Err BadIndex
tag_with tag (Some index) = Ok (tag, index)

-- the tag and index of `TAG:index` or `:index`; the tag is tested first
abbrev pub tag_before : List ℕ → List ℕ → Result (List ℕ × ℕ) NameFault
tag_before tag index = if is_tag_or_empty tag then tag_with tag (index_of index) else Err BadTag

-- The tag and index that the parts between the colons make, or the first refusal. More than one colon is refused first,
-- since a name would stand after the second colon.
abbrev pub tag_index_of_parts : List (List ℕ) → Result (List ℕ × ℕ) NameFault
tag_index_of_parts (tag ∷ []) = tag_alone tag
tag_index_of_parts (tag ∷ index ∷ []) = tag_before tag index
tag_index_of_parts parts = Err BadName

-- the tag and index of a text
abbrev pub tag_index_of : List ℕ → Result (List ℕ × ℕ) NameFault
tag_index_of text = tag_index_of_parts (parts_of text)

-- the text of a tag and index: `TAG` at index 0, `TAG:index` at another index, and `:index` for the empty tag
abbrev pub text_of_tag_index : List ℕ → ℕ → List ℕ
text_of_tag_index tag index = if (index == 0) && not (bytes_eq tag []) then tag else tag ++ 58 ∷ decimal index

-- The text is empty or a tag, and the number is an index.
pub record IsTagIndex (text : List ℕ) (number : ℕ) : Type 0 where
  pub tag : (text ≡ []) ⊎ IsTrue (is_tag text)
  pub index : number < index_count

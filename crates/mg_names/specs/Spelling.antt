-- The spelling of one port: `name`, `TAG:name` or `TAG:index:name`.
use Rattle.std.specs.Prelude.{ℕ, List, [], ◌∷◌, Bool, true, false, ◌==◌, Option, None, Some, Result, Ok, Err, if◌then◌else◌}
use Rattle.std.specs.List.{slice_split}
use Rattle.mg_names.specs.Grammar.{is_name, is_tag, index_of}
use Rattle.mg_names.specs.declared.spelling.Spelling.{Spelling}
use Rattle.mg_names.specs.declared.fault.NameFault.{NameFault}
use Rattle.mg_names.specs.declared.fault.NameFault.TheVariants.{BadName, BadTag, BadIndex}

-- whether a byte is a colon
abbrev pub is_colon : ℕ → Bool
is_colon byte = byte == 58

-- the parts of a text between its colons: one more than there are colons
abbrev pub parts_of : List ℕ → List (List ℕ)
parts_of text = slice_split is_colon text

-- the spelling with this tag, this index and a name, if the name is one
abbrev pub named : List ℕ → Option ℕ → List ℕ → Result Spelling NameFault
named tag index name =
    if is_name name then Ok (record { tag = tag; index = index; name = name }) else Err BadName

-- the spelling of `TAG:name`; the tag is tested before the name
abbrev pub tagged : List ℕ → List ℕ → Result Spelling NameFault
tagged tag name = if is_tag tag then named tag None name else Err BadTag

-- the spelling with this tag, the index that was read, if one was, and a name
abbrev pub named_at : List ℕ → Option ℕ → List ℕ → Result Spelling NameFault
named_at tag None name = Err BadIndex
named_at tag (Some index) name = named tag (Some index) name

-- the spelling of `TAG:index:name`; the tag is tested first, then the index, then the name
abbrev pub indexed : List ℕ → List ℕ → List ℕ → Result Spelling NameFault
indexed tag index name = if is_tag tag then named_at tag (index_of index) name else Err BadTag

-- the spelling that the parts between the colons make, or the first refusal. More than two colons are refused first,
-- since such a text has no tag and no index.
abbrev pub spelling_of_parts : List (List ℕ) → Result Spelling NameFault
spelling_of_parts (name ∷ []) = named [] None name
spelling_of_parts (tag ∷ name ∷ []) = tagged tag name
spelling_of_parts (tag ∷ index ∷ name ∷ []) = indexed tag index name
spelling_of_parts _ = Err BadName

-- the spelling of a text
abbrev pub spelling_of : List ℕ → Result Spelling NameFault
spelling_of text = spelling_of_parts (parts_of text)

-- whether there is one part, as of a text without a colon
abbrev pub is_one : List (List ℕ) → Bool
is_one (part ∷ []) = true
is_one _ = false

-- whether a text spells an untagged port, as a text without a colon does
abbrev pub is_untagged : List ℕ → Bool
is_untagged text = is_one (parts_of text)

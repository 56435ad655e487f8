-- Lines of an input. A line ends with a line feed, which is no part of it. The last line of an input that has ended
-- may lack its line feed.
use Rattle.std.specs.Prelude.{◌≡◌, ℕ, ◌==◌, List, [], ◌∷◌, ◌++◌, false, if◌then◌else◌}

-- a byte put before the first part
abbrev pub with_first : ℕ → List (List ℕ) → List (List ℕ)
with_first b [] = (b ∷ []) ∷ []
with_first b (part ∷ parts) = (b ∷ part) ∷ parts

-- the parts before, between and after the line feeds, one more than there are line feeds
abbrev pub parts : List ℕ → List (List ℕ)
parts [] = [] ∷ []
parts (b ∷ bytes) = if b == 10 then [] ∷ parts bytes else with_first b (parts bytes)

-- all parts but the last
abbrev pub but_last : List (List ℕ) → List (List ℕ)
but_last [] = []
but_last (part ∷ []) = []
but_last (part ∷ next ∷ parts) = part ∷ but_last (next ∷ parts)

-- all parts, but not the last if it is empty
abbrev pub but_empty_last : List (List ℕ) → List (List ℕ)
but_empty_last [] = []
but_empty_last ([] ∷ []) = []
but_empty_last ((b ∷ part) ∷ []) = (b ∷ part) ∷ []
but_empty_last (part ∷ next ∷ parts) = part ∷ but_empty_last (next ∷ parts)

-- the lines that ended with a line feed
abbrev pub whole_lines : List ℕ → List (List ℕ)
whole_lines bytes = but_last (parts bytes)

-- the lines of an input that has ended
abbrev pub all_lines : List ℕ → List (List ℕ)
all_lines bytes = but_empty_last (parts bytes)

-- the last part
abbrev pub last_part : List (List ℕ) → List ℕ
last_part [] = []
last_part (part ∷ []) = part
last_part (part ∷ next ∷ parts) = last_part (next ∷ parts)

-- the bytes after the last line feed
abbrev pub unended_line : List ℕ → List ℕ
unended_line bytes = last_part (parts bytes)

-- the bytes, and a line feed after them if the part after their last line feed isn't empty
abbrev pub with_feed : List ℕ → List ℕ → List ℕ
with_feed [] bytes = bytes
with_feed (b ∷ rest) bytes = bytes ++ 10 ∷ []

-- the bytes of an input that has ended, with the line feed that its last line may lack
abbrev pub completed : List ℕ → List ℕ
completed bytes = with_feed (unended_line bytes) bytes

-- no byte is a line feed
abbrev pub NoFeed : List ℕ → Type 0
NoFeed [] = Unit {0}
NoFeed (b ∷ bytes) = ((b == 10) ≡ false) × NoFeed bytes

-- no byte of any line is a line feed
abbrev pub NoFeeds : List (List ℕ) → Type 0
NoFeeds [] = Unit {0}
NoFeeds (line ∷ lines) = NoFeed line × NoFeeds lines

-- lines, each with its line feed after it
abbrev pub fed_lines : List (List ℕ) → List ℕ
fed_lines [] = []
fed_lines (line ∷ lines) = line ++ 10 ∷ fed_lines lines

-- The bytes are these lines, each with its line feed after it, and a rest.
pub record IsCut (bytes : List ℕ) (lines : List (List ℕ)) (rest : List ℕ) : Type 0 where
  pub whole : NoFeeds lines
  pub is : bytes ≡ fed_lines lines ++ rest

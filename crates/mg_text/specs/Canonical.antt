-- The canonical text of fields: what `print` writes.
use Rattle.std.specs.Prelude.{◌≡◌, ℕ, suc, ◌+◌, ◌*◌, ◌/◌, ◌%◌, ◌<◌, List, [], ◌∷◌, ◌++◌, ◌||◌, ◌==◌, nat_lt, if◌then◌else◌, replicate, Option, Some, None}
use Rattle.std.specs.List.{flat_map}
use Rattle.mg_text.specs.Tree.{Kind, word, number, quoted, Fields, none, scalar, message}
use Rattle.mg_text.specs.Byte.{lead, IsTail}
use Rattle.mg_text.specs.Grammar.{IsName, IsWord, IsNumber}
use Rattle.mg_text.specs.declared.parts.Tail.{Tail}

-- two spaces for each open message
abbrev pub indent : ℕ → List ℕ
indent k = replicate (2 * k) 32

-- the letter or the mark after the backslash of a short escape: \n \r \t \\ \"
abbrev pub short_escape : ℕ → Option ℕ
short_escape b =
    if b == 10 then Some 110
    else (if b == 13 then Some 114
    else (if b == 9 then Some 116
    else (if b == 92 then Some 92
    else (if b == 34 then Some 34
    else None))))

abbrev pub escape_by : Option ℕ → ℕ → List ℕ
escape_by (Some c) b = 92 ∷ c ∷ []
escape_by None b = if nat_lt b 32 || b == 127 then 92 ∷ (48 + b / 64) ∷ (48 + b / 8 % 8) ∷ (48 + b % 8) ∷ [] else b ∷ []

-- A byte in a string becomes its short escape if there is one. Other bytes below 32, and 127, become a backslash and
-- three octal digits. All else stays as it is.
abbrev pub escape : ℕ → List ℕ
escape b = escape_by (short_escape b) b

-- what a scalar is written as; a quoted text is one piece in double quotes
abbrev pub spelling : Kind → List ℕ → List ℕ
spelling word bytes = bytes
spelling number bytes = bytes
spelling quoted bytes = 34 ∷ flat_map escape bytes ++ 34 ∷ []

-- Each scalar has a line of its own, indented. A message has the lines of its fields between two of its own.
abbrev pub scalar_line : ℕ → List ℕ → Kind → List ℕ → List ℕ
scalar_line k name kind bytes = indent k ++ name ++ 58 ∷ 32 ∷ spelling kind bytes ++ 10 ∷ []

abbrev pub message_lines : ℕ → List ℕ → List ℕ → List ℕ
message_lines k name lines = indent k ++ name ++ 32 ∷ 123 ∷ 10 ∷ lines ++ indent k ++ 125 ∷ 10 ∷ []

-- the lines of fields inside this number of open messages
abbrev pub lines_of : ℕ → Fields → List ℕ
lines_of k none = []
lines_of k (scalar name kind bytes rest) = scalar_line k name kind bytes ++ lines_of k rest
lines_of k (message name within rest) = message_lines k name (lines_of (suc k) within) ++ lines_of k rest

-- the canonical text of the fields of a file
abbrev pub canonical : Fields → List ℕ
canonical t = lines_of 0 t

-- The bytes are characters: ASCII, or UTF-8 past it.
pub data AreCharacters : List ℕ → Type 0 where
  no_more : AreCharacters []
  ascii : {b : ℕ} {s : List ℕ} → b < 128 → AreCharacters s → AreCharacters (b ∷ s)
  beyond : {b : ℕ} {t : Tail} {u s : List ℕ} → lead b ≡ Some t → IsTail t u → AreCharacters s → AreCharacters (b ∷ u ++ s)

-- The grammar spells a scalar of this kind by these bytes, or a quoted text that has them.
abbrev pub IsSpelled : Kind → List ℕ → Type 0
IsSpelled word bytes = IsWord bytes
IsSpelled number bytes = IsNumber bytes
IsSpelled quoted bytes = AreCharacters bytes

-- The grammar can spell all names and scalars of the fields.
abbrev pub AreSpelled : Fields → Type 0
AreSpelled none = Unit {0}
AreSpelled (scalar name kind bytes rest) = IsName name × IsSpelled kind bytes × AreSpelled rest
AreSpelled (message name within rest) = IsName name × AreSpelled within × AreSpelled rest

-- Bytes that only lengthen what is being read, and so are taken many at once.
use Rattle.std.specs.Prelude.{◌≡◌, ℕ, List, Bool, true, Option, Some, None}
use Rattle.std.specs.List.{All}
use Rattle.mg_text.specs.declared.parts.Class.{Class}
use Rattle.mg_text.specs.declared.parts.Quote.TheVariants.{Single, Double}
use Rattle.mg_text.specs.declared.parts.Tail.TheVariants.{Whole}
use Rattle.mg_text.specs.declared.state.NamePart.TheVariants as np
use Rattle.mg_text.specs.declared.state.ScalarPart.TheVariants as sp
use Rattle.mg_text.specs.declared.state.Inside.TheVariants as inside
use Rattle.mg_text.specs.declared.state.Reading.{Reading}
use Rattle.mg_text.specs.declared.state.Reading.TheVariants as reading
use Rattle.mg_text.specs.declared.state.Run.{Run}
use Rattle.mg_text.specs.declared.state.Run.TheVariants.{Blank, Comment, Word, Piece}
use Rattle.mg_text.specs.Byte.{class_of, is_blank, is_word_byte}
use Rattle.mg_text.specs.Grammar.{in_line, in_piece}

-- whether a byte of this class only lengthens a run
abbrev pub lengthens : Run → Class → Bool
lengthens Blank c = is_blank c
lengthens Comment c = in_line c
lengthens Word c = is_word_byte c
lengthens (Piece q) c = in_piece q c

-- Each of the bytes only lengthens the run.
abbrev pub AllLengthen : Run → List ℕ → Type 0
AllLengthen run bytes = All (λ b. lengthens run (class_of b) ≡ true) bytes

-- the run that is being read, if further bytes may only lengthen it
abbrev pub run_of : Reading → Option Run
run_of (reading.At p) = Some Blank
run_of (reading.Comment p Whole) = Some Comment
run_of (reading.Name np.Word) = Some Word
run_of (reading.Scalar slot sp.Word) = Some Word
run_of (reading.Piece slot q (inside.Plain Whole)) = Some (Piece q)
run_of _ = None

-- the flag of a run in the parser's table of bytes
abbrev pub flag_of : Run → ℕ
flag_of Blank = 1
flag_of Comment = 2
flag_of Word = 4
flag_of (Piece Single) = 8
flag_of (Piece Double) = 16

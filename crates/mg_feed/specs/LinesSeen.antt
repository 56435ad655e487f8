-- What a `Lines` stands for.
use Rattle.std.specs.Prelude.{ℕ, List}
use Rattle.mg_feed.specs.Fed.{Reading}
use Rattle.mg_feed.specs.Code.Readers.{reading_of}
use Rattle.mg_feed.specs.declared.lines.Lines.{Lines}

-- the bytes that were read and not handed out, and whether the source has ended
abbrev pub reading : Lines → Reading
reading l = reading_of l.reader

-- the line that was handed out last
abbrev pub line_of : Lines → List ℕ
line_of l = l.line.items

-- how many lines were handed out
abbrev pub number_of : Lines → ℕ
number_of l = l.number

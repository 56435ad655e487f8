-- What a `Reader` of the code stands for.
use Rattle.std.specs.Prelude.{◌-◌, ℕ, List, ◌++◌, take, drop}
use Rattle.mg_feed.specs.Fed.{Reading}
use Rattle.mg_feed.specs.declared.reader.Reader.{Reader}

-- the bytes of a reader's block that it didn't pass yet
abbrev pub left_of : Reader → List ℕ
left_of r = take (r.filled - r.at) (drop r.at r.block.items)

-- the bytes that a reader holds or didn't pass yet, and whether the source has ended
abbrev pub reading_of : Reader → Reading
reading_of r = record { kept = r.cut.items ++ left_of r; ended = r.ended }

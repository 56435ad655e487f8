-- How the lines of an input are handed out, one after the other, whatever they say.
use Rattle.std.specs.Prelude.{◌≡◌, ◌<◌, ◌≤◌, ◌+◌, ℕ, List, [], ◌∷◌, ◌++◌, length, true}
use Rattle.mg_edge.specs.Edge.{SourceTold}
use Rattle.mg_edge.specs.Runs.{Gave}
use Rattle.mg_feed.specs.Lines.{IsCut, all_lines, whole_lines}
use Rattle.mg_feed.specs.Fed.{Reading}
use Rattle.mg_feed.specs.Came.{arrived_bytes}
use Rattle.mg_feed.specs.Ran.{MetEnd, Unfailed, ReadFailed}
use Rattle.mg_feed.specs.declared.lines.NextLine.{NextLine}
use Rattle.mg_feed.specs.declared.lines.NextLine.TheVariants.{Line, TooLong, Ended, Failed}

-- These lines of the bytes that came were handed out, and the bytes after these lines are kept.
abbrev pub HasHanded : List ℕ → List (List ℕ) → Reading → Type 0
HasHanded came lines read = IsCut (arrived_bytes read.ended came) lines read.kept

-- Bytes came, and no line was handed out meanwhile.
pub record MovesOn (before now : SourceTold) (old new : Reading) : Type 0 where
  pub came : List ℕ
  pub gave : Gave before.left now.left came
  pub met : MetEnd old.ended new.ended before now
  pub unfailed : Unfailed before now
  pub grows : (past : List ℕ) (lines : List (List ℕ)) → HasHanded past lines old → HasHanded (past ++ came) lines new

-- what became of the reads of a call, by its answer: the last read failed if this is Failed, and otherwise no read failed
abbrev pub EndsReads : NextLine → SourceTold → SourceTold → Type 0
EndsReads Line before now = Unfailed before now
EndsReads TooLong before now = Unfailed before now
EndsReads Ended before now = Unfailed before now
EndsReads Failed before now = ReadFailed before now

-- What comes after the lines of the bytes that came, if a line may have so many bytes. `Line`: a line, and it is handed out.
-- `TooLong`: a line that is too long, whatever bytes may follow. No bytes follow if the source has ended. `Ended`: nothing, since the
-- source has ended. `Failed`: no whole line before a read failed.
abbrev pub ComesAs : ℕ → NextLine → List ℕ → List ℕ → List (List ℕ) → Reading → Type 0
ComesAs longest Line line came lines read = HasHanded came (lines ++ line ∷ []) read × (length line ≤ longest)
ComesAs longest TooLong line came lines read =
    (more : List ℕ) → (read.ended ≡ true → more ≡ []) → (long : List ℕ) × (rest : List (List ℕ)) × (all_lines (came ++ more) ≡ lines ++ long ∷ rest) × (longest < length long)
ComesAs longest Ended line came lines read = (read.ended ≡ true) × (lines ≡ all_lines came)
ComesAs longest Failed line came lines read = lines ≡ whole_lines came

-- A call that asks for the next line, which may have so many bytes, by its answer.
pub record NextComes (longest : ℕ) (answer : NextLine) (line : List ℕ) (before now : SourceTold) (old new : Reading) : Type 0 where
  pub came : List ℕ
  pub gave : Gave before.left now.left came
  pub met : MetEnd old.ended new.ended before now
  pub reads : EndsReads answer before now
  pub comes : (past : List ℕ) (lines : List (List ℕ)) → HasHanded past lines old → ComesAs longest answer line (past ++ came) lines new

-- how many lines are handed out after this answer
abbrev pub counted_with : NextLine → ℕ → ℕ
counted_with Line count = count + 1
counted_with TooLong count = count
counted_with Ended count = count
counted_with Failed count = count

-- The steps of a call that hands out a line.
use Rattle.std.specs.Prelude.{◌≡◌, ◌<◌, ◌≤◌, ◌+◌, ◌∷◌, ◌++◌, ℕ, List, [], length, true, false, Option, None, Some}
use Rattle.mg_edge.specs.Edge.{SourceTold}
use Rattle.mg_edge.specs.Runs.{Gave}
use Rattle.mg_feed.specs.Lines.{NoFeed}
use Rattle.mg_feed.specs.Fed.{Reading}
use Rattle.mg_feed.specs.Ran.{MetEnd, late}
use Rattle.mg_feed.specs.Handed.{MovesOn, EndsReads}
use Rattle.mg_feed.specs.Code.LineEnd.{EndsLine}
use Rattle.mg_feed.specs.declared.lines.NextLine.{NextLine}
use Rattle.mg_feed.specs.declared.lines.NextLine.TheVariants.{Line, TooLong, Ended, Failed}
use Rattle.mg_feed.specs.declared.lines.Found.{Found}
use Rattle.mg_feed.specs.declared.lines.Found.TheVariants.{At, Stop}

-- why no line is handed out of what was read, if a line may have so many bytes
abbrev pub LacksLine : ℕ → NextLine → Reading → Type 0
LacksLine longest Line read = ⊥
LacksLine longest TooLong read = NoFeed read.kept × (longest < length read.kept)
LacksLine longest Ended read = (read.ended ≡ true) × NoFeed read.kept
LacksLine longest Failed read = (read.ended ≡ false) × NoFeed read.kept

-- The search for a line stops, and the kept bytes are as they were.
pub record SearchStops (longest : ℕ) (next : NextLine) (before now : SourceTold) (old new : Reading) : Type 0 where
  pub same : new ≡ old
  pub gave : Gave before.left now.left []
  pub met : MetEnd old.ended new.ended before now
  pub reads : EndsReads next before now
  pub lacks : LacksLine longest next old

-- a measure of what was read: how many bytes are kept, and one more if the source has ended
abbrev pub weight_of : Reading → ℕ
weight_of read = length read.kept + late read.ended

-- one step: more was read, or the search stops
abbrev pub StepsOn : ℕ → Option NextLine → SourceTold → SourceTold → Reading → Reading → Type 0
StepsOn longest None before now old new = MovesOn before now old new × (weight_of old < weight_of new)
StepsOn longest (Some next) before now old new = SearchStops longest next before now old new

-- A search that stops: more was read first, and then the search stopped.
pub record StopsLater (longest : ℕ) (next : NextLine) (before now : SourceTold) (old new : Reading) : Type 0 where
  pub between : SourceTold
  pub read : Reading
  pub moves : MovesOn before between old read
  pub stops : SearchStops longest next between now read new

-- the result of a search: the line feed is at this place of what is left in the block, or the search stopped
abbrev pub Finds : ℕ → Found → List ℕ → SourceTold → SourceTold → Reading → Reading → Type 0
Finds longest (At end) left before now old new = MovesOn before now old new × EndsLine left end
Finds longest (Stop next) left before now old new = StopsLater longest next before now old new

-- the line whose line feed was found is handed out, or is too long
abbrev pub HandsOutLine : ℕ → NextLine → List ℕ → Reading → Reading → Type 0
HandsOutLine longest Line line old new = (old.kept ≡ line ++ 10 ∷ new.kept) × NoFeed line × (new.ended ≡ old.ended) × (length line ≤ longest)
HandsOutLine longest TooLong line old new = (new ≡ old) × ((long : List ℕ) × (rest : List ℕ) × (old.kept ≡ long ++ 10 ∷ rest) × NoFeed long × (longest < length long))
HandsOutLine longest Ended line old new = ⊥
HandsOutLine longest Failed line old new = ⊥

-- how many lines are handed out after this answer: the number of the line, or as many as before
abbrev pub counted_by : NextLine → ℕ → ℕ → ℕ
counted_by Line count number = number
counted_by TooLong count number = count
counted_by Ended count number = count
counted_by Failed count number = count

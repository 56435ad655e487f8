-- The steps of a call that reads lines.
use Rattle.std.specs.Prelude.{◌≡◌, ◌≢◌, ◌⊎◌, ◌<◌, ◌+◌, ◌*◌, ℕ, List, [], ◌∷◌, ◌++◌, length, Bool, None, Some, Result, Ok, Err}
use Rattle.mg_value.specs.Payload.{Plain}
use Rattle.mg_value.specs.Packet.{Stamped}
use Rattle.mg_edge.specs.Edge.{SourceTold}
use Rattle.mg_edge.specs.Runs.{Gave}
use Rattle.mg_feed.specs.Lines.{NoFeed}
use Rattle.mg_feed.specs.Accepted.{with_line, line_refusal, names_stream, longest_line, most_lines}
use Rattle.mg_feed.specs.View.{before_seen, with_counted_line}
use Rattle.mg_feed.specs.Fed.{Fed}
use Rattle.mg_feed.specs.Once.{longest_block}
use Rattle.mg_feed.specs.Came.{Came}
use Rattle.mg_feed.specs.Ran.{MetEnd, late, Spends, Unfailed, FailedBy}
use Rattle.mg_feed.specs.Batch.{EndsAs, HasCause, ReadsInTime}
use Rattle.mg_feed.specs.declared.line_fault.LineFault.{LineFault}
use Rattle.mg_feed.specs.declared.line_fault.LineFault.TheVariants.{OutOfMemory as no_memory}
use Rattle.mg_feed.specs.declared.feed_end.FeedEnd.{FeedEnd}
use Rattle.mg_feed.specs.declared.feed_end.FeedEnd.TheVariants.{Refused, OutOfMemory}
use Rattle.mg_feed.specs.declared.feed_end.Step.{Step}
use Rattle.mg_feed.specs.declared.feed_end.Step.TheVariants.{Line, Read, Stop}

-- Lines --

-- The kept bytes begin with a good line, which was taken.
pub record TookLine (named : Bool) (old new : Fed) : Type 0 where
  pub line : List ℕ
  pub cut : old.read.kept ≡ line ++ 10 ∷ new.read.kept
  pub none : NoFeed line
  pub names : named ≡ names_stream line
  pub ended : new.read.ended ≡ old.read.ended
  pub good : line_refusal (before_seen old.view) line ≡ None
  pub view : new.view ≡ with_counted_line old.view (with_line old.view.graph old.view.given line)

-- The kept bytes begin with a line that isn't good, for this reason.
pub record NextLine (fault : LineFault) (old : Fed) : Type 0 where
  pub line : List ℕ
  pub rest : List ℕ
  pub cut : old.read.kept ≡ line ++ 10 ∷ rest
  pub none : NoFeed line
  pub bad : line_refusal (before_seen old.view) line ≡ Some fault

-- The result of the next line. If the line isn't taken, the feed stays as it was.
abbrev pub TookNext : Result Bool LineFault → Fed → Fed → Type 0
TookNext (Ok named) old new = TookLine named old new
TookNext (Err fault) old new = (new ≡ old) × (fault ≢ no_memory → NextLine fault old)

-- Steps --

-- A feed grew by bytes that came and by lines that it accepted.
abbrev pub Grows : Fed → Fed → List ℕ → List (List ℕ) → Type 0
Grows old new came taken = (first : List (List ℕ)) (past : List ℕ) (lines : List (List ℕ)) (gone : List (List (Stamped Plain)))
    → Came first past lines gone old → Came first (past ++ came) (lines ++ taken) gone new

-- what a feed and its source did so far; no read failed
pub record Moved (before now : SourceTold) (old new : Fed) (came : List ℕ) (taken : List (List ℕ)) : Type 0 where
  pub gave : Gave before.left now.left came
  pub grows : Grows old new came taken
  pub stops : ReadsInTime before now old came
  pub graph : new.view.graph ≡ old.view.graph
  pub number : new.view.lines ≡ old.view.lines + length taken
  pub met : MetEnd old.read.ended new.read.ended before now
  pub spent : Spends (late old.read.ended) (late new.read.ended) before.left now.left before.reads now.reads
  pub unfailed : Unfailed before now

-- a measure that rises with each step
abbrev pub weight : Fed → ℕ
weight f = f.view.lines * (longest_line + 2) + length f.read.kept + late f.read.ended

-- the greatest weight that a feed can have
abbrev pub heaviest : ℕ
heaviest = most_lines * (longest_line + 2) + longest_line + longest_block + 1

-- what the end of the reading says of all that came
abbrev pub EndsReading : FeedEnd → Fed → Type 0
EndsReading end f = (first : List (List ℕ)) (past : List ℕ) (lines : List (List ℕ)) (gone : List (List (Stamped Plain)))
    → Came first past lines gone f → EndsAs end f.view.graph first past lines f.read.ended

-- The reading stops with this end, and the feed is as it was.
pub record Stopped (end : FeedEnd) (before now : SourceTold) (old new : Fed) : Type 0 where
  pub gave : Gave before.left now.left []
  pub last : now.left_at_bytes ≡ before.left_at_bytes
  pub same : new ≡ old
  pub met : MetEnd old.read.ended new.read.ended before now
  pub spent : Spends (late old.read.ended) 1 before.left now.left before.reads now.reads
  pub failed : FailedBy end before now
  pub cause : HasCause end
  pub ends : EndsReading end new

-- how the reading stops at a line that isn't good, after so many lines
abbrev pub StopsBy : LineFault → ℕ → FeedEnd → Type 0
StopsBy fault lines end = ((fault ≡ no_memory) × (end ≡ OutOfMemory)) ⊎ ((fault ≢ no_memory) × (end ≡ Refused (lines + 1) fault))

-- the result of a step that takes a line
abbrev pub SteppedLine : Step → Fed → Fed → Type 0
SteppedLine (Line named) old new = TookLine named old new
SteppedLine Read old new = ⊥
SteppedLine (Stop end) old new = (source : SourceTold) → Stopped end source source old new

-- the result of any step of the reading
abbrev pub Stepped : Step → SourceTold → SourceTold → Fed → Fed → Type 0
Stepped (Line named) before now old new = (now ≡ before) × TookLine named old new
Stepped Read before now old new = (came : List ℕ) × Moved before now old new came [] × (weight old < weight new)
Stepped (Stop end) before now old new = Stopped end before now old new

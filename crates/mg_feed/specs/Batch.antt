-- What a call that reads lines from a source leaves, by how it ended.
use Rattle.std.specs.Prelude.{◌≡◌, ◌≢◌, ◌<◌, ◌≤◌, ◌⊎◌, ◌+◌, ⊤, ℕ, List, [], ◌++◌, length, count_by, Bool, true, false, None, Some}
use Rattle.mg_value.specs.Payload.{Plain}
use Rattle.mg_value.specs.Packet.{Stamped}
use Rattle.mg_edge.specs.Edge.{SourceTold}
use Rattle.mg_edge.specs.Runs.{Gave}
use Rattle.mg_feed.specs.Graph.{GraphInputs}
use Rattle.mg_feed.specs.Lines.{all_lines, whole_lines, but_last}
use Rattle.mg_feed.specs.Accepted.{names_stream, longest_line}
use Rattle.mg_feed.specs.Fed.{Fed}
use Rattle.mg_feed.specs.Once.{longest_block, StopsInTime}
use Rattle.mg_feed.specs.Came.{Came, Judged}
use Rattle.mg_feed.specs.Ran.{late, Unfailed, FailedBy}
use Rattle.mg_feed.specs.declared.line_fault.LineFault.TheVariants.{OutOfMemory as no_memory}
use Rattle.mg_feed.specs.declared.feed_end.FeedEnd.{FeedEnd}
use Rattle.mg_feed.specs.declared.feed_end.FeedEnd.TheVariants.{Ended, Failed, Refused, OutOfMemory}
use Rattle.mg_feed.specs.declared.feed_end.BatchEnd.{BatchEnd}
use Rattle.mg_feed.specs.declared.feed_end.BatchEnd.TheVariants.{More, End}

-- What the end of an input says of all bytes that came, and of the lines that were accepted of them after the first ones. `Ended`:
-- the source ended, and all lines are good. `Failed`: a read failed after these whole lines, and all of them are good. `Refused`:
-- this line is the first that isn't good, whatever bytes may follow. No bytes follow if the source has ended. `OutOfMemory` says
-- nothing.
abbrev pub EndsAs : FeedEnd → GraphInputs → List (List ℕ) → List ℕ → List (List ℕ) → Bool → Type 0
EndsAs Ended graph first came lines ended = (ended ≡ true) × (lines ≡ all_lines came) × Judged graph first (all_lines came) lines None
EndsAs (Failed number) graph first came lines ended =
    (number ≡ length (first ++ lines)) × (lines ≡ whole_lines came) × Judged graph first (whole_lines came) lines None
EndsAs (Refused number cause) graph first came lines ended =
    (more : List ℕ) → (ended ≡ true → more ≡ [])
    → Judged graph first (all_lines (came ++ more)) lines (Some (record { number = number; fault = cause }))
EndsAs OutOfMemory graph first came lines ended = ⊤

-- the cause of a refusal is never that memory ran out
abbrev pub HasCause : FeedEnd → Type 0
HasCause Ended = ⊤
HasCause (Failed number) = ⊤
HasCause (Refused number cause) = cause ≢ no_memory
HasCause OutOfMemory = ⊤

-- A call of a feed after which these bytes had come reads no further than it may. If the reads since an earlier moment stopped in time
-- before the call, they did so after it.
abbrev pub ReadsInTime : SourceTold → SourceTold → Fed → List ℕ → Type 0
ReadsInTime before now old came = (origin : SourceTold) (first : List (List ℕ)) (past : List ℕ) (lines : List (List ℕ)) (gone : List (List (Stamped Plain)))
    → Came first past lines gone old → Gave origin.left before.left past → StopsInTime old.view.graph first origin before past
    → StopsInTime old.view.graph first origin now (past ++ came)

-- A call that reads an input to its end. These bytes came. The call took these lines of the bytes that were kept and of the bytes
-- that came.
pub record HasRead (end : FeedEnd) (before now : SourceTold) (old new : Fed) : Type 0 where
  pub came : List ℕ
  pub taken : List (List ℕ)
  pub gave : Gave before.left now.left came
  pub number : new.view.lines ≡ old.view.lines + length taken
  pub accepted : (first : List (List ℕ)) (past : List ℕ) (lines : List (List ℕ)) (gone : List (List (Stamped Plain))) → Came first past lines gone old
      → Came first (past ++ came) (lines ++ taken) gone new × EndsAs end old.view.graph first (past ++ came) (lines ++ taken) new.read.ended
  pub stops : ReadsInTime before now old came

-- the most bytes that a feed keeps: those of a line that isn't whole yet, and a block
abbrev pub most_kept : ℕ
most_kept = longest_line + longest_block

-- Batches --

-- how many of the lines name a stream
abbrev pub naming : List (List ℕ) → ℕ
naming lines = count_by names_stream lines

-- A batch ends with More exactly if it took as many lines that name a stream as it may. The last of them is then the batch's last
-- line.
abbrev pub Fills : BatchEnd → ℕ → List (List ℕ) → Type 0
Fills More most taken = (naming taken ≡ most) × ((taken ≡ []) ⊎ (naming (but_last taken) < most))
Fills (End end) most taken = naming taken < most

-- How a batch is cut: it has as many lines that name a stream as it may. If it may end early, one such line is enough. It has no more of
-- them than it may in any case.
abbrev pub CutsAt : Bool → BatchEnd → ℕ → List (List ℕ) → Type 0
CutsAt false end most taken = Fills end most taken
CutsAt true More most taken = (naming taken ≤ most) × (0 < most → 0 < naming taken)
CutsAt true (End end) most taken = naming taken < most

-- what the end of a batch says of all bytes that came, and of the lines that were accepted of these bytes
abbrev pub BatchEndsAs : BatchEnd → GraphInputs → List (List ℕ) → List ℕ → List (List ℕ) → Bool → Type 0
BatchEndsAs More graph first came lines ended = ⊤
BatchEndsAs (End end) graph first came lines ended = EndsAs end graph first came lines ended

-- the cause of a refusal that ends a batch is never that memory ran out
abbrev pub BatchHasCause : BatchEnd → Type 0
BatchHasCause More = ⊤
BatchHasCause (End end) = HasCause end

-- what became of the reads of a batch, by how it ended
abbrev pub BatchFailedBy : BatchEnd → SourceTold → SourceTold → Type 0
BatchFailedBy More before now = Unfailed before now
BatchFailedBy (End end) before now = FailedBy end before now

-- how many reads gave no byte by the end of a batch, at most: the read that answered `End`, or a read that failed
abbrev pub idle_by : BatchEnd → Bool → ℕ
idle_by More ended = late ended
idle_by (End end) ended = 1

-- A call that reads a batch. `early` says whether the batch may end early. These bytes came. The call took these lines of the bytes
-- that were kept and of the bytes that came.
pub record HasReadBatch (early : Bool) (most : ℕ) (end : BatchEnd) (before now : SourceTold) (old new : Fed) : Type 0 where
  pub came : List ℕ
  pub taken : List (List ℕ)
  pub gave : Gave before.left now.left came
  pub number : new.view.lines ≡ old.view.lines + length taken
  pub filled : CutsAt early end most taken
  pub accepted : (first : List (List ℕ)) (past : List ℕ) (lines : List (List ℕ)) (gone : List (List (Stamped Plain))) → Came first past lines gone old
      → Came first (past ++ came) (lines ++ taken) gone new × BatchEndsAs end old.view.graph first (past ++ came) (lines ++ taken) new.read.ended
  pub stops : ReadsInTime before now old came

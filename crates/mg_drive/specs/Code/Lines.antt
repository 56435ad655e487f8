-- Batches of lines: what a feed has read, and what its lines gave.
use Rattle.std.specs.Prelude.{◌≡◌, ◌≢◌, ◌+◌, ◌-◌, ◌<◌, ◌≤◌, ℕ, List, [], ◌∷◌, ◌++◌, length, All, Bool, true, false, ⊤}
use Rattle.mg_edge.specs.Edge.{SourceTold}
use Rattle.mg_edge.specs.Runs.{Gave}
use Rattle.mg_calc.specs.declared.inputs.Inputs.{Inputs}
use Rattle.mg_calc.specs.declared.plan.Plan.{Plan}
use Rattle.mg_feed.specs.Graph.{GraphInputs, inputs_of}
use Rattle.mg_feed.specs.Accepted.{given_by, most_lines}
use Rattle.mg_feed.specs.Given.{ended_streams}
use Rattle.mg_feed.specs.View.{View}
use Rattle.mg_feed.specs.Stands.{HasAccepted, nothing_taken, packets_of}
use Rattle.mg_feed.specs.Fed.{Fed}
use Rattle.mg_feed.specs.Came.{Came}
use Rattle.mg_feed.specs.Ran.{MetEnd, Spends, Unfailed, FailedBy}
use Rattle.mg_feed.specs.Once.{StopsInTime}
use Rattle.mg_feed.specs.Batch.{EndsAs, CutsAt, idle_by}
use Rattle.mg_feed.specs.declared.feed_end.FeedEnd.TheVariants.{OutOfMemory}
use Rattle.mg_feed.specs.declared.feed_end.BatchEnd.{BatchEnd}
use Rattle.mg_feed.specs.declared.feed_end.BatchEnd.TheVariants.{More, End}
use Rattle.mg_answer.specs.Answer.{is_ended}
use Rattle.mg_answer.specs.Devices.{device}
use Rattle.mg_answer.specs.Ran.{ReadSome}
use Rattle.mg_drive.specs.Batches.{IsMore}
pub use Rattle.mg_drive.specs.InBatches.{inputs_at, batch_size}

-- whether the input has ended well with a batch
abbrev pub has_ended : BatchEnd → Bool
has_ended More = false
has_ended (End end) = is_ended end

-- memory didn't run out while a batch was read
abbrev pub HadMemory : BatchEnd → Type 0
HadMemory More = ⊤
HadMemory (End end) = end ≢ OutOfMemory

-- What is known of all reads, by how the last batch ended. Either no read failed, and there may be more; or the input came to its end.
abbrev pub ReadsAs : BatchEnd → Plan → SourceTold → SourceTold → Fed → List ℕ → List (List ℕ) → Type 0
ReadsAs More plan first source fed past lines = Unfailed first source
ReadsAs (End end) plan first source fed past lines =
    (end ≢ OutOfMemory) × EndsAs end (inputs_of plan) [] past lines fed.read.ended × FailedBy end first source

-- A feed read batches, and the last batch ended in this way. Of the bytes that came since the source told `first`, the feed accepted these
-- lines. It has handed on all that these lines gave.
pub record IsRead (plan : Plan) (first : SourceTold) (end : BatchEnd) (source : SourceTold) (fed : Fed) (past : List ℕ) (lines : List (List ℕ)) : Type 0 where
  pub graph : fed.view.graph ≡ inputs_of plan
  pub gave : Gave first.left source.left past
  pub came : Came [] past lines (packets_of (given_by (inputs_of plan) lines).streams) fed
  pub met : MetEnd false fed.read.ended first source
  pub stops : StopsInTime (inputs_of plan) [] first source past
  pub spent : Spends 0 (idle_by end fed.read.ended) first.left source.left first.reads source.reads
  pub so : ReadsAs end plan first source fed past lines

-- A feed read one more batch after these lines. The batch may have ended early or not. It hands on what the feed then had and hadn't handed
-- on before.
pub record HasBatch (early : Bool) (plan : Plan) (first : SourceTold) (end : BatchEnd) (inputs : Inputs) (source : SourceTold) (fed : Fed) (past : List ℕ) (lines : List (List ℕ)) : Type 0 where
  pub came : List ℕ
  pub more : List (List ℕ)
  pub is_read : IsRead plan first end source fed (past ++ came) (lines ++ more)
  pub view : View
  pub graph : view.graph ≡ inputs_of plan
  pub stands : HasAccepted (lines ++ more) (packets_of (given_by (inputs_of plan) lines).streams) view
  pub streams : inputs.streams ≡ ended_streams (has_ended end) view.given.streams
  pub sides : inputs.sides ≡ view.given.sides
  pub ended : inputs.ended ≡ has_ended end
  -- if more follows the batch, the batch has a line, and one of the lines so far names a stream
  pub longer : IsMore end → length lines < length (lines ++ more)
  pub named : IsMore end → (given_by (inputs_of plan) (lines ++ more)).named ≡ true
  pub few : length (lines ++ more) ≤ most_lines
  pub filled : CutsAt early end batch_size more

-- A call read some more bytes after these, or none, and all that was read was read once. The source told `at` before the call. If the
-- source had ended, nothing more was read.
pub record HasReadOn (plan : Plan) (first at now : SourceTold) (ended : Bool) (past : List ℕ) : Type 0 where
  pub read : ReadSome (inputs_of plan) (device first now)
  pub later : List ℕ
  pub split : read.came ≡ past ++ later
  pub none : ended ≡ true → (now ≡ at) × (later ≡ [])

-- what a call of a feed reads, whatever the feed had read before
abbrev pub ReadsOn : Fed → Plan → SourceTold → SourceTold → SourceTold → Type 0
ReadsOn fed plan first at now = (past : List ℕ) (lines : List (List ℕ)) → IsRead plan first More at fed past lines → HasReadOn plan first at now fed.read.ended past

-- A feed that is new for a plan.
pub record IsNew (fed : Fed) (plan : Plan) : Type 0 where
  pub graph : fed.view.graph ≡ inputs_of plan
  pub stands : HasAccepted [] (nothing_taken (inputs_of plan)) fed.view
  pub unread : fed.read ≡ record { kept = []; ended = false }

-- A feed read batches, and these inputs are all that the lines that it accepted gave.
pub record LinesGave (fed : Fed) (plan : Plan) (first source : SourceTold) (end : BatchEnd) (inputs : Inputs) : Type 0 where
  pub past : List ℕ
  pub lines : List (List ℕ)
  pub is_read : IsRead plan first end source fed past lines
  pub inputs_are : inputs ≡ inputs_at (inputs_of plan) lines (has_ended end)
  pub named : IsMore end → (given_by (inputs_of plan) lines).named ≡ true

-- all lines of batches, in order; the newest batch stands first in the list of batches
abbrev pub lines_of : List (List (List ℕ)) → List (List ℕ)
lines_of [] = []
lines_of (batch ∷ batches) = lines_of batches ++ batch

-- what had been given after each of some batches; the newest batch stands first
abbrev pub given_after : GraphInputs → List (List (List ℕ)) → List Inputs
given_after graph [] = []
given_after graph (batch ∷ batches) = inputs_at graph (lines_of (batch ∷ batches)) false ∷ given_after graph batches

-- A feed read batches, one after the other, and the history has all that it had handed on by the end of each. The batches may have ended
-- early or not.
pub record LinesCame (early : Bool) (fed : Fed) (plan : Plan) (first source : SourceTold) (end : BatchEnd) (history : List Inputs) : Type 0 where
  pub past : List ℕ
  pub newest : List (List ℕ)
  pub earlier : List (List (List ℕ))
  pub is_read : IsRead plan first end source fed past (lines_of (newest ∷ earlier))
  pub history_is : history ≡ inputs_at (inputs_of plan) (lines_of (newest ∷ earlier)) (has_ended end) ∷ given_after (inputs_of plan) earlier
  pub filled : CutsAt early end batch_size newest
  pub all_filled : All (λ batch. CutsAt early More batch_size batch) earlier
  pub named : IsMore end → (given_by (inputs_of plan) (lines_of (newest ∷ earlier))).named ≡ true

-- how many lines may still come
abbrev pub lines_left : Fed → ℕ
lines_left fed = most_lines + 1 - fed.view.lines

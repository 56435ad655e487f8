-- The lines of an input in batches, and what has come after each of them.
use Rattle.std.specs.Prelude.{ℕ, ◌<◌, List, [], ◌∷◌, ◌++◌, Bool, false}
use Rattle.mg_calc.specs.declared.inputs.Inputs.{Inputs}
use Rattle.mg_feed.specs.Graph.{GraphInputs}
use Rattle.mg_feed.specs.Accepted.{given_by}
use Rattle.mg_feed.specs.Given.{ended_streams}
use Rattle.mg_feed.specs.Batch.{CutsAt, naming}
use Rattle.mg_feed.specs.declared.feed_end.FeedEnd.{FeedEnd}
use Rattle.mg_feed.specs.declared.feed_end.BatchEnd.TheVariants.{More}
use Rattle.mg_answer.specs.Answer.{is_ended}
use Rattle.mg_drive.specs.declared.lines.TheConstants.{BATCH}

-- what lines give a graph; `ended` says whether the input has ended well with them
abbrev pub inputs_at : GraphInputs → List (List ℕ) → Bool → Inputs
inputs_at graph lines ended = record { streams = ended_streams ended (given_by graph lines).streams; sides = (given_by graph lines).sides; ended = ended }

-- the most lines that name a stream in one batch
abbrev pub batch_size : ℕ
batch_size = BATCH

-- Lines are split into batches: each but the last has `batch_size` lines that name a stream, and ends with one of these. So there is one way
-- to split them. If batches may end early, each but the last has one such line at least, and `batch_size` at most. Then there may be many
-- ways.
pub data InBatches (early : Bool) : List (List ℕ) → List (List (List ℕ)) → Type 0 where
  last : {lines : List (List ℕ)} → naming lines < batch_size → InBatches early lines (lines ∷ [])
  more : {batch rest : List (List ℕ)} {batches : List (List (List ℕ))} → CutsAt early More batch_size batch → InBatches early rest batches → InBatches early (batch ++ rest) (batch ∷ batches)

-- what all batches up to each one have given together, if the lines `past` come before the first batch
abbrev pub come_after : GraphInputs → FeedEnd → List (List ℕ) → List (List (List ℕ)) → List Inputs
come_after graph end past [] = []
come_after graph end past (batch ∷ []) = inputs_at graph (past ++ batch) (is_ended end) ∷ []
come_after graph end past (batch ∷ next ∷ batches) = inputs_at graph (past ++ batch) false ∷ come_after graph end (past ++ batch) (next ∷ batches)

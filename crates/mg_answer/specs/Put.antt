-- A text that is put part by part, as set by set, and written in blocks as it grows.
use Rattle.std.specs.Prelude.{◌≡◌, ℕ, List, [], ◌++◌, Bool, true, false}
use Rattle.mg_edge.specs.Edge.{SinkTold}
use Rattle.mg_feed.specs.Sent.{SentAll, SentPart}

-- An output text as contracts see it. It has the names of the outputs whose lines are in the text, the bytes that aren't written
-- yet, and whether a write has failed.
pub record TextView : Type 0 where
  pub names : List (List ℕ)
  pub kept : List ℕ
  pub failed : Bool

-- the output text of these outputs before anything is put into it
abbrev pub nothing_put : List (List ℕ) → TextView
nothing_put names = record { names = names; kept = []; failed = false }

-- a text that is written in blocks, as contracts see it: the bytes that aren't written yet, and whether a write has failed
pub record BlockView : Type 0 where
  pub kept : List ℕ
  pub failed : Bool

abbrev pub nothing_kept : BlockView
nothing_kept = record { kept = []; failed = false }

-- If a write has failed, the sink took a prefix of the text. If none has, the sink took all of the text but the bytes that are kept
-- for the next write.
abbrev pub PutBy : Bool → SinkTold → SinkTold → List ℕ → List ℕ → Type 0
PutBy true first now kept text = SentPart first now text
PutBy false first now kept text = (sent : List ℕ) × SentAll first now sent × (text ≡ sent ++ kept)

-- All of a text was put, into a sink that told `first` before and tells `now`.
abbrev pub HasPutIn : SinkTold → SinkTold → BlockView → List ℕ → Type 0
HasPutIn first now view text = PutBy view.failed first now view.kept text

-- All of an output text was put, into a sink that told `first` before and tells `now`.
abbrev pub HasPut : SinkTold → SinkTold → TextView → List ℕ → Type 0
HasPut first now view text = PutBy view.failed first now view.kept text

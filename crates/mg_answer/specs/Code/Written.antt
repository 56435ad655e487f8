-- A text that is written in blocks.
use Rattle.std.specs.Prelude.{◌≡◌, ℕ, List, ◌++◌, Bool, true, false}
use Rattle.mg_edge.specs.Edge.{SinkTold}
use Rattle.mg_feed.specs.Sent.{SentAll, SentPart}
use Rattle.mg_answer.specs.Put.{TextView, HasPut}

-- A first part of a whole text was put, and the rest is still to come.
pub record Pours (first now : SinkTold) (view : TextView) (whole rest : List ℕ) : Type 0 where
  pub so_far : List ℕ
  pub has : HasPut first now view so_far
  pub is : whole ≡ so_far ++ rest

-- What a sink took of a text. If no write failed, it took all of the text but `left`, and `left` is still to be written. If a write
-- failed, it took a prefix of the text.
abbrev pub HandedOn : Bool → SinkTold → SinkTold → List ℕ → List ℕ → Type 0
HandedOn true before now text left = (sent : List ℕ) × SentAll before now sent × (text ≡ sent ++ left)
HandedOn false before now text left = SentPart before now text

-- What a sink took of a text.
use Rattle.std.specs.Prelude.{◌≡◌, ℕ, List, ◌++◌, Bool, true, false}
use Rattle.mg_edge.specs.Edge.{SinkTold, HasRisen}
use Rattle.mg_edge.specs.Runs.{TookAll}

-- A sink took a whole text, and no write failed.
pub record SentAll (before now : SinkTold) (text : List ℕ) : Type 0 where
  pub whole : TookAll before.taken now.taken text
  pub steady : now.faults ≡ before.faults

-- A sink took a prefix of a text, and no more, and a write failed.
pub record SentPart (before now : SinkTold) (text : List ℕ) : Type 0 where
  pub front : List ℕ
  pub rest : List ℕ
  pub cut : text ≡ front ++ rest
  pub taken : TookAll before.taken now.taken front
  pub rose : HasRisen before.faults now.faults

-- what a sink took of a text, by whether all of it was sent
abbrev pub Sent : Bool → SinkTold → SinkTold → List ℕ → Type 0
Sent true before now text = SentAll before now text
Sent false before now text = SentPart before now text

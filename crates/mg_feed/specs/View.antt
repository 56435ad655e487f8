-- What a feed has of the lines that it accepted.
use Rattle.std.specs.Prelude.{◌||◌, ◌+◌, ℕ, List, [], ◌∷◌, map, Bool, true, Some}
use Rattle.mg_value.specs.Payload.{Plain}
use Rattle.mg_settled.specs.Prefix.{StreamPrefix}
use Rattle.mg_feed.specs.Graph.{GraphInputs}
use Rattle.mg_feed.specs.Accepted.{State, Before, has_some, stepped}
use Rattle.mg_feed.specs.declared.standing.Standing.{Standing}

-- what a feed has of the lines that it accepted. `graph` is the graph's inputs. `given` is what the lines gave, without packets
-- that were taken. `taken` says of each stream whether packets were taken of it. `lines` is how many lines there were
pub record View : Type 0 where
  pub graph : GraphInputs
  pub given : State
  pub taken : List Bool
  pub lines : ℕ

-- the standings of the streams; packets may have been taken of them
abbrev pub standings : List Bool → List (StreamPrefix Plain) → List Standing
standings [] ss = []
standings (t ∷ ts) [] = []
standings (t ∷ ts) (s ∷ ss) = record { bound = s.bound; begun = t || has_some s.packets } ∷ standings ts ss

-- what the next line is judged by
abbrev pub before_seen : View → Before
before_seen v = record { graph = v.graph; lines = v.lines; streams = standings v.taken v.given.streams; sides = v.given.sides; named = v.given.named }

-- a prefix without its packets, as it is once they were taken
abbrev pub without_packets : StreamPrefix Plain → StreamPrefix Plain
without_packets s = record { packets = []; bound = s.bound }

-- for each stream whether packets were taken of it, once all that it has are taken
abbrev pub all_taken : List Bool → List (StreamPrefix Plain) → List Bool
all_taken [] ss = []
all_taken (t ∷ ts) [] = []
all_taken (t ∷ ts) (s ∷ ss) = (t || has_some s.packets) ∷ all_taken ts ss

-- the view after all its packets were taken
abbrev pub after_taking : View → View
after_taking v = record {
  graph = v.graph;
  given = record { streams = map without_packets v.given.streams; sides = v.given.sides; named = v.given.named };
  taken = all_taken v.taken v.given.streams;
  lines = v.lines;
}

-- the view with other streams, after a line that named a stream
abbrev pub with_streams : View → List (StreamPrefix Plain) → View
with_streams v ss = record { graph = v.graph; given = record { streams = ss; sides = v.given.sides; named = true }; taken = v.taken; lines = v.lines }

-- the view with a side packet at a place
abbrev pub with_side : View → ℕ → Plain → View
with_side v place p = record {
  graph = v.graph;
  given = record { streams = v.given.streams; sides = stepped place (λ _. Some p) v.given.sides; named = v.given.named };
  taken = v.taken;
  lines = v.lines;
}

-- the view with what is given
abbrev pub with_given : View → State → View
with_given v given = record { graph = v.graph; given = given; taken = v.taken; lines = v.lines }

-- the view with what is given, after one more line
abbrev pub with_counted_line : View → State → View
with_counted_line v given = record { graph = v.graph; given = given; taken = v.taken; lines = v.lines + 1 }

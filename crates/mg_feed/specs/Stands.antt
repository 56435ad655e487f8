-- What a feed stands for: lines that were accepted, and packets that were taken of what these lines gave.
use Rattle.std.specs.Prelude.{◌≡◌, ℕ, List, [], ◌∷◌, ◌++◌, map, replicate, length, None}
use Rattle.mg_value.specs.Payload.{Plain}
use Rattle.mg_value.specs.Packet.{Stamped}
use Rattle.mg_settled.specs.Prefix.{StreamPrefix}
use Rattle.mg_feed.specs.Graph.{GraphInputs}
use Rattle.mg_feed.specs.Accepted.{given_by, refusal, has_some}
use Rattle.mg_feed.specs.View.{View}

-- each line is good after the lines before it
abbrev pub AllGood : GraphInputs → List (List ℕ) → List (List ℕ) → Type 0
AllGood graph before [] = Unit {0}
AllGood graph before (line ∷ lines) = (refusal graph before line ≡ None) × AllGood graph (before ++ line ∷ []) lines

-- a prefix, with the packets that were taken of it put before its own
abbrev pub with_gone : List (Stamped Plain) → StreamPrefix Plain → StreamPrefix Plain
with_gone t s = record { packets = t ++ s.packets; bound = s.bound }

-- the prefixes, each with the packets that were taken of it put before its own
abbrev pub behind_all : List (List (Stamped Plain)) → List (StreamPrefix Plain) → List (StreamPrefix Plain)
behind_all [] ss = []
behind_all (t ∷ ts) [] = []
behind_all (t ∷ ts) (s ∷ ss) = with_gone t s ∷ behind_all ts ss

-- The feed accepted these lines. Of what they gave it has all but the packets that were taken, perhaps some of each stream.
pub record HasAccepted (lines : List (List ℕ)) (gone : List (List (Stamped Plain))) (v : View) : Type 0 where
  pub number : v.lines ≡ length lines
  pub good : AllGood v.graph [] lines
  pub given : given_by v.graph lines ≡ record { streams = behind_all gone v.given.streams; sides = v.given.sides; named = v.given.named }
  pub many : length gone ≡ length v.given.streams
  pub taken : v.taken ≡ map has_some gone

-- the packets of each prefix
abbrev pub packets_of : List (StreamPrefix Plain) → List (List (Stamped Plain))
packets_of ss = map (λ s. s.packets) ss

-- no packets, for each stream
abbrev pub nothing_taken : GraphInputs → List (List (Stamped Plain))
nothing_taken graph = replicate (length graph.kinds) []

-- the packets that were taken before, and those of some prefixes after them
abbrev pub taken_with : List (List (Stamped Plain)) → List (StreamPrefix Plain) → List (List (Stamped Plain))
taken_with [] ss = []
taken_with (t ∷ ts) [] = []
taken_with (t ∷ ts) (s ∷ ss) = (t ++ s.packets) ∷ taken_with ts ss

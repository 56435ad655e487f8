-- Packets that are made piece by piece.
use Rattle.std.specs.Prelude.{◌≡◌, ◌<◌, ◌≤◌, ◌-◌, ◌==◌, ◌^◌, ℕ, Bool, true, false, List, [], ◌∷◌, length, map}
use Rattle.mg_calc.specs.declared.inputs.Inputs.{Inputs}
use Rattle.mg_calc.specs.declared.plan.Plan.{Plan}
use Rattle.mg_feed.specs.Graph.{GraphInputs, inputs_of}
use Rattle.mg_feed.specs.Given.{ended_streams}
use Rattle.mg_feed.specs.Generated.{generated_streams, generated_sides}
use Rattle.mg_feed.specs.Pieces.{Making, HasHandedOn}
use Rattle.mg_feed.specs.declared.feed_end.FeedEnd.TheVariants.{Ended}
use Rattle.mg_feed.specs.declared.feed_end.BatchEnd.{BatchEnd}
use Rattle.mg_feed.specs.declared.feed_end.BatchEnd.TheVariants.{More, End}

-- what a number of packets that are made give a graph; `ended` says whether the streams have ended with them
abbrev pub made_inputs : GraphInputs → ℕ → Bool → Inputs
made_inputs graph number ended = record { streams = ended_streams ended (generated_streams graph.kinds number); sides = generated_sides (length graph.sides); ended = ended }

-- how a piece ends: the input has ended with it, or more comes after it
abbrev pub piece_end : Bool → BatchEnd
piece_end true = End Ended
piece_end false = More

-- a number of packets are to be made for a plan, and none is made yet
pub record AreToCome (plan : Plan) (number : ℕ) (m : Making) : Type 0 where
  pub handed_on : HasHandedOn (inputs_of plan) number m
  pub none : m.made ≡ 0
  pub few : number < 2 ^ 32

-- Some of a number of packets were made for a plan, and `inputs` are what they give.
pub record WereMade (plan : Plan) (number : ℕ) (m : Making) (end : BatchEnd) (inputs : Inputs) : Type 0 where
  pub handed_on : HasHandedOn (inputs_of plan) number m
  pub few : number < 2 ^ 32
  pub end_is : end ≡ piece_end (m.made == number)
  pub inputs_are : inputs ≡ made_inputs (inputs_of plan) m.made (m.made == number)

-- Packets came piece by piece, and how many packets a piece has (`most`) hasn't changed since the first. Each earlier entry is what some
-- number of packets give, and nothing is said of these numbers. If there are no more packets than a piece has, all came at once.
pub record HaveComeInPieces (plan : Plan) (number most now : ℕ) (m : Making) (end : BatchEnd) (history : List Inputs) : Type 0 where
  pub inputs : Inputs
  pub given : WereMade plan number m end inputs
  pub earlier : List ℕ
  pub history_is : history ≡ inputs ∷ map (λ made. made_inputs (inputs_of plan) made false) earlier
  pub most_is : now ≡ most
  pub at_once : number ≤ most → (earlier ≡ []) × (m.made ≡ number)

-- how many packets are still to be made
abbrev pub packets_left : Making → ℕ
packets_left m = m.number - m.made

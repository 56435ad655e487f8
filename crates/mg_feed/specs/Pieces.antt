-- Packets that are made piece by piece.
use Rattle.std.specs.Prelude.{◌≡◌, ◌≤◌, ℕ, Bool, map, length}
use Rattle.mg_calc.specs.declared.inputs.Inputs.{Inputs}
use Rattle.mg_feed.specs.Graph.{GraphInputs}
use Rattle.mg_feed.specs.Given.{ended_streams}
use Rattle.mg_feed.specs.View.{View, without_packets}
use Rattle.mg_feed.specs.Stands.{behind_all, packets_of}
use Rattle.mg_feed.specs.Generated.{generated_streams, generated_sides}

-- what a generator has. `view` is what it made, without packets that it handed on. `number` is how many packets there are in all,
-- and `made` how many of them it made
pub record Making : Type 0 where
  pub view : View
  pub number : ℕ
  pub made : ℕ

-- A generator of this number of packets for a graph handed on all packets that it made so far.
pub record HasHandedOn (graph : GraphInputs) (number : ℕ) (m : Making) : Type 0 where
  pub graph_is : m.view.graph ≡ graph
  pub number_is : m.number ≡ number
  pub few : m.made ≤ number
  pub streams : m.view.given.streams ≡ map without_packets (generated_streams graph.kinds m.made)
  pub sides : m.view.given.sides ≡ generated_sides (length graph.sides)

-- A piece is what a graph gets once `now` packets are made, if it got the first `before` packets already. It has, stream by stream,
-- the further packets and the bound as it is now. The bound is Done if the streams have ended. All side packets are in each piece.
pub record IsPiece (graph : GraphInputs) (before now : ℕ) (ended : Bool) (piece : Inputs) : Type 0 where
  pub many : length piece.streams ≡ length graph.kinds
  pub streams : ended_streams ended (generated_streams graph.kinds now) ≡ behind_all (packets_of (generated_streams graph.kinds before)) piece.streams
  pub sides : piece.sides ≡ generated_sides (length graph.sides)
  pub ended_is : piece.ended ≡ ended

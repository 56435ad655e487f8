-- The engine and the intake of a node while both are out of their slots.
use Rattle.mg_calc.specs.Rules.{Laws}
use Rattle.std.specs.Prelude.{◌≡◌, ℕ, ◌+◌, ◌*◌, ◌<◌, ◌∷◌, None}
use Rattle.mg_node.specs.Views.{IntakeView, EngineView}
use Rattle.mg_turns.specs.Parts.{LayoutView, an_engine, an_intake, nodes_in, Follows}
use Rattle.mg_turns.specs.Rule.{word_of}
use Rattle.mg_turns.specs.Sights.{FindsCell}
use Rattle.mg_turns.specs.Code.Plays.{Sat, turn_of_word, turning}

-- a seat took the turns of a node's engine and intake, and their parts out of their slots
pub record TakesCell (laws : Laws) (key : LayoutView) (m : Sat) (node : ℕ) (e : EngineView) (engine_word laid : ℕ) (i : IntakeView) (intake_word : ℕ) (n : Sat) : Type 0 where
  pub found : FindsCell laws m.0 node e i
  pub within : node < nodes_in key
  pub engine : Follows laws key (2 * node + 1) (an_engine e)
  pub intake : Follows laws key (2 * node) (an_intake i)
  pub then : n ≡ (turning m.0 (turn_of_word m.0.key (2 * node) (an_intake i) ∷ turn_of_word m.0.key (2 * node + 1) (an_engine e) ∷ m.0.turns), (2 * node, None) ∷ (2 * node + 1, None) ∷ m.1)
  pub engine_word_is : engine_word ≡ word_of m.0.key (2 * node + 1) (an_engine e)
  pub intake_word_is : intake_word ≡ word_of m.0.key (2 * node) (an_intake i)
  pub laid_is : laid ≡ e.laid

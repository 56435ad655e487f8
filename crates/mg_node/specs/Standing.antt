-- The standing of an engine, which others may have been told: it only grows, number by number.
use Rattle.std.specs.Prelude.{◌≡◌, ℕ, ◌≤◌, true}
use Rattle.mg_node.specs.Views.{EngineView}
use Rattle.mg_node.specs.Outputs.{laid_at}
use Rattle.mg_node.specs.Windows.{has_ended}
use Rattle.mg_node.specs.IntakeStanding.{HasGrown}

-- the standing of an engine has grown: no fewer sets, calls or answers are laid, and no fewer are claimed. If its node had failed or
-- closed, it still has. Each output has grown, counting the packets that were given up. A number past the last output stands for an output
-- at which nothing is laid.
pub record EngineGrows (before now : EngineView) : Type 0 where
  pub laid : before.laid ≤ now.laid
  pub claimed : before.claimed ≤ now.claimed
  pub ended : has_ended before ≡ true → has_ended now ≡ true
  pub outputs : (output : ℕ) → HasGrown (laid_at before output) (laid_at now output)

-- How a net is wound up once its run has come to rest. The nodes are wound up in order, each by its engine, as far as memory suffices.
use Rattle.mg_calc.specs.Rules.{Laws}
use Rattle.std.specs.Prelude.{◌≡◌, ℕ, ◌+◌, ◌<◌, ◌≤◌, length, Some, slice_get, slice_set}
use Rattle.mg_node.specs.Views.{EngineView}
use Rattle.mg_node.specs.WindingUp.{WindsUp}
use Rattle.mg_sched.specs.Views.{NetView}

-- a net may be wound up: each node has an engine, and no more nodes are wound up than there are. Every net that stands for a job may be,
-- and every one that was wound up in part
pub record MayWindUp (net : NetView) : Type 0 where
  pub engines : length net.plan.nodes ≤ length net.engines
  pub wound : net.wound ≤ length net.plan.nodes

-- the first node that wasn't wound up is wound up, and is counted
pub record WindsNext (laws : Laws) (before now : NetView) : Type 0 where
  pub engine : EngineView
  pub there : slice_get before.engines before.wound ≡ Some engine
  pub engine_now : EngineView
  pub winds_up : WindsUp laws engine engine_now
  pub now_is : now ≡ record before { engines = slice_set before.engines before.wound engine_now; wound = before.wound + 1 }

-- more nodes are wound up: those from the first that wasn't wound up, up to the new count. The engines before and after them are the same,
-- and so is all else
pub record WindsUpNet (laws : Laws) (before now : NetView) : Type 0 where
  pub more : before.wound ≤ now.wound
  pub upto : now.wound ≤ length before.plan.nodes
  pub parts : now ≡ record before { engines = now.engines; wound = now.wound }
  pub places : length now.engines ≡ length before.engines
  pub wound_up : (place : ℕ) (engine engine_now : EngineView) → before.wound ≤ place → place < now.wound → slice_get before.engines place ≡ Some engine
      → slice_get now.engines place ≡ Some engine_now → WindsUp laws engine engine_now
  pub had_been : (place : ℕ) → place < before.wound → slice_get now.engines place ≡ slice_get before.engines place
  pub others : (place : ℕ) → now.wound ≤ place → slice_get now.engines place ≡ slice_get before.engines place

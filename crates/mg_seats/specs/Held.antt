-- What stays of a net that is shared, and of a work.
use Rattle.mg_calc.specs.Rules.{Laws}
use Rattle.std.specs.Prelude.{◌≡◌, ℕ, length}
use Rattle.mg_node.specs.Views.{WorkView}
use Rattle.mg_sched.specs.Views.{NetView}
use Rattle.mg_sched.specs.StandsFor.{StandsForSome}
use Rattle.mg_turns.specs.Parts.{LayoutView}
use Rattle.mg_workers.specs.Shared.{KeptView, IsSharedOf}

-- a net stands for some job, and its graph has `count` outputs
pub record HasOutputs (laws : Laws) (count : ℕ) (net : NetView) : Type 0 where
  pub stands : StandsForSome laws net
  pub outputs : length net.plan.outputs ≡ count

-- a net that stands for some job and has this many outputs came apart into what is shared and what is kept aside
pub record CameOf (laws : Laws) (count : ℕ) (key : LayoutView) (kept : KeptView) : Type 0 where
  pub before : NetView
  pub has : HasOutputs laws count before
  pub of : IsSharedOf laws before key kept

-- two views are of the same work, whatever its calculator has done in between
pub record IsSameWork (work now : WorkView) : Type 0 where
  pub node : now.node ≡ work.node
  pub number : now.number ≡ work.number
  pub phase : now.phase ≡ work.phase

-- What becomes of a net that threads share.
use Rattle.mg_calc.specs.Rules.{Laws}
use Rattle.std.specs.Prelude.{◌≡◌, ℕ}
use Rattle.mg_node.specs.Job.{LoggedJob}
use Rattle.mg_sched.specs.Views.{NetView}
use Rattle.mg_sched.specs.StandsFor.{StandsFor}
use Rattle.mg_sched.specs.Taking.{taken_out}
use Rattle.mg_sched.specs.Looks.{HasFrom}
use Rattle.mg_sched.specs.ComesApart.{PartsView, HasComeApart, IsPutTogether}

-- A net is what another net became: it stands for each job for which the other net stood. As many sets were taken of its
-- outputs. Its plan and the calculators that no node uses are the same. No packet of a stream was given up in between.
pub record Became (laws : Laws) (before now : NetView) : Type 0 where
  pub stands : (job : LoggedJob laws) → StandsFor job before → StandsFor job now
  pub taken : taken_out now ≡ taken_out before
  pub plan : now.plan ≡ before.plan
  pub spare : now.spare ≡ before.spare
  pub whole : (stream number : ℕ) → HasFrom before stream number → HasFrom now stream number

-- A net is another one as it was, except that the works that lay in its work queues stand in their windows again.
pub record CameBack (before now : NetView) : Type 0 where
  pub parts : PartsView
  pub apart : HasComeApart before parts
  pub together : IsPutTogether parts now

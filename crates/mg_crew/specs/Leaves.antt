-- What workers leave of a net.
use Rattle.mg_calc.specs.Rules.{Laws}
use Rattle.std.specs.Prelude.{◌≡◌, ℕ, ◌<◌, ◌⊎◌, length}
use Rattle.mg_sched.specs.Views.{NetView}
use Rattle.mg_sched.specs.ComesApart.{PartsView, parts_in, HasComeApart}
use Rattle.mg_turns.specs.Parts.{at, Follows}
use Rattle.mg_workers.specs.Woven.{layout_of}
use Rattle.mg_workers.specs.Became.{CameBack}

-- a net came apart, and each of its parts has become the part of the net that is there now. That part is lawful for the same
-- jobs, its standing only grew, and it gave up no packet
pub record NetGoesOn (laws : Laws) (before now : NetView) : Type 0 where
  pub parts : PartsView
  pub apart : HasComeApart before parts
  pub count : length (layout_of (parts_in now)).parts ≡ length (layout_of parts).parts
  pub follows : (word : ℕ) → word < length (layout_of parts).parts → Follows laws (layout_of parts) word (at (layout_of (parts_in now)) word)

-- what workers leave of a net, in one of three ways. The net is as it was. Or it is as it was but that the works in its work
-- queues stand in their windows again. Or it is a net whose parts have gone on
abbrev pub Leaves : Laws → NetView → NetView → Type 0
Leaves laws before now = (now ≡ before) ⊎ (CameBack before now ⊎ NetGoesOn laws before now)

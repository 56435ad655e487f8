-- What hears the events of a net hears a run of it.
use Rattle.std.specs.Prelude.{List, ◌++◌}
use Rattle.mg_calc.specs.Rules.{Laws}
use Rattle.mg_calc.specs.declared.event.Event.{Event}
use Rattle.mg_sched.specs.Views.{NetView}
use Rattle.mg_sched.specs.Runs.{IsRun}

-- A net came from one position to another. The hearer of its events heard a run from the first to the second, after what it had heard since
-- it began.
abbrev pub Heard : (laws : Laws) {H : Type 0} → (H → H → List Event → Type 0) → H → H → NetView → NetView → Type 0
Heard laws {H} has_heard before now net net_now =
    (began : H) (events : List Event) → has_heard began before events → (more : List Event) × IsRun laws more net net_now × has_heard began now (events ++ more)

-- The hearer of a net's events heard a run that leads from this position of the net to some other.
abbrev pub HeardSome : (laws : Laws) {H : Type 0} → (H → H → List Event → Type 0) → H → H → NetView → Type 0
HeardSome laws {H} has_heard before now net = (there : NetView) × Heard laws has_heard before now net there

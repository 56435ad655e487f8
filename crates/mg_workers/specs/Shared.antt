-- A net that is shared, its seats, and what is kept aside meanwhile.
use Rattle.std.specs.Prelude.{◌≡◌, ◌<◌, None, refl}
use Rattle.std.specs.Coded.{Coded, code_by, coded×}
use Rattle.mg_calc.specs.Rules.{Laws}
use Rattle.mg_calc.specs.declared.plan.Plan.{Plan}
use Rattle.mg_calc.specs.declared.node_calculator.NodeCalculator.{Ghosts}
use Rattle.mg_calc.specs.ToldCodes.{plan_code}
use Rattle.mg_node.specs.Job.{LoggedJob}
use Rattle.mg_node.specs.Views.{WorkView}
use Rattle.mg_sched.specs.Views.{NetView}
use Rattle.mg_sched.specs.StandsFor.{StandsFor}
use Rattle.mg_sched.specs.ComesApart.{RestView, PartsView, HasComeApart, ArePartsOf}
use Rattle.mg_sched.specs.Codes.{rest_code}
use Rattle.mg_turns.specs.Parts.{LayoutView, FitsSome, EdgesFit, nodes_in}
use Rattle.mg_turns.specs.Calls.{key_of, view_of, IsSeatOf, HasOutcome}
use Rattle.mg_turns.specs.declared.shared.SharedNet.{SharedNet}
use Rattle.mg_turns.specs.declared.seat.NetSeat.{NetSeat}
use Rattle.mg_workers.specs.Woven.{layout_of}

-- a seat is of a net whose parts are those of some job, and it has no work
pub record IsShared (laws : Laws) {X : Type 0} {g : Ghosts X} (net : SharedNet X) (seat : NetSeat X g) : Type 0 where
  pub of : IsSeatOf net seat
  pub some : FitsSome laws (key_of net)
  pub edges : EdgesFit (key_of net)
  pub free : (view_of seat).work ≡ None

-- a seat of a net has no work, and as much of the portion as before
pub record StaysShared (laws : Laws) {X : Type 0} {g : Ghosts X} (net : SharedNet X) (before now : NetSeat X g) : Type 0 where
  pub shared : IsShared laws net now
  pub portion : (view_of now).portion ≡ (view_of before).portion

-- a seat is of a net whose parts are those of some job, and this work is its own
pub record IsSharedWith (laws : Laws) {X : Type 0} {g : Ghosts X} (net : SharedNet X) (seat : NetSeat X g) (work : WorkView) : Type 0 where
  pub of : IsSeatOf net seat
  pub some : FitsSome laws (key_of net)
  pub edges : EdgesFit (key_of net)
  pub has : HasOutcome (view_of seat).work work
  pub node : work.node < nodes_in (key_of net)

-- what is kept aside: the plan, and what stays of the net
pub record KeptView : Type 0 where
  pub plan : Plan
  pub rest : RestView

abbrev pub kept_code : Coded KeptView
kept_code = code_by (Plan × RestView) (coded× plan_code rest_code) (λ k. (k.plan, k.rest)) (λ p. record { plan = p.0; rest = p.1 }) (λ _. refl)

-- a net came apart into the parts that are shared and what is kept aside. For each job for which the net stood, these are the
-- parts of one net
pub record IsSharedOf (laws : Laws) (before : NetView) (key : LayoutView) (kept : KeptView) : Type 0 where
  pub parts : PartsView
  pub apart : HasComeApart before parts
  pub of : (job : LoggedJob laws) → StandsFor job before → ArePartsOf job parts
  pub shared : key ≡ layout_of parts
  pub stays : kept ≡ record { plan = parts.plan; rest = parts.rest }

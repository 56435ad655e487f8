-- The work of a node's next set that is claimed, performed and committed in one call. This call leaves what the three calls leave one after
-- the other.
use Rattle.mg_calc.specs.Rules.{Laws}
use Rattle.std.specs.Prelude.{◌≡◌, ℕ, ◌<◌, false, [], length, ⊤}
use Rattle.mg_node.specs.declared.at_once.AtOnce.{AtOnce}
use Rattle.mg_node.specs.declared.at_once.AtOnce.TheVariants.{Other, NotReady, Claimed, Performed, Committed}
use Rattle.mg_node.specs.declared.claimed.Claimed.TheVariants.{Work, NotReady as NoneReady}
use Rattle.mg_node.specs.declared.role.Role.TheVariants.{Sets}
use Rattle.mg_node.specs.Views.{IntakeView, WorkView, PerformedView, EngineView}
use Rattle.mg_node.specs.Windows.{has_ended}
use Rattle.mg_node.specs.Shelves.{shelved, outcome_of}
use Rattle.mg_node.specs.Running.{IsPerformed}
use Rattle.mg_node.specs.Claims.{AreSame, Claims}
use Rattle.mg_node.specs.Commits.{Commits}

-- an engine may do a set at once: it is shown sets and goes on, no work is under way, and a context is idle
pub record MayShow (engine : EngineView) : Type 0 where
  pub role : engine.role ≡ Sets
  pub goes : has_ended engine ≡ false
  pub none : engine.window ≡ []
  pub context : 0 < length engine.idle

-- the work of a number is claimed, which leaves the engine `between` and the intake `intake_now`, and is then performed
pub record IsDoneBetween (laws : Laws) (C : Type 0) (number : ℕ) (engine between : EngineView) (intake intake_now : IntakeView) : Type 0 where
  pub work : WorkView
  pub claims : Claims {C = C} (Work work) engine between intake intake_now
  pub performed : PerformedView
  pub done : IsPerformed laws work performed
  pub number_is : number ≡ work.number

-- the work of a number is claimed and performed, and stands in the engine's window as performed and not committed
pub record IsLeftPerformed (laws : Laws) (C : Type 0) (number : ℕ) (engine engine_now : EngineView) (intake intake_now : IntakeView) : Type 0 where
  pub between : EngineView
  pub done : IsDoneBetween laws C number engine between intake intake_now
  pub left : engine_now ≡ shelved between (outcome_of done.performed)

-- the work of a number is claimed, performed and committed
pub record IsLeftCommitted (laws : Laws) (C : Type 0) (number : ℕ) (engine engine_now : EngineView) (intake intake_now : IntakeView) : Type 0 where
  pub between : EngineView
  pub done : IsDoneBetween laws C number engine between intake intake_now
  pub laid : ℕ
  pub commits : Commits (outcome_of done.performed) laid between engine_now

-- what each answer says of the engine and the intake before the call and after it
abbrev pub DoesAtOnce : (laws : Laws) {C : Type 0} → AtOnce C → EngineView → EngineView → IntakeView → IntakeView → Type 0
DoesAtOnce laws Other engine engine_now intake intake_now = AreSame engine intake engine_now intake_now
DoesAtOnce laws {C} NotReady engine engine_now intake intake_now = Claims {C = C} NoneReady engine engine_now intake intake_now
DoesAtOnce laws {C} (Claimed work) engine engine_now intake intake_now = Claims {C = C} (Work work) engine engine_now intake intake_now
DoesAtOnce laws {C} (Performed number) engine engine_now intake intake_now = IsLeftPerformed laws C number engine engine_now intake intake_now
DoesAtOnce laws {C} (Committed number) engine engine_now intake intake_now = IsLeftCommitted laws C number engine engine_now intake intake_now

-- whether an answer tells that the next set was claimed
abbrev pub IsShown : {C : Type 0} → AtOnce C → Type 0
IsShown Other = ⊥
IsShown NotReady = ⊥
IsShown (Claimed work) = ⊤
IsShown (Performed number) = ⊤
IsShown (Committed number) = ⊤

-- What holds of the drafts of nodes that aren't refused.
use Rattle.std.specs.Prelude.{◌≡◌, ◌≢◌, ◌≤◌, ◌⊎◌, ℕ, false, List, length, filter_map, All, AllPairs, IfSome, IsSome, IsSomeAnd, slice_get}
use Rattle.mg_calc.specs.declared.law.Law.{Law}
use Rattle.mg_calc.specs.declared.law.Law.TheVariants.{Loopback}
use Rattle.mg_calc.specs.declared.shape.OuterShape.{OuterShape}
use Rattle.mg_calc.specs.Shape.{ParametersFit, IsStated, IsShapeOf, IsLimiter}
use Rattle.mg_calc.specs.Plan.{MayHavePolicy}
use Rattle.mg_check.specs.Drafts.{DraftView}

-- The draft has a name for each port of its shape, and a constant for each side packet that it writes.
pub record HasNames (d : DraftView) : Type 0 where
  pub inputs : length d.inputs ≡ length d.shape.inputs
  pub outputs : length d.outputs ≡ length d.shape.outputs
  pub sides : length d.sides ≡ length d.shape.sides
  pub side_outputs : length d.side_outputs ≡ length d.constants

-- The number of sets that may be in flight is from 1 to 64. It is 1 if the calculator is user-supplied or keeps a state.
pub record HasFlight (d : DraftView) : Type 0 where
  pub some : 1 ≤ d.in_flight
  pub most : d.in_flight ≤ 64
  pub boxed : IsSome d.box_number → d.in_flight ≡ 1
  pub stateful : d.shape.stateless ≡ false → d.in_flight ≡ 1

-- The port may be a back edge's: it is LOOP of a loopback, its first port, or FINISHED of a limiter, its second.
abbrev pub IsBackPort : Law → ℕ → Type 0
IsBackPort rule port = ((port ≡ 0) × (rule ≡ Loopback)) ⊎ ((port ≡ 1) × IsLimiter rule)

-- The draft's law has parameters in their ranges, and the draft's shape is its law's. The draft has a policy that its
-- law may have. If its law is stated, its calculator is user-supplied. It has a back edge only where one may be.
pub record IsSound (d : DraftView) : Type 0 where
  pub names : HasNames d
  pub parameters : ParametersFit d.law
  pub shape : IsShapeOf d.law d.shape
  pub flight : HasFlight d
  pub policy : MayHavePolicy d.law d.policy
  pub stated : IsStated d.law → IsSome d.box_number
  pub back : IfSome d.back (IsBackPort d.law)

-- The user-supplied calculator has the draft's law and shape.
pub record FitsDraft (d : DraftView) (outer : OuterShape) : Type 0 where
  pub same_law : outer.law ≡ d.law
  pub same_shape : outer.shape ≡ d.shape

-- All drafts are sound, and no two have the same user-supplied calculator. Each draft with a user-supplied calculator
-- has that calculator's law and shape.
pub record AreSound (outers : List OuterShape) (ds : List DraftView) : Type 0 where
  pub each : All IsSound ds
  pub once : AllPairs ◌≢◌ (filter_map (λ d. d.box_number) ds)
  pub fit : All (λ d. IfSome d.box_number (λ number. IsSomeAnd (slice_get outers number) (FitsDraft d))) ds

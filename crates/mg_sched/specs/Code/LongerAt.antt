-- The engines of some graph inputs, by their numbers, while they are extended one by one. The engine of the first graph input stands at
-- the place `from`.
use Rattle.mg_calc.specs.Rules.{Laws}
use Rattle.std.specs.Prelude.{◌≡◌, ◌≢◌, ℕ, ◌+◌, ◌<◌, List, Some, length, slice_get}
use Rattle.mg_value.specs.Payload.{Plain}
use Rattle.mg_settled.specs.Prefix.{StreamPrefix}
use Rattle.mg_node.specs.Views.{EngineView}
use Rattle.mg_node.specs.Outputs.{laid_at}
use Rattle.mg_node.specs.Extending.{extended, MayExtend}
use Rattle.mg_sched.specs.Extends.{AreRising}

-- there is an engine for each of the inputs
abbrev pub HaveEngines : ℕ → List ℕ → List EngineView → Type 0
HaveEngines from inputs engines = (i input : ℕ) → slice_get inputs i ≡ Some input → from + input < length engines

-- each of these engines may be extended by its piece
abbrev pub MayEachAt : Laws → ℕ → List ℕ → List (StreamPrefix Plain) → List EngineView → Type 0
MayEachAt laws from inputs pieces engines = (i input : ℕ) (engine : EngineView) (piece : StreamPrefix Plain) → slice_get inputs i ≡ Some input → slice_get engines (from + input) ≡ Some engine → slice_get pieces i ≡ Some piece
    → MayExtend laws engine piece

-- a place is that of none of the first `count` inputs
abbrev pub IsNotAmong : ℕ → List ℕ → ℕ → ℕ → Type 0
IsNotAmong from inputs count place = (i input : ℕ) → i < count → slice_get inputs i ≡ Some input → place ≢ from + input

-- the engines of the first `count` inputs are extended, each by its piece, and nothing else has changed
pub record AreLongerAt (from : ℕ) (inputs : List ℕ) (pieces : List (StreamPrefix Plain)) (count : ℕ) (before now : List EngineView) : Type 0 where
  pub places : length now ≡ length before
  pub longer : (i input : ℕ) (engine : EngineView) (piece : StreamPrefix Plain) → i < count → slice_get inputs i ≡ Some input → slice_get before (from + input) ≡ Some engine → slice_get pieces i ≡ Some piece
      → slice_get now (from + input) ≡ Some (extended engine piece)
  pub others : (place : ℕ) → IsNotAmong from inputs count place → slice_get now place ≡ slice_get before place

-- the engine of one of the inputs has this bound at its output
abbrev pub IsBoundAt : ℕ → List ℕ → List EngineView → ℕ → ℕ → Type 0
IsBoundAt from inputs engines i bound = (input : ℕ) (engine : EngineView) → slice_get inputs i ≡ Some input → slice_get engines (from + input) ≡ Some engine → (laid_at engine 0).bound ≡ bound

-- the engines of the first `count` inputs were extended, each by a piece by which it may be extended. Their bounds from before are noted
pub record WereLongerAt (laws : Laws) (from : ℕ) (inputs : List ℕ) (pieces : List (StreamPrefix Plain)) (bounds : List ℕ) (count : ℕ) (before now : List EngineView) : Type 0 where
  pub are : AreLongerAt from inputs pieces count before now
  pub may : MayEachAt laws from inputs pieces before
  pub bounds_were : (i bound : ℕ) → slice_get bounds i ≡ Some bound → IsBoundAt from inputs before i bound
  pub there : HaveEngines from inputs before
  pub rising : AreRising inputs

-- these engines came of others. Among the others, the engines of the first `count` inputs were extended
pub record SomeLongerAt (laws : Laws) (from : ℕ) (inputs : List ℕ) (pieces : List (StreamPrefix Plain)) (bounds : List ℕ) (count : ℕ) (now : List EngineView) : Type 0 where
  pub before : List EngineView
  pub were : WereLongerAt laws from inputs pieces bounds count before now

-- The engines of some graph inputs, the last ones, while they are extended one by one.
use Rattle.mg_calc.specs.Rules.{Laws}
use Rattle.std.specs.Prelude.{◌≡◌, ◌⊎◌, ℕ, ◌+◌, ◌<◌, ◌≤◌, List, Some, length, slice_get}
use Rattle.mg_value.specs.Payload.{Plain}
use Rattle.mg_settled.specs.Prefix.{StreamPrefix}
use Rattle.mg_node.specs.Views.{EngineView}
use Rattle.mg_node.specs.Outputs.{laid_at}
use Rattle.mg_node.specs.Extending.{extended, MayExtend}

-- each of the engines from a place on may be extended by its piece
abbrev pub MayEach : Laws → ℕ → List (StreamPrefix Plain) → List EngineView → Type 0
MayEach laws from pieces engines = (input : ℕ) (engine : EngineView) (piece : StreamPrefix Plain) → slice_get engines (from + input) ≡ Some engine → slice_get pieces input ≡ Some piece → MayExtend laws engine piece

-- the first `count` engines from a place on are extended, each by its piece, and nothing else has changed
pub record AreLonger (from : ℕ) (pieces : List (StreamPrefix Plain)) (count : ℕ) (before now : List EngineView) : Type 0 where
  pub places : length now ≡ length before
  pub longer : (input : ℕ) (engine : EngineView) (piece : StreamPrefix Plain) → input < count → slice_get before (from + input) ≡ Some engine → slice_get pieces input ≡ Some piece
      → slice_get now (from + input) ≡ Some (extended engine piece)
  pub others : (place : ℕ) → (place < from) ⊎ (from + count ≤ place) → slice_get now place ≡ slice_get before place

-- the engine at the place `from` + `input` has this bound at its output
abbrev pub IsBound : ℕ → List EngineView → ℕ → ℕ → Type 0
IsBound from engines input bound = (engine : EngineView) → slice_get engines (from + input) ≡ Some engine → (laid_at engine 0).bound ≡ bound

-- the first `count` engines from a place on were extended, each by a piece by which it may be extended. Their bounds from before are noted
pub record WereLonger (laws : Laws) (from : ℕ) (pieces : List (StreamPrefix Plain)) (bounds : List ℕ) (count : ℕ) (before now : List EngineView) : Type 0 where
  pub are : AreLonger from pieces count before now
  pub may : MayEach laws from pieces before
  pub bounds_were : (input bound : ℕ) → slice_get bounds input ≡ Some bound → IsBound from before input bound
  pub within : from + count ≤ length before

-- these engines came of others. The first `count` of the others, from a place on, were extended
pub record SomeLonger (laws : Laws) (from : ℕ) (pieces : List (StreamPrefix Plain)) (bounds : List ℕ) (count : ℕ) (now : List EngineView) : Type 0 where
  pub before : List EngineView
  pub were : WereLonger laws from pieces bounds count before now

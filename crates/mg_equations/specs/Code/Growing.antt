-- How the streams of a round grow to those of the next.
use Rattle.std.specs.Prelude.{◌≡◌, ℕ, ◌<◌, ◌⊎◌, true, List, ◌++◌, All, Contains, Some, length, slice_get}
use Rattle.std.specs.List.{flat_map}
use Rattle.mg_value.specs.Payload.{Plain}
use Rattle.mg_settled.specs.Prefix.{StreamPrefix}
use Rattle.mg_settled.specs.Extension.{AreExtendedBy}
use Rattle.mg_calc.specs.declared.plan.Plan.{Plan}
use Rattle.mg_calc.specs.declared.plan_stream.PlanStream.{PlanStream}
use Rattle.mg_calc.specs.declared.plan_stream.Producer.{Producer}
use Rattle.mg_calc.specs.declared.plan_stream.Producer.TheVariants.{Input, Node}
use Rattle.mg_calc.specs.Equations.{stream_of}
use Rattle.mg_equations.specs.declared.progress.Progress.{Progress}
use Rattle.mg_equations.specs.Code.Changes.{is_changed}

-- the streams that the graph inputs and the nodes give
abbrev pub given_streams : List (StreamPrefix Plain) → List Progress → List (StreamPrefix Plain)
given_streams inputs nodes = inputs ++ flat_map (λ progress. progress.outcome.outputs.items) nodes

-- a producer gives a stream: it is the graph input of its number, or the node has it at the output
abbrev pub IsGivenBy : List (StreamPrefix Plain) → List Progress → Producer → StreamPrefix Plain → Type 0
IsGivenBy inputs nodes (Input input) stream = slice_get inputs input ≡ Some stream
IsGivenBy inputs nodes (Node node port) stream = (progress : Progress) × (slice_get nodes node ≡ Some progress) × (slice_get progress.outcome.outputs.items port ≡ Some stream)

-- streams may grow to those that are given, which extend them, and but for those that are due they are these
pub record MayGrow (plan : Plan) (inputs : List (StreamPrefix Plain)) (nodes : List Progress) (due : List ℕ) (streams : List (StreamPrefix Plain)) : Type 0 where
  pub many : length streams ≡ length plan.streams
  pub given : (s : ℕ) (stream : PlanStream) → slice_get plan.streams s ≡ Some stream → IsGivenBy inputs nodes stream.producer (stream_of (given_streams inputs nodes) s)
  pub extended : AreExtendedBy streams (given_streams inputs nodes)
  pub within : All (λ s. s < length streams) due
  pub others : (s : ℕ) → s < length streams → Contains due s ⊎ (stream_of streams s ≡ stream_of (given_streams inputs nodes) s)

-- a list has exactly the streams that have changed
pub record AreChanged (changed : List ℕ) (before now : List (StreamPrefix Plain)) : Type 0 where
  pub all : (s : ℕ) → s < length before → (stream_of before s ≡ stream_of now s) ⊎ Contains changed s
  pub only : All (λ s. (s < length before) × (is_changed (stream_of before s) (stream_of now s) ≡ true)) changed

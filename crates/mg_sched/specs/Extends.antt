-- How a net goes on with further input: what comes of each graph input stands after what came before, and nothing else changes.
use Rattle.std.specs.Prelude.{◌≡◌, ℕ, ◌+◌, ◌-◌, ◌<◌, ◌≤◌, List, [], ◌++◌, false, length, replicate, Some, slice_get, slice_index_or}
use Rattle.mg_value.specs.Payload.{Plain}
use Rattle.mg_settled.specs.Prefix.{StreamPrefix, empty_prefix}
use Rattle.mg_calc.specs.Rules.{Laws}
use Rattle.mg_calc.specs.declared.inputs.Inputs.{Inputs}
use Rattle.mg_node.specs.Views.{EngineView}
use Rattle.mg_node.specs.Job.{LoggedJob}
use Rattle.mg_node.specs.Batches.{Grows}
use Rattle.mg_node.specs.Extending.{joined, extended}
use Rattle.mg_sched.specs.Views.{NetView}
use Rattle.mg_sched.specs.StandsFor.{StandsFor}

-- a job, and the same job with further input: each graph input has its piece after what it had
pub record GoesOnWith {laws : Laws} (more : Inputs) (first later : LoggedJob laws) : Type 0 where
  pub grows : Grows first later
  pub pieces : length more.streams ≡ length first.job.inputs.streams
  pub streams : (input : ℕ) → input < length more.streams → slice_index_or later.job.inputs.streams input empty_prefix
      ≡ joined (slice_index_or first.job.inputs.streams input empty_prefix) (slice_index_or more.streams input empty_prefix)

-- further input of the last graph inputs alone, of a graph that has `inputs` inputs in all
abbrev pub for_last : ℕ → List (StreamPrefix Plain) → Inputs
for_last inputs pieces = record { streams = replicate (inputs - length pieces) empty_prefix ++ pieces; sides = []; ended = false }

-- a net may go on with further input: it stands for a job that does
pub record MayGoOnWith (laws : Laws) (more : Inputs) (net : NetView) : Type 0 where
  pub first : LoggedJob laws
  pub later : LoggedJob laws
  pub stands : StandsFor first net
  pub goes_on : GoesOnWith more first later

-- the engine of each graph input is extended by its piece; those of the nodes are the same, and so is all else
pub record Extends (more : Inputs) (before now : NetView) : Type 0 where
  pub parts : now ≡ record before { engines = now.engines }
  pub places : length now.engines ≡ length before.engines
  pub nodes : (place : ℕ) → place < length before.plan.nodes → slice_get now.engines place ≡ slice_get before.engines place
  pub inputs : (input : ℕ) (engine : EngineView) (piece : StreamPrefix Plain) → slice_get before.engines (length before.plan.nodes + input) ≡ Some engine
      → slice_get more.streams input ≡ Some piece → slice_get now.engines (length before.plan.nodes + input) ≡ Some (extended engine piece)

-- Further input of some graph inputs alone.

-- numbers that rise: each number is higher than those before it
abbrev pub AreRising : List ℕ → Type 0
AreRising numbers = (i j number other : ℕ) → i < j → slice_get numbers i ≡ Some number → slice_get numbers j ≡ Some other → number < other

-- a piece after a prefix brings nothing new: it has no packet, and its bound is no higher
pub record BringsNothing (s piece : StreamPrefix Plain) : Type 0 where
  pub packets : piece.packets ≡ []
  pub bound : piece.bound ≤ s.bound

-- Some graph inputs alone get further input, by their numbers, a piece for each. What further input has for any other graph input brings
-- nothing new after what came so far.
pub record ComesAt (inputs : List ℕ) (pieces so_far : List (StreamPrefix Plain)) (more : Inputs) : Type 0 where
  pub rising : AreRising inputs
  pub as_many : length pieces ≡ length inputs
  pub given : (i input : ℕ) (piece : StreamPrefix Plain) → slice_get inputs i ≡ Some input → slice_get pieces i ≡ Some piece → slice_get more.streams input ≡ Some piece
  pub others : (input : ℕ) (piece : StreamPrefix Plain) → slice_get more.streams input ≡ Some piece → ((i : ℕ) → ¬ (slice_get inputs i ≡ Some input)) → BringsNothing (slice_index_or so_far input empty_prefix) piece

-- a net may go on with pieces for some graph inputs: it stands for a job that does
pub record MayGoOnAt (laws : Laws) (inputs : List ℕ) (pieces : List (StreamPrefix Plain)) (net : NetView) : Type 0 where
  pub more : Inputs
  pub first : LoggedJob laws
  pub later : LoggedJob laws
  pub stands : StandsFor first net
  pub goes_on : GoesOnWith more first later
  pub comes : ComesAt inputs pieces first.job.inputs.streams more

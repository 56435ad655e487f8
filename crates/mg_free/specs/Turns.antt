-- How much free nodes have taken, how much there is for them to take, and when their logs are lawful.
use Rattle.std.specs.Prelude.{◌≡◌, ℕ, ◌+◌, cond, List, [], ◌∷◌, length, sum_by}
use Rattle.std.specs.List.{AllZip}
use Rattle.mg_value.specs.Payload.{Plain}
use Rattle.mg_settled.specs.Prefix.{StreamPrefix}
use Rattle.mg_settled.specs.Extension.{AreExtendedBy}
use Rattle.mg_calc.specs.declared.inputs.Inputs.{Inputs}
use Rattle.mg_calc.specs.declared.plan.Plan.{Plan}
use Rattle.mg_calc.specs.Plan.{InputsFit}
use Rattle.mg_calc.specs.Rules.{Laws}
use Rattle.mg_calc.specs.Equations.{IsJob, IsSolution}
use Rattle.mg_free.specs.declared.node.FreeNode.{FreeNode}
use Rattle.mg_free.specs.declared.plan.FreePlan.{FreePlan}
use Rattle.mg_free.specs.Logs.{IsLawfulSoFar, IsLawful, output_of}
use Rattle.mg_free.specs.Rounds.{Taken, free_inputs, output_so_far, core_job}

-- the log of each free node is lawful so far in the given streams
abbrev pub AreLawfulSoFar : List (StreamPrefix Plain) → List FreeNode → List Taken → Type 0
AreLawfulSoFar streams frees takens = AllZip (λ free taken. IsLawfulSoFar (free_inputs streams free) taken.log) frees takens

-- the log of each free node is lawful in the given streams: all of their packets have arrived
abbrev pub AreLawful : List (StreamPrefix Plain) → List FreeNode → List Taken → Type 0
AreLawful streams frees takens = AllZip (λ free taken. IsLawful (free_inputs streams free) taken.log) frees takens

-- how much a free node has taken: each arrival counts one, and the closing of its output too
abbrev pub taken_by : Taken → ℕ
taken_by taken = length taken.log + cond {A = ℕ} taken.closed 1 0

-- how much all free nodes have taken
abbrev pub taken_by_all : List Taken → ℕ
taken_by_all takens = sum_by taken_by takens

-- how much there is for a free node to take in the given streams. Each packet of each port counts one, and so does closing the output.
abbrev pub room_of : List (StreamPrefix Plain) → FreeNode → ℕ
room_of streams free = sum_by (λ s. length s.packets) (free_inputs streams free) + 1

-- how much there is for all free nodes to take
abbrev pub room_of_all : List (StreamPrefix Plain) → List FreeNode → ℕ
room_of_all streams frees = sum_by (room_of streams) frees

-- Batches.

-- inputs as they have come after each further batch of a run: each fits the plan, and extends the one before
abbrev pub AreBatches : Plan → Inputs → List Inputs → Type 0
AreBatches plan before [] = Unit {0}
AreBatches plan before (inputs ∷ later) =
    InputsFit plan inputs × (before.sides ≡ inputs.sides) × AreExtendedBy before.streams inputs.streams × AreBatches plan inputs later

-- the inputs after the last batch of a run
abbrev pub last_batch : Inputs → List Inputs → Inputs
last_batch inputs [] = inputs
last_batch before (inputs ∷ later) = last_batch inputs later

-- a run has ended with these logs. In the solution of the core, for all inputs and for the free nodes' outputs, each log is lawful. The
-- output of each free node is what its law gives for its log.
pub record HasCome (laws : Laws) (split : FreePlan) (inputs : Inputs) (takens : List Taken) : Type 0 where
  pub job : IsJob (core_job laws split inputs takens)
  pub streams : List (StreamPrefix Plain)
  pub solution : IsSolution (core_job laws split inputs takens) streams
  pub logs : AreLawful streams split.free takens
  pub outputs : AllZip (λ free taken. output_so_far free taken ≡ output_of free.law (free_inputs streams free) taken.log) split.free takens

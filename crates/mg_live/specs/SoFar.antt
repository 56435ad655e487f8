-- Rounds under way: what free nodes have taken so far. Each entry of a list of inputs has all inputs of the graph by the end of a
-- batch. The newest entry stands first.
use Rattle.std.specs.Prelude.{◌≡◌, List, [], ◌∷◌, ⊤}
use Rattle.mg_settled.specs.Extension.{AreExtendedBy}
use Rattle.mg_calc.specs.declared.inputs.Inputs.{Inputs}
use Rattle.mg_calc.specs.declared.plan.Plan.{Plan}
use Rattle.mg_calc.specs.Plan.{InputsFit}
use Rattle.mg_calc.specs.Rules.{Laws}
use Rattle.mg_calc.specs.Equations.{IsJob}
use Rattle.mg_free.specs.declared.plan.FreePlan.{FreePlan}
use Rattle.mg_free.specs.Rounds.{Taken, none_taken, core_inputs, core_job, IsRound}

-- the free nodes have taken this much at some point of a run with these inputs
pub data SoFar (laws : Laws) (split : FreePlan) : List Inputs → List Taken → Type 0 where
  -- the first batch has come, and nothing is taken
  begins : {inputs : Inputs} → SoFar laws split (inputs ∷ []) (none_taken split)
  -- a round took something or closed something
  goes : {inputs : Inputs} {earlier : List Inputs} {before after : List Taken} → SoFar laws split (inputs ∷ earlier) before → IsRound laws split inputs before after → ¬ (after ≡ before)
      → SoFar laws split (inputs ∷ earlier) after
  -- a round did nothing, and a batch more has come
  comes : {inputs more : Inputs} {earlier : List Inputs} {takens : List Taken} → SoFar laws split (inputs ∷ earlier) takens → IsRound laws split inputs takens takens → SoFar laws split (more ∷ inputs ∷ earlier) takens

-- inputs as they had come after each batch, the newest first: each fits the plan, and extends the one before
abbrev pub HaveCome : Plan → List Inputs → Type 0
HaveCome plan [] = ⊤
HaveCome plan (inputs ∷ []) = InputsFit plan inputs
HaveCome plan (inputs ∷ before ∷ earlier) = InputsFit plan inputs × (before.sides ≡ inputs.sides) × AreExtendedBy before.streams inputs.streams × HaveCome plan (before ∷ earlier)

-- the core goes on: its inputs now make a job, have the same side packets, and extend its input streams before
pub record CoreGoesOn (laws : Laws) (split : FreePlan) (inputs more : Inputs) (before after : List Taken) : Type 0 where
  pub is_job : IsJob (core_job laws split more after)
  pub sides : inputs.sides ≡ more.sides
  pub extended : AreExtendedBy (core_inputs split inputs before).streams (core_inputs split more after).streams

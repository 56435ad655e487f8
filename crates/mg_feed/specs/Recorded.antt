-- Lines of a recorded job. They are judged as packet lines are, but they may have any length, and any number of them may come. What a
-- user writes in one line may be recorded as a longer line, or as several.
use Rattle.std.specs.Prelude.{◌≡◌, ℕ, List, [], ◌∷◌, ◌++◌, replicate, length, false, Option, None}
use Rattle.mg_feed.specs.Graph.{GraphInputs}
use Rattle.mg_feed.specs.Accepted.{before, given_by, words_refusal}
use Rattle.mg_feed.specs.View.{View}
use Rattle.mg_feed.specs.declared.line_fault.LineFault.{LineFault}

-- why a line of a recorded job isn't good after these lines
abbrev pub recorded_refusal : GraphInputs → List (List ℕ) → List ℕ → Option LineFault
recorded_refusal graph lines line = words_refusal (before graph (length lines) (given_by graph lines)) line

-- each line of a recorded job is good after the lines before it
abbrev pub AllRecorded : GraphInputs → List (List ℕ) → List (List ℕ) → Type 0
AllRecorded graph before [] = Unit {0}
AllRecorded graph before (line ∷ lines) = (recorded_refusal graph before line ≡ None) × AllRecorded graph (before ++ line ∷ []) lines

-- The feed took these lines of a recorded job, and has all that they gave.
pub record HasRecorded (lines : List (List ℕ)) (v : View) : Type 0 where
  pub good : AllRecorded v.graph [] lines
  pub given : v.given ≡ given_by v.graph lines
  pub untaken : v.taken ≡ replicate (length v.given.streams) false

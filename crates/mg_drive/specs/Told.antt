-- How the sets of a graph's outputs are told, and which of them were.
use Rattle.std.specs.Prelude.{◌≡◌, ℕ, ◌-◌, ◌<◌, ◌^◌, List, length}
use Rattle.mg_edge.specs.Edge.{SinkTold}
use Rattle.mg_value.specs.Payload.{Plain}
use Rattle.mg_settled.specs.Settled.{TimedSet}
use Rattle.mg_calc.specs.declared.plan.Plan.{Plan}
use Rattle.mg_answer.specs.Text.{output_names, sets_text}
use Rattle.mg_answer.specs.Summary.{SummaryView, summary_text, HasSummed}
use Rattle.mg_answer.specs.Answer.{OutputForm, packet_lines, totals, in_place}
use Rattle.mg_answer.specs.Put.{TextView, HasPut}

-- the text by which sets of a plan's outputs are told in a form
abbrev pub told_in : OutputForm → Plan → List (TimedSet Plain) → List ℕ
told_in packet_lines plan sets = sets_text (output_names plan) sets
told_in totals plan sets = summary_text (output_names plan) sets
told_in (in_place text) plan sets = text

-- the lines of these sets were put into an output text
pub record HasLines (text : TextView) (plan : Plan) (first now : SinkTold) (sets : List (TimedSet Plain)) : Type 0 where
  pub names_are : text.names ≡ output_names plan
  pub put : HasPut first now text (sets_text (output_names plan) sets)

-- these sets were added to a summary, and nothing is written yet
pub record HasSums (sums : SummaryView) (plan : Plan) (first now : SinkTold) (sets : List (TimedSet Plain)) : Type 0 where
  pub names_are : sums.names ≡ output_names plan
  pub summed : HasSummed sums sets
  pub unwritten : now ≡ first

-- fewer than 2^64 - 1 sets were told, so that one more can be counted
pub record IsFewTold {T : Type 0} (has_told : T → Plan → SinkTold → SinkTold → List (TimedSet Plain) → Type 0) (now : SinkTold) (telling : T) : Type 0 where
  pub plan : Plan
  pub first : SinkTold
  pub sets : List (TimedSet Plain)
  pub has : has_told telling plan first now sets
  pub few : length sets < 2 ^ 64 - 1

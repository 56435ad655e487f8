-- What is told of a core's solution by the numbers of its plan.
use Rattle.std.proofs.Common.{◌≡◌, ℕ, suc, Bool, true, false, List, [], ◌∷◌, length, drop, refl, ap, ◌∙◌}
use Rattle.std.proofs.lemmas.List.{length-map}
use Rattle.std.proofs.lemmas.List.FromFn.{length-range_with_len}
use Rattle.mg_value.specs.Payload.{Plain}
use Rattle.mg_settled.specs.Prefix.{StreamPrefix}
use Rattle.mg_calc.specs.declared.plan.Plan.{Plan}
use Rattle.mg_calc.specs.declared.plan_node.PlanNode.{PlanNode}
use Rattle.mg_calc.specs.Equations.{Job, stream_of}
use Rattle.mg_calc.specs.Plan.{numbers}
use Rattle.mg_free.specs.declared.node.FreeNode.{FreeNode}
use Rattle.mg_free.specs.Core.{is_free, stream_number}
use Rattle.mg_free.specs.Rounds.{Taken}
use Rattle.mg_settled.specs.Ends.{end_of}
use Rattle.mg_answer.specs.declared.outcomes.Outcomes.{Outcomes}
use Rattle.mg_answer.specs.declared.run.Reporting.{Reporting}
use Rattle.mg_drive.specs.Live.{LiveTells, first_of, sets_by}

pub sets_long : (nodes : List PlanNode) (sets arrivals : List ℕ) → length (sets_by nodes sets arrivals) ≡ length nodes
sets_long [] sets arrivals = refl
sets_long (node ∷ nodes) sets arrivals = one (is_free node) (sets_long nodes sets (drop 1 arrivals)) (sets_long nodes (drop 1 sets) arrivals)
  where
    one : (b : Bool) → length (sets_by nodes sets (drop 1 arrivals)) ≡ length nodes → length (sets_by nodes (drop 1 sets) arrivals) ≡ length nodes → length (elim b as (λ _. List ℕ) [ true ↦ first_of arrivals ∷ sets_by nodes sets (drop 1 arrivals) | false ↦ first_of sets ∷ sets_by nodes (drop 1 sets) arrivals ]) ≡ suc (length nodes)
    one true free core = ap suc free
    one false free core = ap suc core

pub plan_ends : (report : Reporting) (whole : Plan) (job : Job) (streams : List (StreamPrefix Plain)) (frees : List FreeNode) (takens : List Taken) (outcomes : Outcomes) → LiveTells report whole job streams frees takens outcomes → length outcomes.ends.items ≡ length whole.streams
plan_ends report whole job streams frees takens outcomes t =
    ap length t.ends ∙ length-map (numbers (length whole.streams)) (λ s. end_of (stream_of streams (stream_number whole s))) ∙ length-range_with_len 0 (length whole.streams)

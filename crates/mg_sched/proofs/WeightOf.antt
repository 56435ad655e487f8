-- What the nodes of a net have claimed is within the weight of its job.
use Rattle.std.proofs.Common.{◌≡◌, ℕ, suc, ◌+◌, ◌≤◌, List, [], ◌∷◌, length, take, Some, slice_get, refl, subst, arith}
use Rattle.std.specs.Prelude.{sum_by}
use Rattle.std.proofs.lemmas.List.Sums.{sum_by-cons}
use Rattle.std.proofs.lemmas.Option.{slice_get_within}
use Rattle.mg_value.specs.Payload.{Plain}
use Rattle.mg_settled.specs.Prefix.{StreamPrefix}
use Rattle.mg_calc.specs.Rules.{Laws}
use Rattle.mg_calc.specs.declared.plan.Plan.{Plan}
use Rattle.mg_calc.specs.declared.plan_node.PlanNode.{PlanNode}
use Rattle.mg_calc.specs.Meaning.{count_of, weight}
use Rattle.mg_node.specs.Views.{EngineView}
use Rattle.mg_node.specs.Job.{LoggedJob, Solves}
use Rattle.mg_node.proofs.Lemmas.{claims_counted}
use Rattle.mg_sched.specs.Views.{NetView}
use Rattle.mg_sched.specs.StandsFor.{StandsFor, StandsForSome, IsRunning}
use Rattle.mg_sched.specs.Reports.{claimed_in}
use Rattle.mg_sched.proofs.Working.{lawful_at}

-- numbers that are at most others, place by place, have at most their sum
sums_within : {X Y : Type 0} (f : X → ℕ) (g : Y → ℕ) (xs : List X) (ys : List Y) → ((i : ℕ) (x : X) (y : Y) → slice_get xs i ≡ Some x → slice_get ys i ≡ Some y → f x ≤ g y) → sum_by f (take (length ys) xs) ≤ sum_by g ys
sums_within f g xs [] each = omega arith
sums_within f g [] (y ∷ ys) each = omega arith
sums_within f g (x ∷ xs) (y ∷ ys) each =
    let first : f x ≤ g y = each 0 x y refl refl in
    let rest = sums_within f g xs ys (λ i u v at there. each (suc i) u v at there) in
    omega (arith, first, rest, sum_by-cons f x (take (length ys) xs), sum_by-cons g y ys)

-- what a node adds to the weight of its job
abbrev weight_of : {laws : Laws} → LoggedJob laws → List (StreamPrefix Plain) → PlanNode → ℕ
weight_of {laws} job solution node = count_of job.job solution node + node.in_flight + 1

pub claims_within : {laws : Laws} (job : LoggedJob laws) (net : NetView) (solution : List (StreamPrefix Plain)) → StandsFor job net → IsRunning net → Solves job solution → claimed_in net ≤ weight job.job solution
unfolding StandsFor
claims_within {laws} job net solution h running solves =
    let some : StandsForSome laws net = record { job = job; stands = h } in
    subst (λ (p : Plan). claimed_in net ≤ sum_by (weight_of job solution) p.nodes) h.plan
    (sums_within (λ (e : EngineView). e.claimed) (weight_of job solution) net.engines net.plan.nodes (λ i engine node at there.
    let few = claims_counted job i node engine solution solves (subst (λ (p : Plan). slice_get p.nodes i ≡ Some node) h.plan there) (lawful_at net i engine some running (slice_get_within net.plan.nodes i node there) at) in
    omega (arith, few)))

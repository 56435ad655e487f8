-- A round is made node by node.
use Rattle.std.proofs.Common.{◌≡◌, ℕ, zero, suc, ◌+◌, ◌<◌, List, [], ◌∷◌, ◌++◌, Option, map, All, get_or, length, length-append, Some, slice_get, refl, sym, ap, ap₂, subst, ◌∙◌, arith, inl, inr, ◌⊎◌}
use Rattle.std.specs.List.{flat_map, filter_map, cons_option, enumerate_from}
use Rattle.std.proofs.lemmas.Option.{slice_get_read}
use Rattle.std.proofs.lemmas.List.Concat.{flat_map-cons}
use Rattle.std.proofs.lemmas.List.Elements.{recursion_from_All}
use Rattle.mg_value.specs.Payload.{Plain}
use Rattle.mg_settled.specs.Prefix.{StreamPrefix}
use Rattle.mg_calc.specs.declared.plan_node.PlanNode.{PlanNode}
use Rattle.mg_calc.specs.Outcome.{Outcome, Failure}
use Rattle.mg_calc.specs.Plan.{HasNumbers}
use Rattle.mg_calc.specs.Shape.{IsShapeOf}
use Rattle.mg_calc.specs.Equations.{Job, IsJob, outcome_of, next_round}
use Rattle.mg_calc.proofs.Earlier.{at_place, some_same}
use Rattle.mg_equations.specs.declared.progress.Progress.{Progress}
use Rattle.mg_calc.specs.declared.node_fault.NodeFault.{NodeFault}
use Rattle.mg_calc.specs.Meaning.{fault_of, faults, counts}
use Rattle.mg_equations.specs.Code.Rounds.{numbered_fault}
use Rattle.mg_equations.specs.Code.Seen.{seen}
use Rattle.mg_equations.specs.Code.Growing.{given_streams}
use Rattle.mg_equations.specs.Code.Progress.{HasCome, HaveCome, outcomes}

-- what a node of a job has
pub record IsNodeOf (job : Job) (streams : List (StreamPrefix Plain)) (node : PlanNode) : Type 0 where
  pub known : All (λ i. i < length streams) node.inputs
  pub ports : HasNumbers node
  pub shape : IsShapeOf node.law node.shape

pub node_at : (job : Job) (streams : List (StreamPrefix Plain)) (i : ℕ) (node : PlanNode) → IsJob job → length streams ≡ length job.plan.streams → i < length job.plan.nodes → node ≡ get_or job.plan.nodes i node → IsNodeOf job streams node
node_at job streams i node is many below at =
    let nodes = job.plan.nodes in
    let here : slice_get nodes i ≡ Some node = slice_get_read nodes (length nodes) i node refl below at in
    record {
      known = subst (λ (n : ℕ). All (λ s. s < n) node.inputs) (sym many)
          (at_place (λ (n : PlanNode). All (λ s. s < length job.plan.streams) n.inputs) nodes i node (recursion_from_All (λ (n : PlanNode). All (λ s. s < length job.plan.streams) n.inputs) nodes is.plan.ranges.read) here);
      ports = at_place HasNumbers nodes i node (recursion_from_All HasNumbers nodes is.plan.ports) here;
      shape = at_place (λ (n : PlanNode). IsShapeOf n.law n.shape) nodes i node (recursion_from_All (λ (n : PlanNode). IsShapeOf n.law n.shape) nodes is.plan.shapes) here;
    }

-- Nodes begin one after the other.
pub record HaveBegun (job : Job) (streams : List (StreamPrefix Plain)) (nodes : List Progress) (i : ℕ) : Type 0 where
  pub many : length nodes ≡ i
  pub each : (k : ℕ) (node : PlanNode) (progress : Progress) → slice_get job.plan.nodes k ≡ Some node → slice_get nodes k ≡ Some progress → HasCome job streams node progress

pushed_at : {X : Type 0} (xs : List X) (x : X) (k : ℕ) (y : X) → slice_get (xs ++ x ∷ []) k ≡ Some y → (slice_get xs k ≡ Some y) ⊎ ((k ≡ length xs) × (x ≡ y))
pushed_at [] x zero y is = inr (refl, some_same x y is)
pushed_at [] x (suc k) y is = absurd cc
pushed_at (z ∷ xs) x zero y is = inl is
pushed_at (z ∷ xs) x (suc k) y is = elim (pushed_at xs x k y is) [ inl here ↦ inl here | inr last ↦ inr (ap (λ (n : ℕ). suc n) last.0, last.1) ]

pub begun_more : (job : Job) (streams : List (StreamPrefix Plain)) (nodes : List Progress) (i : ℕ) (node : PlanNode) (progress : Progress) → HaveBegun job streams nodes i → slice_get job.plan.nodes i ≡ Some node → HasCome job streams node progress
    → HaveBegun job streams (nodes ++ progress ∷ []) (i + 1)
begun_more job streams nodes i node progress h at come = record {
  many = (let many = h.many in omega (arith, many, length-append nodes (progress ∷ [])));
  each = λ k other next there here. elim (pushed_at nodes progress k next here) [
    | inl before ↦ h.each k other next there before
    | inr last ↦
        (let k_is : k ≡ i = last.0 ∙ h.many in
        let same : node ≡ other = some_same node other (sym at ∙ ap (slice_get job.plan.nodes) (sym k_is) ∙ there) in
        subst (λ (p : Progress). HasCome job streams other p) last.1 (subst (λ (n : PlanNode). HasCome job streams n progress) same come))
  ];
}

-- What has become of all nodes.
outcomes_by : (job : Job) (streams : List (StreamPrefix Plain)) (nodes : List PlanNode) (progresses : List Progress) → length progresses ≡ length nodes
    → ((k : ℕ) (node : PlanNode) (progress : Progress) → slice_get nodes k ≡ Some node → slice_get progresses k ≡ Some progress → seen progress.outcome ≡ outcome_of job streams node)
    → outcomes progresses ≡ map (outcome_of job streams) nodes
outcomes_by job streams [] [] long each = refl
outcomes_by job streams [] (p ∷ ps) long each = absurd (omega (arith, long))
outcomes_by job streams (node ∷ nodes) [] long each = absurd (omega (arith, long))
outcomes_by job streams (node ∷ nodes) (p ∷ ps) long each =
    ap₂ (λ (o : Outcome) (os : List Outcome). o ∷ os) (each 0 node p refl refl) (outcomes_by job streams nodes ps (omega (arith, long)) (λ k n q at there. each (suc k) n q at there))

pub outcomes_are : (job : Job) (streams : List (StreamPrefix Plain)) (nodes : List Progress) → HaveCome job streams nodes → outcomes nodes ≡ map (outcome_of job streams) job.plan.nodes
outcomes_are job streams nodes h = outcomes_by job streams job.plan.nodes nodes h.many (λ k node progress at there. (h.each k node progress at there).outcome)

outputs_by : (job : Job) (streams : List (StreamPrefix Plain)) (nodes : List PlanNode) (progresses : List Progress) → length progresses ≡ length nodes
    → ((k : ℕ) (node : PlanNode) (progress : Progress) → slice_get nodes k ≡ Some node → slice_get progresses k ≡ Some progress → seen progress.outcome ≡ outcome_of job streams node)
    → flat_map (λ progress. progress.outcome.outputs.items) progresses ≡ flat_map (λ node. (outcome_of job streams node).outputs) nodes
outputs_by job streams [] [] long each = refl
outputs_by job streams [] (p ∷ ps) long each = absurd (omega (arith, long))
outputs_by job streams (node ∷ nodes) [] long each = absurd (omega (arith, long))
outputs_by job streams (node ∷ nodes) (p ∷ ps) long each =
    flat_map-cons (λ (q : Progress). q.outcome.outputs.items) p ps
    ∙ ap₂ (λ (here rest : List (StreamPrefix Plain)). here ++ rest) (ap (λ (o : Outcome). o.outputs) (each 0 node p refl refl)) (outputs_by job streams nodes ps (omega (arith, long)) (λ k n q at there. each (suc k) n q at there))
    ∙ sym (flat_map-cons (λ (n : PlanNode). (outcome_of job streams n).outputs) node nodes)

pub next_streams_are : (job : Job) (streams : List (StreamPrefix Plain)) (nodes : List Progress) → HaveCome job streams nodes → given_streams job.inputs.streams nodes ≡ next_round job streams
next_streams_are job streams nodes h =
    ap (λ (ss : List (StreamPrefix Plain)). job.inputs.streams ++ ss) (outputs_by job streams job.plan.nodes nodes h.many (λ k node progress at there. (h.each k node progress at there).outcome))

map_twice : {X Y Z : Type 0} (f : X → Y) (g : Y → Z) (xs : List X) → map g (map f xs) ≡ map (λ x. g (f x)) xs
map_twice f g [] = refl
map_twice {X} {Y} {Z} f g (x ∷ xs) = ap (λ (rest : List Z). g (f x) ∷ rest) (map_twice f g xs)

pub counts_are : (job : Job) (streams : List (StreamPrefix Plain)) (nodes : List Progress) → HaveCome job streams nodes → map (λ outcome. outcome.taken) (outcomes nodes) ≡ counts job streams
counts_are job streams nodes h = ap (map (λ (o : Outcome). o.taken)) (outcomes_are job streams nodes h) ∙ map_twice (outcome_of job streams) (λ o. o.taken) job.plan.nodes

faults_by : (job : Job) (streams : List (StreamPrefix Plain)) (nodes : List PlanNode) (k : ℕ)
    → filter_map numbered_fault (enumerate_from k (map (λ node. (outcome_of job streams node).fault) nodes)) ≡ filter_map (fault_of job streams) (enumerate_from k nodes)
faults_by job streams [] k = refl
faults_by job streams (node ∷ nodes) k = ap (λ (fs : List NodeFault). cons_option (fault_of job streams (k, node)) fs) (faults_by job streams nodes (k + 1))

pub faults_are : (job : Job) (streams : List (StreamPrefix Plain)) (nodes : List Progress) → HaveCome job streams nodes → filter_map numbered_fault (enumerate_from 0 (map (λ outcome. outcome.fault) (outcomes nodes))) ≡ faults job streams
faults_are job streams nodes h =
    ap (λ (os : List Outcome). filter_map numbered_fault (enumerate_from 0 (map (λ outcome. outcome.fault) os))) (outcomes_are job streams nodes h)
    ∙ ap (λ (fs : List (Option Failure)). filter_map numbered_fault (enumerate_from 0 fs)) (map_twice (outcome_of job streams) (λ o. o.fault) job.plan.nodes)
    ∙ faults_by job streams job.plan.nodes 0

-- What is told of a solution names streams and nodes that are there.
use Rattle.std.proofs.Common.{◌≡◌, ◌≤◌, ◌<◌, ◌+◌, ◌==◌, ℕ, List, [], ◌∷◌, length, map, filter, not, Bool, true, false, Option, None, Some, All, refl, sym, ap, ◌∙◌, subst, arith}
use Rattle.std.specs.List.{filter_map, enumerate_from, AllByRecursion as Each}
use Rattle.std.proofs.lemmas.List.{length-map}
use Rattle.std.proofs.lemmas.List.Elements.{All-from_recursion}
use Rattle.mg_time.specs.Time.{done}
use Rattle.mg_value.specs.Payload.{Plain}
use Rattle.mg_settled.specs.Prefix.{StreamPrefix, IsPrefix}
use Rattle.mg_calc.specs.declared.plan.Plan.{Plan}
use Rattle.mg_calc.specs.declared.plan_node.PlanNode.{PlanNode}
use Rattle.mg_calc.specs.declared.inputs.Inputs.{Inputs}
use Rattle.mg_calc.specs.declared.node_fault.NodeFault.{NodeFault}
use Rattle.mg_calc.specs.Outcome.{Failure}
use Rattle.mg_calc.specs.Equations.{Job, IsJob, IsSolution, outcome_of}
use Rattle.mg_calc.specs.Meaning.{stalled, faults, fault_of}
use Rattle.mg_calc.specs.Plan.{IsValid, InputsFit}
use Rattle.mg_calc.specs.Rules.{Laws}
use Rattle.mg_calc.proofs.Solutions.{solution_keeps, solution_has_each}
use Rattle.mg_calc.proofs.Jobs.{job_known}
use Rattle.mg_answer.specs.Notes.{bounds_of}
use Rattle.mg_settled.specs.Ends.{end_of}
use Rattle.mg_answer.specs.Report.{open_numbers, end_bounds}
use Rattle.mg_settled.specs.declared.stream_end.StreamEnd.{StreamEnd}

-- streams
open-by : (b : Bool) (n k : ℕ) (end : StreamEnd) (more : List (ℕ × StreamEnd)) → k < n → Each (λ i. i < n) (map (λ e. e.0) (filter (λ (e : ℕ × StreamEnd). not (e.1.bound == done)) more))
    → not (end.bound == done) ≡ b → Each (λ i. i < n) (map (λ e. e.0) (filter (λ (e : ℕ × StreamEnd). not (e.1.bound == done)) ((k, end) ∷ more)))
open-by true n k end more lt all is = rw is (lt, all)
open-by false n k end more lt all is = rw is all

open-from : (n k : ℕ) (ends : List StreamEnd) → k + length ends ≤ n → Each (λ i. i < n) (map (λ e. e.0) (filter (λ (e : ℕ × StreamEnd). not (e.1.bound == done)) (enumerate_from k ends)))
open-from n k [] fits = tt
open-from n k (e ∷ es) fits = open-by (not (e.bound == done)) n k e (enumerate_from (k + 1) es) (omega (arith, fits)) (open-from n (k + 1) es (omega (arith, fits))) refl

open-below : (ends : List StreamEnd) → All (λ i. i < length ends) (open_numbers ends)
open-below ends = All-from_recursion (λ i. i < length ends) (open_numbers ends) (open-from (length ends) 0 ends (omega arith))

pub open-there : (ns : List ℕ) (ends : List StreamEnd) → ns ≡ open_numbers ends → All (λ i. i < length ends) ns
open-there ns ends is = subst (λ (l : List ℕ). All (λ i. i < length ends) l) (sym is) (open-below ends)

-- the streams that haven't ended are told by their ends
open-more : (b : Bool) (k : ℕ) (s : StreamPrefix Plain) (ends : List (ℕ × StreamEnd)) (more : List (ℕ × StreamPrefix Plain)) → not (s.bound == done) ≡ b
    → map (λ e. e.0) (filter (λ (e : ℕ × StreamEnd). not (e.1.bound == done)) ends) ≡ map (λ e. e.0) (filter (λ (e : ℕ × StreamPrefix Plain). not (e.1.bound == done)) more)
    → map (λ e. e.0) (filter (λ (e : ℕ × StreamEnd). not (e.1.bound == done)) ((k, end_of s) ∷ ends))
    ≡ map (λ e. e.0) (filter (λ (e : ℕ × StreamPrefix Plain). not (e.1.bound == done)) ((k, s) ∷ more))
open-more true k s ends more is same = rw is (ap (λ (l : List ℕ). k ∷ l) same)
open-more false k s ends more is same = rw is same

open-each : (k : ℕ) (ss : List (StreamPrefix Plain))
    → map (λ e. e.0) (filter (λ (e : ℕ × StreamEnd). not (e.1.bound == done)) (enumerate_from k (map end_of ss)))
    ≡ map (λ e. e.0) (filter (λ (e : ℕ × StreamPrefix Plain). not (e.1.bound == done)) (enumerate_from k ss))
open-each k [] = refl
open-each k (s ∷ ss) = open-more (not (s.bound == done)) k s (enumerate_from (k + 1) (map end_of ss)) (enumerate_from (k + 1) ss) refl (open-each (k + 1) ss)

pub open-stalled : (ss : List (StreamPrefix Plain)) → open_numbers (map end_of ss) ≡ stalled ss
open-stalled ss = open-each 0 ss

pub bounds-told : (ss : List (StreamPrefix Plain)) → end_bounds (map end_of ss) ≡ bounds_of ss
bounds-told [] = refl
bounds-told (s ∷ ss) = ap (λ (l : List ℕ). s.bound ∷ l) (bounds-told ss)

-- there is an end for each stream
pub ends-each : (ends : List StreamEnd) (ss : List (StreamPrefix Plain)) → ends ≡ map end_of ss → length ends ≡ length ss
ends-each ends ss is = ap length is ∙ length-map ss end_of

-- nodes
fault-cons : (n : ℕ) (e : ℕ × PlanNode) (job : Job) (ss : List (StreamPrefix Plain)) (more : List (ℕ × PlanNode)) (o : Option Failure) → (outcome_of job ss e.1).fault ≡ o → e.0 < n
    → Each (λ (fault : NodeFault). fault.node < n) (filter_map (fault_of job ss) more) → Each (λ (fault : NodeFault). fault.node < n) (filter_map (fault_of job ss) (e ∷ more))
fault-cons n e job ss more None is lt all = rw is all
fault-cons n e job ss more (Some failure) is lt all = rw is (lt, all)

faults-from : (n k : ℕ) (job : Job) (ss : List (StreamPrefix Plain)) (nodes : List PlanNode) → k + length nodes ≤ n
    → Each (λ (fault : NodeFault). fault.node < n) (filter_map (fault_of job ss) (enumerate_from k nodes))
faults-from n k job ss [] fits = tt
faults-from n k job ss (node ∷ nodes) fits =
    fault-cons n (k, node) job ss (enumerate_from (k + 1) nodes) (outcome_of job ss node).fault refl (omega (arith, fits)) (faults-from n (k + 1) job ss nodes (omega (arith, fits)))

pub faults-below : (job : Job) (ss : List (StreamPrefix Plain)) → All (λ fault. fault.node < length job.plan.nodes) (faults job ss)
faults-below job ss = All-from_recursion (λ (fault : NodeFault). fault.node < length job.plan.nodes) (faults job ss) (faults-from (length job.plan.nodes) 0 job ss job.plan.nodes (omega arith))

-- the solution
pub solved-prefixes : (laws : Laws) (plan : Plan) (inputs : Inputs) (ss : List (StreamPrefix Plain)) → IsValid plan → InputsFit plan inputs → IsSolution (record { plan = plan; inputs = inputs; laws = laws }) ss → All IsPrefix ss
solved-prefixes laws plan inputs ss valid fit solution =
    let job : Job = record { plan = plan; inputs = inputs; laws = laws } in
    let is : IsJob job = record { plan = valid; inputs = fit } in
    All-from_recursion IsPrefix ss (solution_keeps job (job_known job is) ss solution)

pub solved-each : (laws : Laws) (plan : Plan) (inputs : Inputs) (ss : List (StreamPrefix Plain)) → IsValid plan → InputsFit plan inputs → IsSolution (record { plan = plan; inputs = inputs; laws = laws }) ss
    → length ss ≡ length plan.streams
solved-each laws plan inputs ss valid fit solution =
    let job : Job = record { plan = plan; inputs = inputs; laws = laws } in
    let is : IsJob job = record { plan = valid; inputs = fit } in
    solution_has_each job (job_known job is) ss solution

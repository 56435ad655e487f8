-- The solution of a job is the least one, and the sets that it shows are settled.
use Rattle.std.proofs.Common.{◌≡◌, ℕ, zero, suc, List, [], ◌∷◌, map, take, length, All, refl, ap₂}
use Rattle.std.specs.List.Sorted.{IsStrictlyIncreasing}
use Rattle.std.proofs.lemmas.List.Elements.{All-from_recursion, recursion_from_All}
use Rattle.mg_value.specs.Payload.{Plain}
use Rattle.mg_settled.specs.Prefix.{StreamPrefix, IsPrefix}
use Rattle.mg_settled.specs.Extension.{AreExtendedBy}
use Rattle.mg_settled.specs.Settled.{IsBelowBounds, settled_sets}
use Rattle.mg_settled.proofs.Lemmas.{sets-stay}
use Rattle.mg_calc.specs.declared.plan_node.PlanNode.{PlanNode}
use Rattle.mg_calc.specs.Equations.{Job, IsJob, IsSolution, MeetsEquations, inputs_of}
use Rattle.mg_calc.specs.Meaning.{count_of, shown_sets}
use Rattle.mg_calc.proofs.Counting.{shown_ascend, shown_below}
use Rattle.mg_calc.proofs.Jobs.{job_known}
use Rattle.mg_calc.proofs.Rounds.{streams_extend}
use Rattle.mg_calc.proofs.Solutions.{solution_keeps, solution_is_least}

pub solution_prefixes : (job : Job) (streams : List (StreamPrefix Plain)) → IsJob job → IsSolution job streams → All IsPrefix streams
solution_prefixes job streams is solution = All-from_recursion IsPrefix streams (solution_keeps job (job_known job is) streams solution)

pub solution_first : (job : Job) (streams others : List (StreamPrefix Plain)) → IsJob job → IsSolution job streams → All IsPrefix others → MeetsEquations job others → AreExtendedBy streams others
solution_first job streams others is solution prefixes meets = solution_is_least job (job_known job is) streams others solution (recursion_from_All IsPrefix others prefixes) meets

pub sets_ascend : (job : Job) (streams : List (StreamPrefix Plain)) (node : PlanNode) → IsJob job → IsSolution job streams → IsStrictlyIncreasing (map (λ e. e.at) (shown_sets job streams node))
sets_ascend job streams node is solution = shown_ascend job streams node (solution_keeps job (job_known job is) streams solution)

pub sets_below : (job : Job) (streams : List (StreamPrefix Plain)) (node : PlanNode) → IsJob job → IsSolution job streams → All (λ e. IsBelowBounds node.policy (inputs_of streams node) e.at) (shown_sets job streams node)
sets_below job streams node is solution = shown_below job streams node (solution_keeps job (job_known job is) streams solution)

-- the first ones of the first ones
first_of_first : {X : Type 0} (n : ℕ) (xs ys : List X) → take (length xs) ys ≡ xs → take (length (take n xs)) ys ≡ take n xs
first_of_first zero xs ys same = refl
first_of_first (suc n) [] ys same = refl
first_of_first (suc n) (x ∷ xs) [] same = absurd cc
first_of_first {X} (suc n) (x ∷ xs) (y ∷ ys) same =
    let here : y ≡ x = cc in
    let rest : take (length xs) ys ≡ xs = cc in
    ap₂ (λ (z : X) (zs : List X). z ∷ zs) here (first_of_first n xs ys rest)

-- the sets that a node is shown are the first settled sets of whatever extends the streams
pub sets_settled : (job : Job) (streams further : List (StreamPrefix Plain)) (node : PlanNode) → AreExtendedBy streams further
    → take (length (shown_sets job streams node)) (settled_sets node.policy (inputs_of further node)) ≡ shown_sets job streams node
sets_settled job streams further node e =
    first_of_first (count_of job streams node) (settled_sets node.policy (inputs_of streams node)) (settled_sets node.policy (inputs_of further node))
    (sets-stay node.policy (inputs_of streams node) (inputs_of further node) (streams_extend streams further node.inputs e))

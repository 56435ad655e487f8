-- The streams of a node in the solution: what becomes of the node, and what its settled sets are if its inputs have ended.
use Rattle.std.proofs.Common.{◌≡◌, ℕ, zero, suc, ◌+◌, ◌<◌, List, [], ◌∷◌, ◌++◌, length, length-append, map, get_or, Some, slice_get, ap, ap₂, sym, refl, subst, ◌∙◌, inl, inr, arith}
use Rattle.std.specs.List.{flat_map, range_with_len, AllByRecursion}
use Rattle.std.proofs.lemmas.List.{length-map}
use Rattle.std.proofs.lemmas.List.Concat.{flat_map-cons}
use Rattle.std.proofs.lemmas.List.Elements.{recursion_from_All}
use Rattle.mg_time.specs.Time.{done, IsAllowed}
use Rattle.mg_value.specs.Payload.{Plain}
use Rattle.mg_value.specs.Packet.{Stamped}
use Rattle.mg_settled.specs.Prefix.{StreamPrefix, IsPrefix, empty_prefix}
use Rattle.mg_settled.specs.Settled.{low, times_of, all_times, settled_times}
use Rattle.mg_settled.proofs.Times.{In, In-append_left, In-append_right}
use Rattle.mg_settled.proofs.SettledTimes.{settled_to}
use Rattle.mg_calc.specs.declared.plan_node.PlanNode.{PlanNode}
use Rattle.mg_calc.specs.declared.law.Law.TheVariants.{Loopback}
use Rattle.mg_calc.specs.Equations.{Job, IsJob, IsSolution, stream_of, outcome_of}
use Rattle.mg_calc.proofs.Jobs.{job_known}
use Rattle.mg_calc.proofs.Rounds.{outcome_has_outputs}
use Rattle.mg_calc.proofs.Solutions.{solution_keeps, solution_has_each}
use Rattle.mg_batch.proofs.SetsOf.{Among}

-- all streams in order are the streams
streams_in_order : (a : ℕ) (before xs : List (StreamPrefix Plain)) → length before ≡ a → map (stream_of (before ++ xs)) (range_with_len a (length xs)) ≡ xs
streams_in_order a before [] long = refl
streams_in_order a before (x ∷ xs) long =
    ap₂ (λ (y : StreamPrefix Plain) (ys : List (StreamPrefix Plain)). y ∷ ys) (at_end before x xs a long)
    (ap (λ (all : List (StreamPrefix Plain)). map (stream_of all) (range_with_len (a + 1) (length xs))) (moved before x xs)
    ∙ streams_in_order (a + 1) (before ++ x ∷ []) xs (length-append before (x ∷ []) ∙ ap (λ (n : ℕ). n + 1) long))
  where
    at_end : (bs : List (StreamPrefix Plain)) (y : StreamPrefix Plain) (ys : List (StreamPrefix Plain)) (n : ℕ) → length bs ≡ n → get_or (bs ++ y ∷ ys) n empty_prefix ≡ y
    at_end [] y ys zero e = refl
    at_end [] y ys (suc n) e = absurd (omega (arith, e))
    at_end (b ∷ bs) y ys zero e = absurd (omega (arith, e))
    at_end (b ∷ bs) y ys (suc n) e = at_end bs y ys n (omega (arith, e))

    moved : (bs : List (StreamPrefix Plain)) (y : StreamPrefix Plain) (ys : List (StreamPrefix Plain)) → bs ++ y ∷ ys ≡ (bs ++ y ∷ []) ++ ys
    moved [] y ys = refl
    moved (b ∷ bs) y ys = ap (λ (l : List (StreamPrefix Plain)). b ∷ l) (moved bs y ys)

-- two lists in parts of the same lengths
map-both : {X Y : Type 0} (f : X → Y) (xs ys : List X) → map f (xs ++ ys) ≡ map f xs ++ map f ys
map-both f [] ys = refl
map-both {X} {Y} f (x ∷ xs) ys = ap (λ (l : List Y). f x ∷ l) (map-both f xs ys)

same_parts : {X : Type 0} (a b c d : List X) → a ++ b ≡ c ++ d → length a ≡ length c → (a ≡ c) × (b ≡ d)
same_parts [] b [] d e long = (refl, e)
same_parts [] b (y ∷ c) d e long = absurd (omega (arith, long))
same_parts (x ∷ a) b [] d e long = absurd (omega (arith, long))
same_parts {X} (x ∷ a) b (y ∷ c) d e long =
    let head : x ≡ y = cc in
    let rest : a ++ b ≡ c ++ d = cc in
    let later = same_parts a b c d rest (omega (arith, long)) in
    (ap₂ (λ (z : X) (zs : List X). z ∷ zs) head later.0, later.1)

-- of the first of some nodes, and of the others
first_part : (job : Job) (streams : List (StreamPrefix Plain)) (n : PlanNode) (nodes : List PlanNode)
    → map (stream_of streams) (flat_map (λ m. m.outputs) (n ∷ nodes)) ≡ flat_map (λ m. (outcome_of job streams m).outputs) (n ∷ nodes) → length (outcome_of job streams n).outputs ≡ length n.outputs
    → (map (stream_of streams) n.outputs ≡ (outcome_of job streams n).outputs) × (map (stream_of streams) (flat_map (λ m. m.outputs) nodes) ≡ flat_map (λ m. (outcome_of job streams m).outputs) nodes)
first_part job streams n nodes same long =
    same_parts (map (stream_of streams) n.outputs) (map (stream_of streams) (flat_map (λ m. m.outputs) nodes)) (outcome_of job streams n).outputs (flat_map (λ m. (outcome_of job streams m).outputs) nodes)
    (sym (map-both (stream_of streams) n.outputs (flat_map (λ m. m.outputs) nodes)) ∙ ap (map (stream_of streams)) (sym (flat_map-cons (λ m. m.outputs) n nodes)) ∙ same ∙ flat_map-cons (λ m. (outcome_of job streams m).outputs) n nodes)
    (length-map n.outputs (stream_of streams) ∙ sym long)

by_place : (job : Job) (streams : List (StreamPrefix Plain)) (n : PlanNode) (nodes : List PlanNode) (i : ℕ) (node : PlanNode) → map (stream_of streams) n.outputs ≡ (outcome_of job streams n).outputs
    → ((j : ℕ) → slice_get nodes j ≡ Some node → map (stream_of streams) node.outputs ≡ (outcome_of job streams node).outputs)
    → slice_get (n ∷ nodes) i ≡ Some node → map (stream_of streams) node.outputs ≡ (outcome_of job streams node).outputs
by_place job streams n nodes zero node here rest there = (let is : n ≡ node = cc in subst (λ (m : PlanNode). map (stream_of streams) m.outputs ≡ (outcome_of job streams m).outputs) is here)
by_place job streams n nodes (suc i) node here rest there = rest i there

-- of all nodes, from one on
part_of : (job : Job) (streams : List (StreamPrefix Plain)) (nodes : List PlanNode) (i : ℕ) (node : PlanNode)
    → map (stream_of streams) (flat_map (λ n. n.outputs) nodes) ≡ flat_map (λ n. (outcome_of job streams n).outputs) nodes
    → AllByRecursion (λ n. length (outcome_of job streams n).outputs ≡ length n.outputs) nodes
    → slice_get nodes i ≡ Some node → map (stream_of streams) node.outputs ≡ (outcome_of job streams node).outputs
part_of job streams [] i node same long there = absurd cc
part_of job streams (n ∷ nodes) i node same long there =
    let parts = first_part job streams n nodes same long.0 in
    by_place job streams n nodes i node parts.0 (λ j at. part_of job streams nodes j node parts.1 long.1 at) there

-- each node has all its outputs
all_long : (job : Job) (streams : List (StreamPrefix Plain)) (nodes : List PlanNode) → AllByRecursion (λ node. node.law ≡ Loopback → length node.outputs ≡ 1) nodes → AllByRecursion IsPrefix streams
    → AllByRecursion (λ n. length (outcome_of job streams n).outputs ≡ length n.outputs) nodes
all_long job streams [] ones is = tt
all_long job streams (node ∷ nodes) ones is = (outcome_has_outputs job node streams ones.0 is, all_long job streams nodes ones.1 is)

pub node_streams : (job : Job) (streams : List (StreamPrefix Plain)) (number : ℕ) (node : PlanNode) → IsJob job → IsSolution job streams → slice_get job.plan.nodes number ≡ Some node → map (stream_of streams) node.outputs ≡ (outcome_of job streams node).outputs
node_streams job streams number node is_job solution there =
    let plan = job.plan in
    let known = job_known job is_job in
    let prefixes = solution_keeps job known streams solution in
    let each : length streams ≡ length plan.streams = solution_has_each job known streams solution in
    let written : List ℕ = plan.inputs ++ flat_map (λ n. n.outputs) plan.nodes in
    let all : map (stream_of streams) written ≡ job.inputs.streams ++ flat_map (λ n. (outcome_of job streams n).outputs) plan.nodes =
    ap (map (stream_of streams)) (is_job.plan.streams ∙ ap (λ (n : ℕ). range_with_len 0 n) (sym each)) ∙ streams_in_order 0 [] streams refl ∙ sym solution.meets in
    let parts = same_parts (map (stream_of streams) plan.inputs) (map (stream_of streams) (flat_map (λ n. n.outputs) plan.nodes)) job.inputs.streams (flat_map (λ n. (outcome_of job streams n).outputs) plan.nodes)
    (sym (map-both (stream_of streams) plan.inputs (flat_map (λ n. n.outputs) plan.nodes)) ∙ all) (length-map plan.inputs (stream_of streams) ∙ sym is_job.inputs.streams) in
    part_of job streams plan.nodes number node parts.1 (all_long job streams plan.nodes known.loops prefixes) there

-- if streams have ended, all their packets stand below the least bound
pub all_ended : (ss : List (StreamPrefix Plain)) → AllByRecursion (λ s. s.bound ≡ done) ss → low ss ≡ done
all_ended [] h = refl
all_ended (s ∷ ss) h = omega (arith, h.0, all_ended ss h.1)

before_done : (ps : List (Stamped Plain)) (t : ℕ) → AllByRecursion (λ p. IsAllowed p.at) ps → In t (times_of ps) → t < done
before_done [] t h i = absurd i
before_done (p ∷ ps) t h i = elim i [ inl e ↦ omega (arith, h.0.1, e) | inr j ↦ before_done ps t h.1 j ]

in_all : (ss : List (StreamPrefix Plain)) (k t : ℕ) (s : StreamPrefix Plain) → slice_get ss k ≡ Some s → In t (times_of s.packets) → In t (all_times ss)
in_all [] k t s there i = absurd cc
in_all (x ∷ ss) zero t s there i = (let same : x ≡ s = cc in In-append_left t (times_of x.packets) (all_times ss) (subst (λ (y : StreamPrefix Plain). In t (times_of y.packets)) (sym same) i))
in_all (x ∷ ss) (suc k) t s there i = In-append_right t (times_of x.packets) (all_times ss) (in_all ss k t s there i)

-- so the times of each are settled
pub among_settled : (ss : List (StreamPrefix Plain)) (k : ℕ) (s : StreamPrefix Plain) → slice_get ss k ≡ Some s → IsPrefix s → AllByRecursion (λ s. s.bound ≡ done) ss → Among s.packets (settled_times ss)
among_settled ss k s there is ended t i =
    settled_to ss t (subst (λ (b : ℕ). t < b) (sym (all_ended ss ended)) (before_done s.packets t (recursion_from_All (λ (p : Stamped Plain). IsAllowed p.at) s.packets is.allowed) i)) (in_all ss k t s there i)

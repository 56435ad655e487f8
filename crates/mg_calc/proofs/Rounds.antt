-- The equations follow their streams, and rounds consist of prefixes, each extended by the next.
use Rattle.std.proofs.Common.{sum_by, length-append, ap₂, ◌≡◌, ℕ, zero, suc, ◌+◌, length, replicate, List, [], ◌∷◌, ◌++◌, map, refl, sym, ap, ◌∙◌}
use Rattle.std.specs.List.{AllByRecursion, flat_map}
use Rattle.std.proofs.lemmas.List.Elements.{length_all_zip, All-from_recursion}
use Rattle.std.proofs.lemmas.List.Concat.{flat_map-cons}
use Rattle.std.proofs.lemmas.List.Sums.{sum_by-cons}
use Rattle.std.proofs.lemmas.List.{length-replicate}
use Rattle.mg_value.specs.Payload.{Plain}
use Rattle.mg_settled.specs.Prefix.{StreamPrefix, IsPrefix, empty_prefix}
use Rattle.mg_settled.specs.Extension.{IsExtendedBy, AreExtendedBy}
use Rattle.mg_settled.proofs.Lemmas.{extended_by_itself, all_by_themselves}
use Rattle.mg_settled.proofs.Lemmas.{empty_is_prefix}
use Rattle.mg_settled.proofs.Lemmas.{loopback_is_prefix, loopback_extends}
use Rattle.mg_calc.specs.declared.law.Law.{Law}
use Rattle.mg_calc.specs.declared.law.Law.TheVariants.{Count, SideOnce, Constants, Loopback}
use Rattle.mg_calc.specs.declared.plan_node.PlanNode.{PlanNode}
use Rattle.mg_calc.specs.Shape.{calls_of}
use Rattle.mg_calc.specs.Equations.{Job, rules_at, stream_of, inputs_of, sides_of, outcome_by, outcome_of, next_round}
use Rattle.mg_calc.proofs.Outcomes.{source_keeps, source_outputs}
use Rattle.mg_calc.proofs.NodeStreams.{node_keeps, node_follows, node_has_outputs}

-- a stream by its number
pub stream_extends : (xs ys : List (StreamPrefix Plain)) (i : ℕ) → AreExtendedBy xs ys → IsExtendedBy (stream_of xs i) (stream_of ys i)
stream_extends [] [] i e = extended_by_itself empty_prefix
stream_extends [] (y ∷ ys) i e = absurd e
stream_extends (x ∷ xs) [] i e = absurd e
stream_extends (x ∷ xs) (y ∷ ys) zero e = e.0
stream_extends (x ∷ xs) (y ∷ ys) (suc i) e = stream_extends xs ys i e.1

pub stream_is_prefix : (xs : List (StreamPrefix Plain)) (i : ℕ) → AllByRecursion IsPrefix xs → IsPrefix (stream_of xs i)
stream_is_prefix [] i k = empty_is_prefix
stream_is_prefix (x ∷ xs) zero k = k.0
stream_is_prefix (x ∷ xs) (suc i) k = stream_is_prefix xs i k.1

pub streams_extend : (xs ys : List (StreamPrefix Plain)) (numbers : List ℕ) → AreExtendedBy xs ys → AreExtendedBy (map (stream_of xs) numbers) (map (stream_of ys) numbers)
streams_extend xs ys [] e = tt
streams_extend xs ys (n ∷ ns) e = (stream_extends xs ys n e, streams_extend xs ys ns e)

pub streams_are_prefixes : (xs : List (StreamPrefix Plain)) (numbers : List ℕ) → AllByRecursion IsPrefix xs → AllByRecursion IsPrefix (map (stream_of xs) numbers)
streams_are_prefixes xs [] k = tt
streams_are_prefixes xs (n ∷ ns) k = (stream_is_prefix xs n k, streams_are_prefixes xs ns k)

-- What is known of a job: a loopback has one output, and the graph inputs are prefixes. There is a stream for each graph input and for
-- each output.
pub record IsKnown (job : Job) : Type 0 where
  pub loops : AllByRecursion (λ node. node.law ≡ Loopback → length node.outputs ≡ 1) job.plan.nodes
  pub inputs : AllByRecursion IsPrefix job.inputs.streams
  pub streams : length job.plan.streams ≡ length job.inputs.streams + sum_by (λ node. length node.outputs) job.plan.nodes

-- a node's outputs follow the streams, and are prefixes
outcome_follows_by : (law : Law) (job : Job) (node : PlanNode) (xs ys : List (StreamPrefix Plain))
    → AllByRecursion IsPrefix xs → AllByRecursion IsPrefix ys → AreExtendedBy xs ys → AreExtendedBy (outcome_by law job xs node).outputs (outcome_by law job ys node).outputs
outcome_follows_by (Count count start step) job node xs ys kx ky e = all_by_themselves (outcome_by (Count count start step) job xs node).outputs
outcome_follows_by (SideOnce at) job node xs ys kx ky e = all_by_themselves (outcome_by (SideOnce at) job xs node).outputs
outcome_follows_by Constants job node xs ys kx ky e = all_by_themselves (outcome_by Constants job xs node).outputs
outcome_follows_by Loopback job node xs ys kx ky e = (
  loopback_extends (stream_of (inputs_of xs node) 1) (stream_of (inputs_of ys node) 1) (stream_of (inputs_of xs node) 0) (stream_of (inputs_of ys node) 0)
      (stream_is_prefix (inputs_of ys node) 1 (streams_are_prefixes ys node.inputs ky))
      (stream_extends (inputs_of xs node) (inputs_of ys node) 1 (streams_extend xs ys node.inputs e))
      (stream_extends (inputs_of xs node) (inputs_of ys node) 0 (streams_extend xs ys node.inputs e)),
  tt,
)
outcome_follows_by law job node xs ys kx ky e =
    node_follows (rules_at job node) node.shape.offset node.policy (length node.outputs) (sides_of job node) (inputs_of xs node) (inputs_of ys node)
    (All-from_recursion IsPrefix (inputs_of xs node) (streams_are_prefixes xs node.inputs kx))
    (All-from_recursion IsPrefix (inputs_of ys node) (streams_are_prefixes ys node.inputs ky))
    (streams_extend xs ys node.inputs e)

outcome_keeps_by : (law : Law) (job : Job) (node : PlanNode) (xs : List (StreamPrefix Plain))
    → AllByRecursion IsPrefix xs → AllByRecursion IsPrefix (outcome_by law job xs node).outputs
outcome_keeps_by (Count count start step) job node xs kx = source_keeps (rules_at job node) node.law (calls_of node.law) (length node.outputs) (sides_of job node)
outcome_keeps_by (SideOnce at) job node xs kx = source_keeps (rules_at job node) node.law (calls_of node.law) (length node.outputs) (sides_of job node)
outcome_keeps_by Constants job node xs kx = source_keeps (rules_at job node) node.law (calls_of node.law) (length node.outputs) (sides_of job node)
outcome_keeps_by Loopback job node xs kx =
    (loopback_is_prefix (stream_of (inputs_of xs node) 1) (stream_of (inputs_of xs node) 0) (stream_is_prefix (inputs_of xs node) 1 (streams_are_prefixes xs node.inputs kx)), tt)
outcome_keeps_by law job node xs kx =
    node_keeps (rules_at job node) node.shape.offset node.policy (length node.outputs) (sides_of job node) (inputs_of xs node)
    (All-from_recursion IsPrefix (inputs_of xs node) (streams_are_prefixes xs node.inputs kx))

pub outcome_follows : (job : Job) (node : PlanNode) (xs ys : List (StreamPrefix Plain))
    → AllByRecursion IsPrefix xs → AllByRecursion IsPrefix ys → AreExtendedBy xs ys → AreExtendedBy (outcome_of job xs node).outputs (outcome_of job ys node).outputs
outcome_follows job node = outcome_follows_by node.law job node

pub outcome_keeps : (job : Job) (node : PlanNode) (xs : List (StreamPrefix Plain))
    → AllByRecursion IsPrefix xs → AllByRecursion IsPrefix (outcome_of job xs node).outputs
outcome_keeps job node = outcome_keeps_by node.law job node

-- lists one after the other
both_extend : (ps qs cs ds : List (StreamPrefix Plain)) → AreExtendedBy ps qs → AreExtendedBy cs ds → AreExtendedBy (ps ++ cs) (qs ++ ds)
both_extend [] [] cs ds e f = f
both_extend [] (q ∷ qs) cs ds e f = absurd e
both_extend (p ∷ ps) [] cs ds e f = absurd e
both_extend (p ∷ ps) (q ∷ qs) cs ds e f = (e.0, both_extend ps qs cs ds e.1 f)

both_keep : (ps qs : List (StreamPrefix Plain)) → AllByRecursion IsPrefix ps → AllByRecursion IsPrefix qs → AllByRecursion IsPrefix (ps ++ qs)
both_keep [] qs e f = f
both_keep (p ∷ ps) qs e f = (e.0, both_keep ps qs e.1 f)

nodes_follow : (job : Job) (nodes : List PlanNode) (xs ys : List (StreamPrefix Plain)) → AllByRecursion IsPrefix xs → AllByRecursion IsPrefix ys → AreExtendedBy xs ys
    → AreExtendedBy (flat_map (λ node. (outcome_of job xs node).outputs) nodes) (flat_map (λ node. (outcome_of job ys node).outputs) nodes)
nodes_follow job [] xs ys kx ky e = tt
nodes_follow job (node ∷ nodes) xs ys kx ky e =
    rw (flat_map-cons (λ node. (outcome_of job xs node).outputs) node nodes, flat_map-cons (λ node. (outcome_of job ys node).outputs) node nodes)
    (both_extend (outcome_of job xs node).outputs (outcome_of job ys node).outputs _ _ (outcome_follows job node xs ys kx ky e) (nodes_follow job nodes xs ys kx ky e))

nodes_keep : (job : Job) (nodes : List PlanNode) (xs : List (StreamPrefix Plain)) → AllByRecursion IsPrefix xs → AllByRecursion IsPrefix (flat_map (λ node. (outcome_of job xs node).outputs) nodes)
nodes_keep job [] xs kx = tt
nodes_keep job (node ∷ nodes) xs kx =
    rw (flat_map-cons (λ node. (outcome_of job xs node).outputs) node nodes)
    (both_keep (outcome_of job xs node).outputs _ (outcome_keeps job node xs kx) (nodes_keep job nodes xs kx))

-- the equations follow their streams, and give prefixes
pub equations_follow : (job : Job) (xs ys : List (StreamPrefix Plain)) → IsKnown job
    → AllByRecursion IsPrefix xs → AllByRecursion IsPrefix ys → AreExtendedBy xs ys → AreExtendedBy (next_round job xs) (next_round job ys)
equations_follow job xs ys known kx ky e =
    both_extend job.inputs.streams job.inputs.streams _ _ (all_by_themselves job.inputs.streams) (nodes_follow job job.plan.nodes xs ys kx ky e)

pub equations_keep : (job : Job) (xs : List (StreamPrefix Plain)) → IsKnown job → AllByRecursion IsPrefix xs → AllByRecursion IsPrefix (next_round job xs)
equations_keep job xs known kx = both_keep job.inputs.streams _ known.inputs (nodes_keep job job.plan.nodes xs kx)

as_long : (n : ℕ) (xs : List (StreamPrefix Plain)) → AreExtendedBy (replicate n empty_prefix) xs → length xs ≡ n
as_long n xs e = sym (length_all_zip IsExtendedBy (replicate n empty_prefix) xs e) ∙ length-replicate n empty_prefix

-- a node has all its outputs
outcome_has_outputs_by : (law : Law) (job : Job) (node : PlanNode) (xs : List (StreamPrefix Plain)) → (law ≡ Loopback → length node.outputs ≡ 1)
    → AllByRecursion IsPrefix xs → length (outcome_by law job xs node).outputs ≡ length node.outputs
outcome_has_outputs_by (Count count start step) job node xs one kx = as_long (length node.outputs) _ (source_outputs (rules_at job node) node.law (calls_of node.law) (length node.outputs) (sides_of job node))
outcome_has_outputs_by (SideOnce at) job node xs one kx = as_long (length node.outputs) _ (source_outputs (rules_at job node) node.law (calls_of node.law) (length node.outputs) (sides_of job node))
outcome_has_outputs_by Constants job node xs one kx = as_long (length node.outputs) _ (source_outputs (rules_at job node) node.law (calls_of node.law) (length node.outputs) (sides_of job node))
outcome_has_outputs_by Loopback job node xs one kx = sym (one refl)
outcome_has_outputs_by law job node xs one kx =
    as_long (length node.outputs) _ (node_has_outputs (rules_at job node) node.shape.offset node.policy (length node.outputs) (sides_of job node) (inputs_of xs node)
    (All-from_recursion IsPrefix (inputs_of xs node) (streams_are_prefixes xs node.inputs kx)))

pub outcome_has_outputs : (job : Job) (node : PlanNode) (xs : List (StreamPrefix Plain)) → (node.law ≡ Loopback → length node.outputs ≡ 1)
    → AllByRecursion IsPrefix xs → length (outcome_of job xs node).outputs ≡ length node.outputs
outcome_has_outputs job node = outcome_has_outputs_by node.law job node

nodes_have_outputs : (job : Job) (nodes : List PlanNode) (xs : List (StreamPrefix Plain)) → AllByRecursion (λ node. node.law ≡ Loopback → length node.outputs ≡ 1) nodes → AllByRecursion IsPrefix xs
    → length (flat_map (λ node. (outcome_of job xs node).outputs) nodes) ≡ sum_by (λ node. length node.outputs) nodes
nodes_have_outputs job [] xs ones kx = refl
nodes_have_outputs job (node ∷ nodes) xs ones kx =
    ap length (flat_map-cons (λ node. (outcome_of job xs node).outputs) node nodes)
    ∙ (length-append (outcome_of job xs node).outputs (flat_map (λ node. (outcome_of job xs node).outputs) nodes)
    ∙ (ap₂ (λ a b. a + b) (outcome_has_outputs job node xs ones.0 kx) (nodes_have_outputs job nodes xs ones.1 kx)
    ∙ sym (sum_by-cons (λ node. length node.outputs) node nodes)))

-- the equations give a prefix for each stream
pub equations_are_as_many : (job : Job) (xs : List (StreamPrefix Plain)) → IsKnown job → AllByRecursion IsPrefix xs → length (next_round job xs) ≡ length job.plan.streams
equations_are_as_many job xs known kx =
    length-append job.inputs.streams (flat_map (λ node. (outcome_of job xs node).outputs) job.plan.nodes)
    ∙ (ap (λ n. length job.inputs.streams + n) (nodes_have_outputs job job.plan.nodes xs known.loops kx) ∙ sym known.streams)

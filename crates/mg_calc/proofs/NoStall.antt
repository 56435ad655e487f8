-- If a graph has no back edges, its input ended and no node failed, every stream has ended. The proof goes node by node in the order.
use Rattle.std.proofs.Common.{◌≡◌, ℕ, zero, suc, ◌+◌, ◌<◌, ◌-◌, length, List, [], ◌∷◌, ◌++◌, append-nil, append_assoc, map, false, All, Some, None, slice_get, refl, sym, ap, ap₂, subst, ◌∙◌, arith}
use Rattle.std.specs.List.{AllByRecursion, enumerate_from}
use Rattle.std.proofs.lemmas.List.{map-append, length-map}
use Rattle.std.proofs.lemmas.List.FromFn.{length-map-range_with_len}
use Rattle.std.proofs.lemmas.List.Elements.{All-from_recursion, recursion_from_All}
use Rattle.mg_time.specs.Time.{done}
use Rattle.mg_value.specs.Payload.{Plain}
use Rattle.mg_settled.specs.Prefix.{StreamPrefix, IsPrefix, closed}
use Rattle.mg_settled.proofs.Lemmas.{port-prefix}
use Rattle.mg_calc.specs.declared.edge.Edge.{Edge}
use Rattle.mg_calc.specs.declared.law.Law.{Law}
use Rattle.mg_calc.specs.declared.law.Law.TheVariants.{Loopback}
use Rattle.mg_calc.specs.declared.plan.Plan.{Plan}
use Rattle.mg_calc.specs.declared.plan_node.PlanNode.{PlanNode}
use Rattle.mg_calc.specs.declared.plan_stream.Producer.TheVariants.{Input, Node}
use Rattle.mg_calc.specs.declared.port_kind.PortKind.{PortKind}
use Rattle.mg_calc.specs.Plan.{HasNumbers, LeadsForward, ends_of, producers, numbers}
use Rattle.mg_calc.specs.Shape.{IsShapeOf, HasInputs}
use Rattle.mg_calc.specs.Equations.{Job, IsJob, IsSolution, stream_of, inputs_of, outcome_of}
use Rattle.mg_calc.proofs.Earlier.{Forward, IsNext, KnownBy, at_place, edges_into, forward_same, get_or_some, node_reads_below}
use Rattle.mg_calc.proofs.EndedInputs.{AreEnded, LoopEnded, outcome_ends}
use Rattle.mg_calc.proofs.Holding.{OfNodes, from_zero, gives_all_from, give_same_from, node_loops, parts_same}
use Rattle.mg_calc.proofs.Jobs.{job_known}
use Rattle.mg_calc.proofs.Positions.{Agree, agree_both, agree_parts, agree_same, givers, parts, parts_flat}
use Rattle.mg_calc.proofs.Rounds.{outcome_has_outputs, stream_is_prefix, streams_are_prefixes}
use Rattle.mg_calc.proofs.Solutions.{solution_has_each, solution_keeps}

-- a job without back edges and with inputs that ended, and its solution, in which no node failed
pub record RunsThrough (job : Job) (streams : List (StreamPrefix Plain)) : Type 0 where
  pub is_job : IsJob job
  pub solution : IsSolution job streams
  pub ahead : All (λ e. e.back ≡ false) job.plan.edges
  pub ended : All (λ s. s.bound ≡ done) job.inputs.streams
  pub good : All (λ node. (outcome_of job streams node).fault ≡ None) job.plan.nodes

-- the outputs of a node have ended
abbrev HasEnded : Job → List (StreamPrefix Plain) → ℕ → Type 0
HasEnded job streams k = (node : PlanNode) → slice_get job.plan.nodes k ≡ Some node → AreEnded (outcome_of job streams node).outputs

-- ---- streams that have ended are as closed ones
all_closed : (ss : List (StreamPrefix Plain)) → AllByRecursion (λ s. s.bound ≡ done) ss → AreEnded ss
all_closed [] all = refl
all_closed (s ∷ ss) all =
    ap₂ (λ (b : ℕ) (rest : List (StreamPrefix Plain)). (let t : StreamPrefix Plain = record { packets = s.packets; bound = b } in t ∷ rest)) (sym all.0) (all_closed ss all.1)

closed_all : (ss : List (StreamPrefix Plain)) → AreEnded ss → AllByRecursion (λ s. s.bound ≡ done) ss
closed_all [] same = tt
closed_all (s ∷ ss) same = (
  sym (ap (λ l. (elim l [ [] ↦ done | h ∷ t ↦ h.bound ])) same),
  closed_all ss (ap (λ l. (elim l [ [] ↦ ss | h ∷ t ↦ t ])) same),
)

closed_at : (ss : List (StreamPrefix Plain)) (n : ℕ) → n < length ss → (stream_of (map closed ss) n).bound ≡ done
closed_at [] n within = absurd (omega (arith, within))
closed_at (s ∷ ss) zero within = refl
closed_at (s ∷ ss) (suc n) within = closed_at ss n (omega (arith, within))

ended_at : (ss : List (StreamPrefix Plain)) (n : ℕ) → AllByRecursion (λ s. s.bound ≡ done) ss → n < length ss → (stream_of ss n).bound ≡ done
ended_at [] n all within = absurd (omega (arith, within))
ended_at (s ∷ ss) zero all within = all.0
ended_at (s ∷ ss) (suc n) all within = ended_at ss n all.1 (omega (arith, within))

closed_parts : (give : ℕ → PlanNode → List (StreamPrefix Plain)) (k : ℕ) (nodes : List PlanNode) → map closed (parts give k nodes) ≡ parts (λ i node. map closed (give i node)) k nodes
closed_parts give k [] = refl
closed_parts give k (node ∷ nodes) = map-append closed (give k node) (parts give (k + 1) nodes) ∙ ap (λ rest. map closed (give k node) ++ rest) (closed_parts give (k + 1) nodes)

-- ---- the streams of a solution are closed if their nodes have ended
whole : (job : Job) (streams : List (StreamPrefix Plain)) → RunsThrough job streams → streams ≡ job.inputs.streams ++ parts (λ k node. (outcome_of job streams node).outputs) 0 job.plan.nodes
whole job streams r =
    sym r.solution.meets ∙ ap (λ rest. job.inputs.streams ++ rest) (sym (parts_flat (λ node. (outcome_of job streams node).outputs) 0 job.plan.nodes))

whole_closed : (job : Job) (streams : List (StreamPrefix Plain)) → RunsThrough job streams
    → map closed streams ≡ job.inputs.streams ++ parts (λ k node. map closed (outcome_of job streams node).outputs) 0 job.plan.nodes
whole_closed job streams r =
    ap (map closed) (whole job streams r)
    ∙ (map-append closed job.inputs.streams (parts (λ k node. (outcome_of job streams node).outputs) 0 job.plan.nodes)
    ∙ ap₂ (λ (a b : List (StreamPrefix Plain)). a ++ b)
    (all_closed job.inputs.streams (recursion_from_All (λ (s : StreamPrefix Plain). s.bound ≡ done) job.inputs.streams r.ended))
    (closed_parts (λ k node. (outcome_of job streams node).outputs) 0 job.plan.nodes))

agrees : (job : Job) (streams : List (StreamPrefix Plain)) → RunsThrough job streams → Agree (KnownBy (HasEnded job streams)) (producers job.plan) streams (map closed streams)
agrees job streams r =
    let K = KnownBy (HasEnded job streams) in
    let nodes = job.plan.nodes in
    let known = job_known job r.is_job in
    let keeps = solution_keeps job known streams r.solution in
    let long : OfNodes nodes (λ k node. length (outcome_of job streams node).outputs ≡ length node.outputs) =
    λ k node at. outcome_has_outputs job node streams (node_loops job known k node at) keeps in
    let closed_long : OfNodes nodes (λ k node. length (map closed (outcome_of job streams node).outputs) ≡ length node.outputs) =
    λ k node at. length-map (outcome_of job streams node).outputs closed ∙ long k node at in
    subst (λ (xs : List (StreamPrefix Plain)). Agree K (producers job.plan) xs (map closed streams)) (sym (whole job streams r))
    (subst (λ (ys : List (StreamPrefix Plain)). Agree K (producers job.plan) (job.inputs.streams ++ parts (λ k node. (outcome_of job streams node).outputs) 0 nodes) ys) (sym (whole_closed job streams r))
    (agree_both K (map Input (numbers (length job.plan.inputs))) (givers 0 nodes) job.inputs.streams job.inputs.streams _ _
    (agree_same K (map Input (numbers (length job.plan.inputs))) job.inputs.streams (r.is_job.inputs.streams ∙ sym (length-map-range_with_len Input 0 (length job.plan.inputs))))
    (agree_parts K (λ k node. (outcome_of job streams node).outputs) (λ k node. map closed (outcome_of job streams node).outputs) 0 nodes
    (gives_all_from (λ k node. (outcome_of job streams node).outputs) 0 nodes (from_zero nodes (λ k node. length (outcome_of job streams node).outputs ≡ length node.outputs) long))
    (gives_all_from (λ k node. map closed (outcome_of job streams node).outputs) 0 nodes (from_zero nodes (λ k node. length (map closed (outcome_of job streams node).outputs) ≡ length node.outputs) closed_long))
    (give_same_from K (λ k node. (outcome_of job streams node).outputs) (λ k node. map closed (outcome_of job streams node).outputs) 0 nodes
    (from_zero nodes (λ k node. (port : ℕ) → K (Node k port) → (outcome_of job streams node).outputs ≡ map closed (outcome_of job streams node).outputs)
    (λ k node at port is. sym (is node at)))))))

-- ---- what a node reads, if the nodes before it have ended
edges_forward : (plan : Plan) (edges : List Edge) → AllByRecursion (λ e. e.back ≡ false → LeadsForward plan e) edges → AllByRecursion (λ e. e.back ≡ false) edges → AllByRecursion (Forward plan) (map ends_of edges)
edges_forward plan [] f b = tt
edges_forward plan (e ∷ edges) f b = (f.0 b.0, edges_forward plan edges f.1 b.1)

reads_ended : (job : Job) (streams : List (StreamPrefix Plain)) (w from : ℕ) (ns : List ℕ) → RunsThrough job streams → IsNext job.plan (HasEnded job streams) w
    → AllByRecursion (λ t. t < length job.plan.streams) ns → AllByRecursion (Forward job.plan) (map (λ e. record { stream = e.1; node = w; port = e.0 }) (enumerate_from from ns))
    → length streams ≡ length job.plan.streams → AllByRecursion (λ s. s.bound ≡ done) (map (stream_of streams) ns)
reads_ended job streams w from [] r next below forward long = tt
reads_ended job streams w from (t ∷ ns) r next below forward long = (
  ap (λ (s : StreamPrefix Plain). s.bound) (forward_same job.plan (HasEnded job streams) w t from streams (map closed streams) r.is_job.plan next below.0 forward.0 (agrees job streams r))
      ∙ closed_at streams t (let b = below.0 in omega (arith, long, b)),
  reads_ended job streams w (from + 1) ns r next below.1 forward.1 long,
)

two_ports : (law : Law) (ps : List PortKind) → HasInputs law ps → law ≡ Loopback → length ps ≡ 2
two_ports law ps has e = (let same = subst (λ (l : Law). HasInputs l ps) e has in ap length same)

next_ends : (job : Job) (streams : List (StreamPrefix Plain)) (w : ℕ) → RunsThrough job streams → IsNext job.plan (HasEnded job streams) w → HasEnded job streams w
next_ends job streams w r next node at =
    let plan = job.plan in
    let known = job_known job r.is_job in
    let keeps = solution_keeps job known streams r.solution in
    let edges = edges_forward plan plan.edges (recursion_from_All (λ (e : Edge). e.back ≡ false → LeadsForward plan e) plan.edges r.is_job.plan.forward)
    (recursion_from_All (λ (e : Edge). e.back ≡ false) plan.edges r.ahead) in
    let forward = edges_into plan (Forward plan) w node r.is_job.plan edges at in
    let ended = reads_ended job streams w 0 node.inputs r next (node_reads_below plan w node r.is_job.plan at) forward (solution_has_each job known streams r.solution) in
    let prefixes = All-from_recursion IsPrefix (inputs_of streams node) (streams_are_prefixes streams node.inputs keeps) in
    let loop : node.law ≡ Loopback → LoopEnded streams node = λ is. (
    let numbers = at_place HasNumbers plan.nodes w node (recursion_from_All HasNumbers plan.nodes r.is_job.plan.ports) at in
    let shape = at_place (λ (n : PlanNode). IsShapeOf n.law n.shape) plan.nodes w node (recursion_from_All (λ (n : PlanNode). IsShapeOf n.law n.shape) plan.nodes r.is_job.plan.shapes) at in
    let two : length (inputs_of streams node) ≡ 2 = length-map node.inputs (stream_of streams) ∙ (numbers.inputs ∙ two_ports node.law node.shape.inputs shape.inputs is) in
    record {
      main = stream_is_prefix (inputs_of streams node) 1 (streams_are_prefixes streams node.inputs keeps);
      at_main = ended_at (inputs_of streams node) 1 ended (omega (arith, two));
      at_loop = ended_at (inputs_of streams node) 0 ended (omega (arith, two));
    }) in
    outcome_ends job streams node loop ended (port-prefix (inputs_of streams node) prefixes (length (inputs_of streams node) - 1))
    (at_place (λ (n : PlanNode). (outcome_of job streams n).fault ≡ None) plan.nodes w node (recursion_from_All (λ (n : PlanNode). (outcome_of job streams n).fault ≡ None) plan.nodes r.good) at)

-- ---- one node after the other
all_more : (P : ℕ → Type 0) (ks : List ℕ) (w : ℕ) → AllByRecursion P ks → P w → AllByRecursion P (ks ++ w ∷ [])
all_more P [] w all here = (here, tt)
all_more P (k ∷ ks) w all here = (all.0, all_more P ks w all.1 here)

rest_ends : (rest earlier : List ℕ) (job : Job) (streams : List (StreamPrefix Plain)) → RunsThrough job streams → job.plan.order ≡ earlier ++ rest → AllByRecursion (HasEnded job streams) earlier → AllByRecursion (HasEnded job streams) job.plan.order
rest_ends [] earlier job streams r order all = subst (AllByRecursion (HasEnded job streams)) (sym (order ∙ append-nil earlier)) all
rest_ends (w ∷ rest) earlier job streams r order all =
    rest_ends rest (earlier ++ w ∷ []) job streams r (order ∙ sym (append_assoc earlier (w ∷ []) rest))
    (all_more (HasEnded job streams) earlier w all (next_ends job streams w r (record { earlier = earlier; later = rest; order = order; held = all })))

each_ends : (job : Job) (streams : List (StreamPrefix Plain)) → RunsThrough job streams → OfNodes job.plan.nodes (λ k node. map closed (outcome_of job streams node).outputs ≡ (outcome_of job streams node).outputs)
each_ends job streams r k node at =
    let found = r.is_job.plan.order.there k (slice_get_below job.plan.nodes k node at) in
    let here : slice_get job.plan.order found.0 ≡ Some k = get_or_some job.plan.order found.0 k found.1 found.2 in
    at_place (HasEnded job streams) job.plan.order found.0 k (rest_ends job.plan.order [] job streams r refl tt) here node at
  where
    slice_get_below : (nodes : List PlanNode) (i : ℕ) (n : PlanNode) → slice_get nodes i ≡ Some n → i < length nodes
    slice_get_below [] i n e = absurd cc
    slice_get_below (m ∷ nodes) zero n e = omega arith
    slice_get_below (m ∷ nodes) (suc i) n e = (let l = slice_get_below nodes i n e in omega (arith, l))

pub every_stream_ends : (job : Job) (streams : List (StreamPrefix Plain)) → RunsThrough job streams → All (λ s. s.bound ≡ done) streams
every_stream_ends job streams r =
    let same : AreEnded streams = whole_closed job streams r
    ∙ (ap (λ rest. job.inputs.streams ++ rest)
    (parts_same (λ k node. map closed (outcome_of job streams node).outputs) (λ k node. (outcome_of job streams node).outputs) job.plan.nodes (each_ends job streams r))
    ∙ sym (whole job streams r)) in
    All-from_recursion (λ (s : StreamPrefix Plain). s.bound ≡ done) streams (closed_all streams same)

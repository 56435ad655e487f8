-- How intakes begin: nothing came, no set is claimed, and they are lawful.
use Rattle.std.proofs.Common.{◌≡◌, ℕ, zero, suc, ◌+◌, ◌≤◌, List, length, length-append, map, replicate, codes, Option, Some, None, option_map, unwrap_or, slice_get, ap, sym, refl, subst, ◌∙◌, arith}
use Rattle.std.specs.List.{AllByRecursion}
use Rattle.std.proofs.lemmas.List.{length-map, length-replicate}
use Rattle.std.proofs.lemmas.List.FromFn.{length-range_with_len}
use Rattle.std.specs.List.{range_with_len}
use Rattle.std.proofs.lemmas.List.Elements.{All-from_recursion}
use Rattle.mg_value.specs.Payload.{Plain}
use Rattle.mg_value.specs.declared.kind.Kind.TheVariants.{Any, Int}
use Rattle.mg_value.specs.declared.policy.Policy.{Policy}
use Rattle.mg_value.specs.declared.policy.Policy.TheVariants.{Default, Mux as MuxPolicy}
use Rattle.mg_settled.specs.Prefix.{StreamPrefix, empty_prefix}
use Rattle.mg_stream.specs.Queue.{Waiting, IsLike, empty_queue}
use Rattle.mg_stream.specs.Pool.{empty_backlog, queue_of}
use Rattle.mg_policy.specs.Inbox.{Gathered, HasPorts}
use Rattle.mg_policy.proofs.Standing.{fresh_stands}
use Rattle.mg_loopback.specs.Loopback.{Held, IsFresh as IsFreshLoop}
use Rattle.mg_loopback.proofs.Standing.{fresh_stands as fresh_loop}
use Rattle.mg_calc.specs.Rules.{Laws}
use Rattle.mg_calc.specs.declared.law.Law.{Law}
use Rattle.mg_calc.specs.declared.law.Law.TheVariants.{Mux, Loopback}
use Rattle.mg_calc.specs.declared.plan.Plan.{Plan}
use Rattle.mg_calc.specs.declared.plan_node.PlanNode.{PlanNode}
use Rattle.mg_calc.specs.declared.port_kind.PortKind.{PortKind}
use Rattle.mg_calc.specs.Plan.{IsValid, HasNumbers, MayHavePolicy}
use Rattle.mg_calc.specs.Shape.{ParametersFit, HasInputs, IsShapeOf, ports, tagged}
use Rattle.mg_calc.specs.Equations.{stream_of}
use Rattle.mg_calc.proofs.Jobs.{job_known}
use Rattle.mg_calc.proofs.Rounds.{streams_are_prefixes}
use Rattle.mg_calc.proofs.Solutions.{solution_keeps, empties_extend}
use Rattle.mg_node.specs.declared.pending.Pending.{Pending}
use Rattle.mg_node.specs.declared.pending.Pending.TheVariants.{Sets, Loop}
use Rattle.mg_node.specs.Intakes.{HoldsNone}
use Rattle.mg_node.specs.Job.{LoggedJob, Solves, ports_of, policy_of, law_of, streams_at}
use Rattle.mg_node.specs.Lawful.{HoldsSets, HoldsLoop, HoldsWaits, LawfulIntake}
use Rattle.mg_node.proofs.HeldRules.{of_node}

-- a node has the ports that its policy asks for
has_ports_by : (law : Law) (policy : Policy) (inputs : List PortKind) (n : ℕ) → MayHavePolicy law policy → ParametersFit law → HasInputs law inputs → n ≡ length inputs → HasPorts policy (record { ports = replicate n empty_backlog; spare = 0 })
has_ports_by (Mux lanes) Default inputs n may fit has same = tt
has_ports_by (Mux lanes) MuxPolicy inputs n may fit has same =
    let long : length inputs ≡ lanes + 1 = ap length has ∙ length-append (ports (codes "INPUT") lanes Any) (tagged (codes "SELECT") Int)
    ∙ ap (λ (k : ℕ). k + 1) (length-map (range_with_len 0 lanes) _ ∙ length-range_with_len 0 lanes) in
    omega (arith, fit.0, same, long, length-replicate n (empty_backlog {X = Plain}))
has_ports_by law policy inputs n may fit has same = subst (λ (p : Policy). HasPorts p (record { ports = replicate n empty_backlog; spare = 0 })) (sym may) tt

pub has_ports : (plan : Plan) (consumer : ℕ) (node : PlanNode) → IsValid plan → slice_get plan.nodes consumer ≡ Some node → HasPorts node.policy (record { ports = replicate (length node.inputs) empty_backlog; spare = 0 })
has_ports plan consumer node valid there =
    let numbers : HasNumbers node = of_node HasNumbers plan.nodes consumer node valid.ports there in
    let may : MayHavePolicy node.law node.policy = of_node (λ (n : PlanNode). MayHavePolicy n.law n.policy) plan.nodes consumer node valid.policies there in
    let fit : ParametersFit node.law = of_node (λ (n : PlanNode). ParametersFit n.law) plan.nodes consumer node valid.parameters there in
    let shape : IsShapeOf node.law node.shape = of_node (λ (n : PlanNode). IsShapeOf n.law n.shape) plan.nodes consumer node valid.shapes there in
    has_ports_by node.law node.policy node.shape.inputs (length node.inputs) may fit shape.inputs numbers.inputs

-- a loopback has two ports
two_ports_by : (law : Law) (inputs : List PortKind) → HasInputs law inputs → law ≡ Loopback → length inputs ≡ 2
two_ports_by law inputs has is = (let same = subst (λ (l : Law). HasInputs l inputs) is has in ap length same)

two_ports : (plan : Plan) (consumer : ℕ) (o : Option PlanNode) → IsValid plan → slice_get plan.nodes consumer ≡ o → option_map (λ node. node.law) o ≡ Some Loopback → length (unwrap_or (option_map (λ node. node.inputs) o) plan.outputs) ≡ 2
two_ports plan consumer None valid there law = absurd cc
two_ports plan consumer (Some node) valid there law =
    let numbers : HasNumbers node = of_node HasNumbers plan.nodes consumer node valid.ports there in
    let shape : IsShapeOf node.law node.shape = of_node (λ (n : PlanNode). IsShapeOf n.law n.shape) plan.nodes consumer node valid.shapes there in
    numbers.inputs ∙ two_ports_by node.law node.shape.inputs shape.inputs (some_law node.law law)
  where
    some_law : (l : Law) → Some l ≡ Some Loopback → l ≡ Loopback
    some_law l e = cc

-- queues to which nothing came
none_came : (n : ℕ) → AllByRecursion (λ q. IsLike q empty_queue) (map (queue_of {X = Plain} 0) (replicate n empty_backlog))
none_came zero = tt
none_came (suc n) = (record { gone = refl; packets = refl; bound = refl }, none_came n)

fresh_sets : {laws : Laws} (job : LoggedJob laws) (streams : List (StreamPrefix Plain)) (consumer : ℕ) (inbox : Gathered) → Solves job streams
    → inbox ≡ record { policy = policy_of job.job.plan consumer; pool = record { ports = replicate (length (ports_of job.job.plan consumer)) empty_backlog; spare = 0 } } → HoldsSets job streams consumer 0 inbox
fresh_sets {laws} job streams consumer inbox solves is =
    let ps = ports_of job.job.plan consumer in
    let n = length ps in
    let qs = map (queue_of 0) (replicate n (empty_backlog {X = Plain})) in
    let long : length qs ≡ n = length-map (replicate n empty_backlog) (queue_of 0) ∙ length-replicate n empty_backlog in
    subst (λ (i : Gathered). HoldsSets job streams consumer 0 i) (sym is) (record {
      policy = refl;
      came = replicate n empty_prefix;
      extended = empties_extend n (streams_at streams ps) (length-map ps (stream_of streams)) (streams_are_prefixes streams ps (solution_keeps job.job (job_known job.job solves.is_job) streams solves.solution));
      stands = fresh_stands (policy_of job.job.plan consumer) n qs long (All-from_recursion (λ (q : Waiting Plain). IsLike q empty_queue) qs (none_came n));
    })

fresh_held : {laws : Laws} (job : LoggedJob laws) (streams : List (StreamPrefix Plain)) (consumer : ℕ) (held : Held Plain) → Solves job streams → law_of job.job.plan consumer ≡ Some Loopback → IsFreshLoop held → HoldsLoop job streams consumer 0 held
fresh_held {laws} job streams consumer held solves law fresh =
    let ps = ports_of job.job.plan consumer in
    let two : length ps ≡ 2 = two_ports job.job.plan consumer (slice_get job.job.plan.nodes consumer) solves.is_job.plan refl law in
    record {
      main = empty_prefix;
      loop = empty_prefix;
      extended = empties_extend 2 (streams_at streams ps) (length-map ps (stream_of streams) ∙ two) (streams_are_prefixes streams ps (solution_keeps job.job (job_known job.job solves.is_job) streams solves.solution));
      stands = fresh_loop held fresh;
    }

fresh_waits : {laws : Laws} (job : LoggedJob laws) (streams : List (StreamPrefix Plain)) (consumer : ℕ) (w : Pending) → Solves job streams → HoldsNone job.job.plan consumer w → HoldsWaits job streams consumer 0 w
fresh_waits {laws} job streams consumer (Sets inbox) solves h = (h.0, fresh_sets job streams consumer inbox solves h.1)
fresh_waits {laws} job streams consumer (Loop held) solves h = (h.0, fresh_held job streams consumer held solves h.0 h.1)

pub fresh_lawful : {laws : Laws} (job : LoggedJob laws) (streams : List (StreamPrefix Plain)) (plan : Plan) (consumer : ℕ) (w : Pending) → HoldsNone plan consumer w → consumer ≤ length plan.nodes → job.job.plan ≡ plan → Solves job streams
    → LawfulIntake job consumer (record { claimed = 0; waits = w })
unfolding LawfulIntake
fresh_lawful {laws} job streams plan consumer w fresh le same solves = record {
  streams = streams;
  solves = solves;
  is_there = subst (λ (p : Plan). consumer ≤ length p.nodes) (sym same) le;
  holds = fresh_waits job streams consumer w solves (subst (λ (p : Plan). HoldsNone p consumer w) (sym same) fresh);
}

-- Each job with a valid plan and inputs that fit has what the lemmas on rounds ask for. Further lemmas say what the solution does
-- when the inputs change.
use Rattle.std.proofs.Common.{◌≡◌, ◌+◌, length, length-append, List, [], ◌∷◌, ◌++◌, refl, sym, ap, ap₂, subst, ◌∙◌}
use Rattle.std.specs.List.{AllByRecursion, flat_map}
use Rattle.std.proofs.lemmas.List.Concat.{flat_map-cons, length-flat_map}
use Rattle.std.proofs.lemmas.List.FromFn.{length-range_with_len}
use Rattle.std.proofs.lemmas.List.Elements.{recursion_from_All}
use Rattle.mg_value.specs.Payload.{Plain}
use Rattle.mg_settled.specs.Prefix.{StreamPrefix, IsPrefix}
use Rattle.mg_settled.specs.Extension.{AreExtendedBy}
use Rattle.mg_settled.proofs.Lemmas.{all_by_themselves}
use Rattle.mg_calc.specs.declared.inputs.Inputs.{Inputs}
use Rattle.mg_calc.specs.declared.law.Law.{Law}
use Rattle.mg_calc.specs.declared.law.Law.TheVariants.{Count, SideOnce, Constants, Loopback}
use Rattle.mg_calc.specs.declared.plan.Plan.{Plan}
use Rattle.mg_calc.specs.declared.plan_node.PlanNode.{PlanNode}
use Rattle.mg_calc.specs.declared.port_kind.PortKind.{PortKind}
use Rattle.mg_calc.specs.Plan.{HasNumbers, numbers, node_sides}
use Rattle.mg_calc.specs.Rules.{Laws}
use Rattle.mg_calc.specs.Law.{rules_of}
use Rattle.mg_calc.specs.Shape.{IsShapeOf, HasOutputs, calls_of}
use Rattle.mg_calc.specs.Outcome.{Outcome, source_outcome, node_outcome}
use Rattle.mg_calc.specs.Equations.{Job, IsJob, inputs_of, outcome_by, outcome_of, next_round, IsSolution}
use Rattle.mg_calc.proofs.Rounds.{IsKnown}
use Rattle.mg_calc.proofs.Solutions.{solution_keeps, solution_least}

one_output : (law : Law) (inputs ps : List PortKind) → HasOutputs law inputs ps → law ≡ Loopback → length ps ≡ 1
one_output law inputs ps has e = (let same = subst (λ (l : Law). HasOutputs l inputs ps) e has in ap length same)

loops_of_nodes : (nodes : List PlanNode) → AllByRecursion HasNumbers nodes → AllByRecursion (λ node. IsShapeOf node.law node.shape) nodes → AllByRecursion (λ node. node.law ≡ Loopback → length node.outputs ≡ 1) nodes
loops_of_nodes [] numbers shapes = tt
loops_of_nodes (node ∷ nodes) numbers shapes =
    ((λ e. numbers.0.outputs ∙ one_output node.law node.shape.inputs node.shape.outputs shapes.0.outputs e), loops_of_nodes nodes numbers.1 shapes.1)

pub job_known : (job : Job) → IsJob job → IsKnown job
job_known job is = record {
  loops = loops_of_nodes job.plan.nodes (recursion_from_All HasNumbers job.plan.nodes is.plan.ports) (recursion_from_All (λ (node : PlanNode). IsShapeOf node.law node.shape) job.plan.nodes is.plan.shapes);
  inputs = recursion_from_All IsPrefix job.inputs.streams is.inputs.prefixes;
  streams = sym (length-range_with_len 0 (length job.plan.streams)) ∙ (ap length (sym is.plan.streams)
      ∙ (length-append job.plan.inputs (flat_map (λ node. node.outputs) job.plan.nodes)
      ∙ ap₂ (λ a b. a + b) (sym is.inputs.streams) (length-flat_map (λ node. node.outputs) job.plan.nodes)));
}

-- a node's outcome depends on its input streams, and on nothing else of the job's inputs but the side packets
pub outcome_of_sides_by : (laws : Laws) (law : Law) (plan : Plan) (inputs more : Inputs) (node : PlanNode) (xs : List (StreamPrefix Plain)) → inputs.sides ≡ more.sides
    → outcome_by law (record { plan = plan; inputs = inputs; laws = laws }) xs node ≡ outcome_by law (record { plan = plan; inputs = more; laws = laws }) xs node
outcome_of_sides_by laws (Count count start step) plan inputs more node xs same = ap (λ sides. source_outcome (rules_of laws node.law) node.law (calls_of node.law) (length node.outputs) (node_sides plan sides node)) same
outcome_of_sides_by laws (SideOnce at) plan inputs more node xs same = ap (λ sides. source_outcome (rules_of laws node.law) node.law (calls_of node.law) (length node.outputs) (node_sides plan sides node)) same
outcome_of_sides_by laws Constants plan inputs more node xs same = ap (λ sides. source_outcome (rules_of laws node.law) node.law (calls_of node.law) (length node.outputs) (node_sides plan sides node)) same
outcome_of_sides_by laws Loopback plan inputs more node xs same = refl
outcome_of_sides_by laws law plan inputs more node xs same = ap (λ sides. node_outcome (rules_of laws node.law) node.shape.offset node.policy (length node.outputs) (node_sides plan sides node) (inputs_of xs node)) same

nodes_of_sides : (laws : Laws) (plan : Plan) (inputs more : Inputs) (nodes : List PlanNode) (xs : List (StreamPrefix Plain)) → inputs.sides ≡ more.sides
    → flat_map (λ node. (outcome_of (record { plan = plan; inputs = inputs; laws = laws }) xs node).outputs) nodes ≡ flat_map (λ node. (outcome_of (record { plan = plan; inputs = more; laws = laws }) xs node).outputs) nodes
nodes_of_sides laws plan inputs more [] xs same = refl
nodes_of_sides laws plan inputs more (node ∷ nodes) xs same =
    flat_map-cons (λ n. (outcome_of (record { plan = plan; inputs = inputs; laws = laws }) xs n).outputs) node nodes
    ∙ (ap₂ (λ (a b : List (StreamPrefix Plain)). a ++ b) (ap (λ (o : Outcome). o.outputs) (outcome_of_sides_by laws node.law plan inputs more node xs same)) (nodes_of_sides laws plan inputs more nodes xs same)
    ∙ sym (flat_map-cons (λ n. (outcome_of (record { plan = plan; inputs = more; laws = laws }) xs n).outputs) node nodes))

first_extend : (ps qs cs : List (StreamPrefix Plain)) → AreExtendedBy ps qs → AreExtendedBy (ps ++ cs) (qs ++ cs)
first_extend [] [] cs e = all_by_themselves cs
first_extend [] (q ∷ qs) cs e = absurd e
first_extend (p ∷ ps) [] cs e = absurd e
first_extend (p ∷ ps) (q ∷ qs) cs e = (e.0, first_extend ps qs cs e.1)

-- if the inputs are extended, so is the solution
pub solution_grows : {laws : Laws} (plan : Plan) (inputs more : Inputs) (xs ys : List (StreamPrefix Plain)) → IsJob (record { plan = plan; inputs = inputs; laws = laws }) → IsJob (record { plan = plan; inputs = more; laws = laws })
    → inputs.sides ≡ more.sides → AreExtendedBy inputs.streams more.streams → IsSolution (record { plan = plan; inputs = inputs; laws = laws }) xs → IsSolution (record { plan = plan; inputs = more; laws = laws }) ys → AreExtendedBy xs ys
solution_grows {laws} plan inputs more xs ys is other sides e a b =
    let job : Job = record { plan = plan; inputs = inputs; laws = laws } in
    let longer : Job = record { plan = plan; inputs = more; laws = laws } in
    let keeps = solution_keeps longer (job_known longer other) ys b in
    let follows : AreExtendedBy (next_round job ys) (next_round longer ys) =
    subst (λ (rest : List (StreamPrefix Plain)). AreExtendedBy (inputs.streams ++ rest) (next_round longer ys)) (sym (nodes_of_sides laws plan inputs more plan.nodes ys sides))
    (first_extend inputs.streams more.streams (flat_map (λ node. (outcome_of longer ys node).outputs) plan.nodes) e) in
    solution_least job (job_known job is) xs ys a keeps (subst (λ (zs : List (StreamPrefix Plain)). AreExtendedBy (next_round job ys) zs) b.meets follows)

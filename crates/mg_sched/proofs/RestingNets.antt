-- A net at rest has the solution.
use Rattle.std.proofs.Common.{◌≡◌, ℕ, ◌+◌, ◌-◌, ◌<◌, ◌≤◌, List, [], ◌∷◌, ◌++◌, length, Some, slice_get, refl, sym, ap, subst, ◌∙◌, arith, suc}
use Rattle.std.specs.List.{AllByRecursion, flat_map, range_with_len}
use Rattle.std.proofs.lemmas.List.{length-map, get_or_append_left, ext_get_or}
use Rattle.std.proofs.lemmas.List.FromFn.{length-map-range_with_len, get_or-map-range_with_len}
use Rattle.std.proofs.lemmas.Option.{slice_get_within}
use Rattle.mg_value.specs.Payload.{Plain}
use Rattle.mg_settled.specs.Prefix.{StreamPrefix, IsPrefix, empty_prefix}
use Rattle.mg_settled.specs.Extension.{IsExtendedBy, AreExtendedBy}
use Rattle.mg_settled.proofs.Extending.{all_both_ways}
use Rattle.mg_settled.proofs.Lemmas.{extended_by_itself}
use Rattle.mg_stream.specs.Queue.{StandsFor as IsQueueOf}
use Rattle.mg_calc.specs.Rules.{Laws}
use Rattle.mg_calc.specs.declared.plan.Plan.{Plan}
use Rattle.mg_calc.specs.declared.plan_node.PlanNode.{PlanNode}
use Rattle.mg_calc.specs.declared.plan_stream.PlanStream.{PlanStream}
use Rattle.mg_calc.specs.declared.plan_stream.Producer.{Producer}
use Rattle.mg_calc.specs.Equations.{stream_of, inputs_of, outcome_of, next_round}
use Rattle.mg_calc.specs.Meaning.{count_of, fault_of}
use Rattle.mg_calc.specs.Plan.{IsValid, written_streams}
use Rattle.mg_calc.proofs.Jobs.{job_known}
use Rattle.mg_calc.proofs.Rounds.{streams_extend}
use Rattle.mg_calc.proofs.Solutions.{solution_has_each, solution_least}
use Rattle.mg_node.specs.Views.{IntakeView, EngineView}
use Rattle.mg_node.specs.Job.{LoggedJob, Solves, ports_of, streams_at}
use Rattle.mg_node.specs.Lawful.{LawfulEngine, LawfulIntake, of_node, Agree}
use Rattle.mg_node.specs.Outputs.{laid_at}
use Rattle.mg_node.specs.Resting.{IsResting, HasCome}
use Rattle.mg_node.proofs.Lemmas.{each_prefix, meets_its_equation, rests_count, rests_fault, stood_same}
use Rattle.mg_sched.specs.Views.{NetView}
use Rattle.mg_sched.specs.Places.{place_of}
use Rattle.mg_sched.specs.StandsFor.{StandsFor, StandsForSome, IsRunning}
use Rattle.mg_sched.specs.AtRest.{IsAtRest}
use Rattle.mg_sched.proofs.Finding.{cell_at, found, places, valid}
use Rattle.mg_sched.proofs.PlanStreams.{input_stream, number_there}
use Rattle.mg_sched.proofs.RestingNodes.{cell_rests}
use Rattle.mg_sched.proofs.RestingStreams.{AllLaid, all_laid, input_stands, consumers_come, inputs_come, outputs_stand, stream_there}

-- Lists of prefixes, by number and in parts.

each_extended : (xs ys : List (StreamPrefix Plain)) → length xs ≡ length ys → ((i : ℕ) → i < length xs → IsExtendedBy (stream_of xs i) (stream_of ys i)) → AreExtendedBy xs ys
each_extended [] [] long each = tt
each_extended [] (y ∷ ys) long each = absurd (omega (arith, long))
each_extended (x ∷ xs) [] long each = absurd (omega (arith, long))
each_extended (x ∷ xs) (y ∷ ys) long each = (each 0 (omega arith), each_extended xs ys (omega (arith, long)) (λ i within. each (suc i) (omega (arith, within))))

joined_extended : (xs ys streams : List (StreamPrefix Plain)) (ns ms : List ℕ) → AreExtendedBy xs (streams_at streams ns) → AreExtendedBy ys (streams_at streams ms) → AreExtendedBy (xs ++ ys) (streams_at streams (ns ++ ms))
joined_extended [] ys streams [] ms first second = second
joined_extended [] ys streams (n ∷ ns) ms first second = absurd first
joined_extended (x ∷ xs) ys streams [] ms first second = absurd first
joined_extended (x ∷ xs) ys streams (n ∷ ns) ms first second = (first.0, joined_extended xs ys streams ns ms first.1 second)

nodes_extended : (out : PlanNode → List (StreamPrefix Plain)) (streams : List (StreamPrefix Plain)) (nodes : List PlanNode) → ((n : ℕ) (node : PlanNode) → slice_get nodes n ≡ Some node → AreExtendedBy (out node) (streams_at streams node.outputs))
    → AreExtendedBy (flat_map out nodes) (streams_at streams (flat_map (λ node. node.outputs) nodes))
nodes_extended out streams [] each = tt
nodes_extended out streams (node ∷ nodes) each =
    joined_extended (out node) (flat_map out nodes) streams node.outputs (flat_map (λ x. x.outputs) nodes) (each 0 node refl) (nodes_extended out streams nodes (λ n x there. each (suc n) x there))

-- all streams, in the order of those that are written
pub in_order : (plan : Plan) (streams : List (StreamPrefix Plain)) → IsValid plan → length streams ≡ length plan.streams → streams_at streams (written_streams plan) ≡ streams
in_order plan streams ok long =
    ap (streams_at streams) (ok.streams ∙ ap (λ (n : ℕ). range_with_len 0 n) (sym long))
    ∙ ext_get_or empty_prefix (streams_at streams (range_with_len 0 (length streams))) streams many (λ i within.
    get_or-map-range_with_len (stream_of streams) 0 (length streams) i i empty_prefix (omega (arith, within, many)) (omega arith))
  where
    many : length (streams_at streams (range_with_len 0 (length streams))) ≡ length streams
    many = length-map-range_with_len (stream_of streams) 0 (length streams)

-- What is laid meets the equations.

input_meets : {laws : Laws} (job : LoggedJob laws) (net : NetView) (solution streams : List (StreamPrefix Plain)) (i : ℕ) → StandsFor job net → Solves job solution → AllLaid net solution streams → i < length net.plan.inputs → IsExtendedBy (stream_of job.job.inputs.streams i) (stream_of streams i)
unfolding StandsFor
input_meets {laws} job net solution streams i h solves all within =
    let some : StandsForSome laws net = record { job = job; stands = h } in
    let it = input_stream net.plan (valid net some) i within in
    let long = (places net some).0 in
    let g = found net.engines (length net.plan.nodes + i) (omega (arith, long, within)) in
    let laid = all.each i (slice_get_within net.plan.streams i it.0 it.1) in
    let own = laid.stands it.0 g.0 it.1 (ap (λ (p : Producer). slice_get net.engines (place_of net.plan p)) it.2 ∙ g.1) in
    let whole = input_stands job net solution i g.0 h solves g.1 in
    let same : stream_of streams i ≡ stream_of solution i = stood_same (laid_at g.0 (i - g.0.first)) (stream_of streams i) (stream_of solution i) (stream_of solution i) own whole laid.extended (extended_by_itself (stream_of solution i)) in
    let fit = solves.is_job.inputs.streams in
    let plan = ap (λ (p : Plan). length p.inputs) h.plan in
    let outputs : List (StreamPrefix Plain) = flat_map (λ node. (outcome_of job.job solution node).outputs) job.job.plan.nodes in
    let given : stream_of solution i ≡ stream_of job.job.inputs.streams i =
    ap (λ (ss : List (StreamPrefix Plain)). stream_of ss i) (sym solves.solution.meets) ∙ get_or_append_left job.job.inputs.streams outputs empty_prefix i (omega (arith, fit, plan, within)) in
    subst (IsExtendedBy (stream_of job.job.inputs.streams i)) (sym given ∙ sym same) (extended_by_itself (stream_of job.job.inputs.streams i))

node_meets : {laws : Laws} (job : LoggedJob laws) (net : NetView) (solution streams : List (StreamPrefix Plain)) (n : ℕ) (node : PlanNode) → StandsFor job net → IsRunning net → IsAtRest laws net → Solves job solution → AllLaid net solution streams → AreExtendedBy streams solution
    → slice_get net.plan.nodes n ≡ Some node → AreExtendedBy (outcome_of job.job streams node).outputs (streams_at streams node.outputs)
unfolding StandsFor
node_meets {laws} job net solution streams n node h running rest solves all below there =
    let some : StandsForSome laws net = record { job = job; stands = h } in
    let within = slice_get_within net.plan.nodes n node there in
    let long = (places net some).0 in
    let long_too = (places net some).1 in
    let long_work_queues = (places net some).2 in
    let g = found net.engines n (omega (arith, within, long)) in
    let i = found net.intakes n (omega (arith, within, long_too)) in
    let d = found net.work_queues n (omega (arith, within, long_work_queues)) in
    let cell = cell_at job net n g.0 i.0 d.0 h running within g.1 i.1 d.1 in
    meets_its_equation job n node g.0 i.0 solution streams (streams_at streams node.outputs) (subst (λ (plan : Plan). slice_get plan.nodes n ≡ Some node) h.plan there) cell.lawful_engine cell.lawful_intake cell.agree
    (cell_rests job net n node g.0 i.0 d.0 h running rest there g.1 i.1 d.1)
    (record {
      solves = solves;
      came = inputs_come job net solution streams n node i.0 h running rest solves all there i.1;
      came_of = streams_extend streams solution node.inputs below;
      kept = outputs_stand job net solution streams n node g.0 h running all there g.1;
      laid_of = streams_extend streams solution node.outputs below;
    })

round_meets : {laws : Laws} (job : LoggedJob laws) (net : NetView) (solution streams : List (StreamPrefix Plain)) → StandsFor job net → IsRunning net → IsAtRest laws net → Solves job solution → AllLaid net solution streams → AreExtendedBy streams solution
    → AreExtendedBy (next_round job.job streams) streams
unfolding StandsFor
round_meets {laws} job net solution streams h running rest solves all below =
    let some : StandsForSome laws net = record { job = job; stands = h } in
    let plan = job.job.plan in
    let ok : IsValid plan = solves.is_job.plan in
    let count : length streams ≡ length plan.streams = all.count ∙ ap (λ (p : Plan). length p.streams) h.plan in
    let many : length (streams_at streams plan.inputs) ≡ length plan.inputs = length-map plan.inputs (stream_of streams) in
    let inputs : AreExtendedBy job.job.inputs.streams (streams_at streams plan.inputs) = each_extended job.job.inputs.streams (streams_at streams plan.inputs) (solves.is_job.inputs.streams ∙ sym many) (λ i within.
    let less : i < length plan.inputs = (let fit = solves.is_job.inputs.streams in omega (arith, fit, within)) in
    let none : 0 + i ≡ i = omega arith in
    let at : slice_get plan.inputs i ≡ Some i = ap (λ (ns : List ℕ). slice_get ns i) ok.inputs ∙ number_there 0 (length plan.inputs) i less ∙ ap Some none in
    subst (IsExtendedBy (stream_of job.job.inputs.streams i)) (sym (stream_there streams plan.inputs i i at))
    (input_meets job net solution streams i h solves all (subst (λ (p : Plan). i < length p.inputs) (sym h.plan) less))) in
    let outputs = nodes_extended (λ node. (outcome_of job.job streams node).outputs) streams plan.nodes (λ n node there.
    node_meets job net solution streams n node h running rest solves all below (subst (λ (p : Plan). slice_get p.nodes n ≡ Some node) (sym h.plan) there)) in
    subst (AreExtendedBy (next_round job.job streams)) (in_order plan streams ok count)
    (joined_extended job.job.inputs.streams (flat_map (λ node. (outcome_of job.job streams node).outputs) plan.nodes) streams plan.inputs (flat_map (λ node. node.outputs) plan.nodes) inputs outputs)

-- So it is the solution.
pub rests_solved : {laws : Laws} (job : LoggedJob laws) (net : NetView) (solution streams : List (StreamPrefix Plain)) → StandsFor job net → IsRunning net → IsAtRest laws net → Solves job solution → AllLaid net solution streams → streams ≡ solution
unfolding StandsFor
rests_solved {laws} job net solution streams h running rest solves all =
    let known = job_known job.job solves.is_job in
    let plan : length net.plan.streams ≡ length job.job.plan.streams = ap (λ (p : Plan). length p.streams) h.plan in
    let count = all.count in
    let each : length solution ≡ length job.job.plan.streams = solution_has_each job.job known solution solves.solution in
    let below : AreExtendedBy streams solution = each_extended streams solution (count ∙ plan ∙ sym each) (λ i within. (all.each i (omega (arith, within, count))).extended) in
    let prefixes : AllByRecursion IsPrefix streams = each_prefix streams (λ i within. (all.each i (omega (arith, within, count))).prefix) in
    all_both_ways streams solution below (solution_least job.job known solution streams solves.solution prefixes (round_meets job net solution streams h running rest solves all below))

pub rests_with_streams : {laws : Laws} (job : LoggedJob laws) (net : NetView) (solution : List (StreamPrefix Plain)) (number : ℕ) (stream : PlanStream) (engine : EngineView) → StandsFor job net → IsRunning net → IsAtRest laws net → Solves job solution
    → slice_get net.plan.streams number ≡ Some stream → slice_get net.engines (place_of net.plan stream.producer) ≡ Some engine → IsQueueOf (laid_at engine (number - engine.first)) (stream_of solution number)
rests_with_streams {laws} job net solution number stream engine h running rest solves there at =
    let laid = all_laid job net solution h running solves in
    let same : laid.0 ≡ solution = rests_solved job net solution laid.0 h running rest solves laid.1 in
    subst (λ (ss : List (StreamPrefix Plain)). IsQueueOf (laid_at engine (number - engine.first)) (stream_of ss number)) same
    ((laid.1.each number (slice_get_within net.plan.streams number stream there)).stands stream engine there at)

-- Of each node.

pub record HasNode {laws : Laws} (job : LoggedJob laws) (net : NetView) (solution : List (StreamPrefix Plain)) (number : ℕ) (node : PlanNode) (engine : EngineView) : Type 0 where
  pub there : slice_get job.job.plan.nodes number ≡ Some node
  pub intake : IntakeView
  pub lawful_engine : LawfulEngine job (of_node number) engine
  pub lawful_intake : LawfulIntake job number intake
  pub agree : Agree engine intake
  pub rests : IsResting engine intake
  pub came : HasCome intake (inputs_of solution node)

pub has_node : {laws : Laws} (job : LoggedJob laws) (net : NetView) (solution : List (StreamPrefix Plain)) (number : ℕ) (node : PlanNode) (engine : EngineView) → StandsFor job net → IsRunning net → IsAtRest laws net → Solves job solution
    → slice_get net.plan.nodes number ≡ Some node → slice_get net.engines number ≡ Some engine → HasNode job net solution number node engine
unfolding StandsFor
has_node {laws} job net solution number node engine h running rest solves there at =
    let some : StandsForSome laws net = record { job = job; stands = h } in
    let within = slice_get_within net.plan.nodes number node there in
    let long = (places net some).1 in
    let long_work_queues = (places net some).2 in
    let i = found net.intakes number (omega (arith, within, long)) in
    let d = found net.work_queues number (omega (arith, within, long_work_queues)) in
    let cell = cell_at job net number engine i.0 d.0 h running within at i.1 d.1 in
    let laid = all_laid job net solution h running solves in
    let same : laid.0 ≡ solution = rests_solved job net solution laid.0 h running rest solves laid.1 in
    record {
      there = subst (λ (plan : Plan). slice_get plan.nodes number ≡ Some node) h.plan there;
      intake = i.0;
      lawful_engine = cell.lawful_engine;
      lawful_intake = cell.lawful_intake;
      agree = cell.agree;
      rests = cell_rests job net number node engine i.0 d.0 h running rest there at i.1 d.1;
      came = subst (λ (ss : List (StreamPrefix Plain)). HasCome i.0 (inputs_of ss node)) same (inputs_come job net solution laid.0 number node i.0 h running rest solves laid.1 there i.1);
    }

pub rests_with_counts : {laws : Laws} (job : LoggedJob laws) (net : NetView) (solution : List (StreamPrefix Plain)) (number : ℕ) (node : PlanNode) (engine : EngineView) → StandsFor job net → IsRunning net → IsAtRest laws net → Solves job solution
    → slice_get net.plan.nodes number ≡ Some node → slice_get net.engines number ≡ Some engine → engine.laid ≡ count_of job.job solution node
rests_with_counts {laws} job net solution number node engine h running rest solves there at =
    let n = has_node job net solution number node engine h running rest solves there at in
    rests_count job number node engine n.intake solution solves n.there n.lawful_engine n.lawful_intake n.agree n.rests n.came

pub rests_with_faults : {laws : Laws} (job : LoggedJob laws) (net : NetView) (solution : List (StreamPrefix Plain)) (number : ℕ) (node : PlanNode) (engine : EngineView) → StandsFor job net → IsRunning net → IsAtRest laws net → Solves job solution
    → slice_get net.plan.nodes number ≡ Some node → slice_get net.engines number ≡ Some engine → engine.fault ≡ fault_of job.job solution (number, node)
rests_with_faults {laws} job net solution number node engine h running rest solves there at =
    let n = has_node job net solution number node engine h running rest solves there at in
    rests_fault job number node engine n.intake solution solves n.there n.lawful_engine n.lawful_intake n.agree n.rests n.came

-- And at each consumer, that of the graph's outputs among them.
pub rests_with_inputs : {laws : Laws} (job : LoggedJob laws) (net : NetView) (solution : List (StreamPrefix Plain)) (consumer : ℕ) (intake : IntakeView) → StandsFor job net → IsRunning net → IsAtRest laws net → Solves job solution
    → consumer ≤ length net.plan.nodes → slice_get net.intakes consumer ≡ Some intake → HasCome intake (streams_at solution (ports_of net.plan consumer))
rests_with_inputs {laws} job net solution consumer intake h running rest solves upto to =
    let laid = all_laid job net solution h running solves in
    let same : laid.0 ≡ solution = rests_solved job net solution laid.0 h running rest solves laid.1 in
    subst (λ (ss : List (StreamPrefix Plain)). HasCome intake (streams_at ss (ports_of net.plan consumer))) same (consumers_come job net solution laid.0 consumer intake h running rest solves laid.1 upto to)

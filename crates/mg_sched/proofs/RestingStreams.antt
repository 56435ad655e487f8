-- What a net at rest has laid of each stream, and that it is what came at each port that reads the stream.
use Rattle.std.proofs.Common.{◌≡◌, ℕ, zero, suc, ◌+◌, ◌-◌, ◌<◌, ◌≤◌, List, [], ◌∷◌, length, length-drop, take, get_or, Option, Some, option_map, slice_get, refl, sym, ap, subst, ◌∙◌, arith}
use Rattle.std.proofs.Math.Seq.{take-append_seam}
use Rattle.std.proofs.lemmas.List.{length-map}
use Rattle.std.proofs.lemmas.Option.{same_Some, slice_get_within, slice_get-get_or}
use Rattle.mg_value.specs.Payload.{Plain}
use Rattle.mg_settled.specs.Prefix.{StreamPrefix, IsPrefix, empty_prefix}
use Rattle.mg_settled.specs.Extension.{IsExtendedBy}
use Rattle.mg_settled.proofs.Extending.{same_prefix}
use Rattle.mg_settled.proofs.Lemmas.{extended_by_itself}
use Rattle.mg_stream.specs.Queue.{Waiting, StandsFor as IsQueueOf}
use Rattle.mg_stream.specs.Pool.{Backlog, empty_backlog, queue_of}
use Rattle.mg_calc.specs.Rules.{Laws}
use Rattle.mg_calc.specs.declared.plan.Plan.{Plan}
use Rattle.mg_calc.specs.declared.plan_node.PlanNode.{PlanNode}
use Rattle.mg_calc.specs.declared.plan_stream.PlanStream.{PlanStream}
use Rattle.mg_calc.specs.declared.plan_stream.Producer.{Producer}
use Rattle.mg_calc.specs.declared.plan_stream.Producer.TheVariants.{Input, Node}
use Rattle.mg_calc.specs.Equations.{stream_of, inputs_of}
use Rattle.mg_calc.proofs.Rounds.{stream_extends}
use Rattle.mg_node.specs.Views.{IntakeView, EngineView}
use Rattle.mg_node.specs.Carried.{HasReached}
use Rattle.mg_node.specs.Job.{LoggedJob, Solves, ports_of, streams_at}
use Rattle.mg_node.specs.Lawful.{StandForAll, LawfulEngine, of_node}
use Rattle.mg_node.specs.Outputs.{laid_at}
use Rattle.mg_node.specs.Ports.{port_queue}
use Rattle.mg_node.specs.Resting.{HasCome}
use Rattle.mg_node.proofs.Lemmas.{engine_known, input_has_laid, input_known, intake_has_reached, intake_ports, node_has_laid, zip_at, zip_long}
use Rattle.mg_sched.specs.Views.{NetView}
use Rattle.mg_sched.specs.Places.{place_of, source_of, first_edge}
use Rattle.mg_sched.specs.StandsFor.{StandsFor, StandsForSome, IsRunning}
use Rattle.mg_sched.specs.AtRest.{IsAtRest}
use Rattle.mg_sched.proofs.Carrying.{intake_lawful, source_there}
use Rattle.mg_sched.proofs.Finding.{found, valid, places}
use Rattle.mg_sched.proofs.PlanEdges.{edge_ends, edge_number, edge_stream, ports_of_node}
use Rattle.mg_sched.proofs.PlanStreams.{WrittenBy, node_streams, number_of, producer_there}
use Rattle.mg_sched.proofs.RestingEdges.{HasAllCome, edge_rests}
use Rattle.mg_sched.proofs.Working.{lawful_at}

-- a stream among those of some numbers
pub stream_there : (xs : List (StreamPrefix Plain)) (numbers : List ℕ) (i s : ℕ) → slice_get numbers i ≡ Some s → stream_of (streams_at xs numbers) i ≡ stream_of xs s
stream_there xs [] i s at = absurd cc
stream_there xs (n ∷ numbers) zero s at = ap (stream_of xs) (same_Some n s at)
stream_there xs (n ∷ numbers) (suc i) s at = stream_there xs numbers i s at

-- what is laid of a stream: the output at which it is written stands for it, and the solution's stream extends it
pub record IsLaid (net : NetView) (solution : List (StreamPrefix Plain)) (number : ℕ) (s : StreamPrefix Plain) : Type 0 where
  pub prefix : IsPrefix s
  pub stands : (stream : PlanStream) (engine : EngineView) → slice_get net.plan.streams number ≡ Some stream → slice_get net.engines (place_of net.plan stream.producer) ≡ Some engine → IsQueueOf (laid_at engine (number - engine.first)) s
  pub extended : IsExtendedBy s (stream_of solution number)

-- By who writes it.

record IsLaidBy (net : NetView) (solution : List (StreamPrefix Plain)) (number : ℕ) (p : Producer) : Type 0 where
  laid : StreamPrefix Plain
  prefix : IsPrefix laid
  stands : (engine : EngineView) → slice_get net.engines (place_of net.plan p) ≡ Some engine → IsQueueOf (laid_at engine (number - engine.first)) laid
  extended : IsExtendedBy laid (stream_of solution number)

at_output : (engine : EngineView) (output number : ℕ) (whole : List (StreamPrefix Plain)) → StandForAll engine.outputs whole → number ≡ engine.first + output → output < length whole → IsQueueOf (laid_at engine (number - engine.first)) (stream_of whole output)
at_output engine output number whole stand is within =
    let same : output ≡ number - engine.first = omega (arith, is) in
    let long = zip_long (λ (b : Backlog Plain) (s : StreamPrefix Plain). IsQueueOf (queue_of 0 b) s) engine.outputs whole stand in
    subst (λ (k : ℕ). IsQueueOf (laid_at engine k) (stream_of whole output)) same
    (zip_at (λ (b : Backlog Plain) (s : StreamPrefix Plain). IsQueueOf (queue_of 0 b) s) engine.outputs whole output empty_backlog empty_prefix stand (omega (arith, long, within)))

pub input_stands : {laws : Laws} (job : LoggedJob laws) (net : NetView) (solution : List (StreamPrefix Plain)) (i : ℕ) (engine : EngineView) → StandsFor job net → Solves job solution → slice_get net.engines (length net.plan.nodes + i) ≡ Some engine
    → IsQueueOf (laid_at engine (i - engine.first)) (stream_of solution i)
unfolding StandsFor
input_stands {laws} job net solution i engine h solves at =
    let lawful = h.inputs i engine at in
    let first = (input_known job i engine lawful).first in
    at_output engine 0 i (stream_of solution i ∷ []) (input_has_laid job i engine solution solves lawful) (omega (arith, first)) (omega arith)

by_producer : {laws : Laws} (job : LoggedJob laws) (net : NetView) (solution : List (StreamPrefix Plain)) (number : ℕ) (p : Producer) → StandsFor job net → IsRunning net → Solves job solution → WrittenBy net.plan number p → IsLaidBy net solution number p
unfolding StandsFor
by_producer {laws} job net solution number (Input i) h running solves w =
    let some : StandsForSome laws net = record { job = job; stands = h } in
    let long = (places net some).0 in
    let less = w.1 in
    let g = found net.engines (length net.plan.nodes + i) (omega (arith, long, less)) in
    let stands : (engine : EngineView) → slice_get net.engines (length net.plan.nodes + i) ≡ Some engine → IsQueueOf (laid_at engine (number - engine.first)) (stream_of solution number) = λ engine at.
    subst (λ (k : ℕ). IsQueueOf (laid_at engine (k - engine.first)) (stream_of solution k)) w.0 (input_stands job net solution i engine h solves at) in
    record { laid = stream_of solution number; prefix = (stands g.0 g.1).prefix; stands = stands; extended = extended_by_itself (stream_of solution number) }
by_producer {laws} job net solution number (Node n port) h running solves w =
    let some : StandsForSome laws net = record { job = job; stands = h } in
    let node = w.0 in
    let within = slice_get_within net.plan.nodes n node w.1 in
    let long = (places net some).0 in
    let g = found net.engines n (omega (arith, long, within)) in
    let lawful : LawfulEngine job (of_node n) g.0 = lawful_at net n g.0 some running within g.1 in
    let there : slice_get job.job.plan.nodes n ≡ Some node = subst (λ (plan : Plan). slice_get plan.nodes n ≡ Some node) h.plan w.1 in
    let known = engine_known job n g.0 node lawful there in
    let has = node_has_laid job n node g.0 solution solves there lawful in
    let place = number_of g.0.first (length node.outputs) port number (ap (λ (ns : List ℕ). slice_get ns port) (sym known.set_up.first) ∙ w.2) in
    let outputs = known.outputs in
    let same_long = zip_long (λ (b : Backlog Plain) (s : StreamPrefix Plain). IsQueueOf (queue_of 0 b) s) g.0.outputs has.laid has.kept in
    let less = place.0 in
    let stands = at_output g.0 port number has.laid has.kept place.1 (omega (arith, outputs, same_long, less)) in
    record {
      laid = stream_of has.laid port;
      prefix = stands.prefix;
      stands = λ engine at. subst (λ (e : EngineView). IsQueueOf (laid_at e (number - e.first)) (stream_of has.laid port)) (same_Some g.0 engine (sym g.1 ∙ at)) stands;
      extended = subst (IsExtendedBy (stream_of has.laid port)) (stream_there solution node.outputs port number w.2) (stream_extends has.laid (streams_at solution node.outputs) port has.extended);
    }

pub one_laid : {laws : Laws} (job : LoggedJob laws) (net : NetView) (solution : List (StreamPrefix Plain)) (number : ℕ) → StandsFor job net → IsRunning net → Solves job solution → number < length net.plan.streams → (s : StreamPrefix Plain) × IsLaid net solution number s
one_laid {laws} job net solution number h running solves within =
    let it = producer_there net.plan (valid net (record { job = job; stands = h })) number within in
    let by = by_producer job net solution number it.0.producer h running solves it.2 in (
      by.laid,
      record {
        prefix = by.prefix;
        stands = λ stream engine there at. by.stands engine (ap (λ (x : PlanStream). slice_get net.engines (place_of net.plan x.producer)) (same_Some it.0 stream (sym it.1 ∙ there)) ∙ at);
        extended = by.extended;
      },
    )

-- All streams.

pub record AllLaid (net : NetView) (solution streams : List (StreamPrefix Plain)) : Type 0 where
  pub count : length streams ≡ length net.plan.streams
  pub each : (number : ℕ) → number < length net.plan.streams → IsLaid net solution number (stream_of streams number)

at_each : (P : ℕ → StreamPrefix Plain → Type 0) (x : StreamPrefix Plain) (xs : List (StreamPrefix Plain)) (n : ℕ) → P 0 x → ((k : ℕ) → k < n → P (suc k) (stream_of xs k)) → (k : ℕ) → k < suc n → P k (stream_of (x ∷ xs) k)
at_each P x xs n first later zero within = first
at_each P x xs n first later (suc k) within = later k (omega (arith, within))

in_list : (P : ℕ → StreamPrefix Plain → Type 0) (n : ℕ) → ((k : ℕ) → k < n → (x : StreamPrefix Plain) × P k x) → (xs : List (StreamPrefix Plain)) × (length xs ≡ n) × ((k : ℕ) → k < n → P k (stream_of xs k))
in_list P zero each = ([], refl, λ k within. absurd (omega (arith, within)))
in_list P (suc n) each =
    let first = each 0 (omega arith) in
    let rest = in_list (λ k. P (suc k)) n (λ k within. each (suc k) (omega (arith, within))) in
    (first.0 ∷ rest.0, ap suc rest.1, at_each P first.0 rest.0 n first.1 rest.2)

pub all_laid : {laws : Laws} (job : LoggedJob laws) (net : NetView) (solution : List (StreamPrefix Plain)) → StandsFor job net → IsRunning net → Solves job solution → (streams : List (StreamPrefix Plain)) × AllLaid net solution streams
all_laid {laws} job net solution h running solves =
    let all = in_list (IsLaid net solution) (length net.plan.streams) (λ number within. one_laid job net solution number h running solves within) in
    (all.0, record { count = all.1; each = all.2 })

-- What is laid at the outputs of a node.

all_stand : (bs : List (Backlog Plain)) (ss : List (StreamPrefix Plain)) → length bs ≡ length ss → ((i : ℕ) → i < length ss → IsQueueOf (queue_of 0 (get_or bs i empty_backlog)) (stream_of ss i)) → StandForAll bs ss
all_stand [] [] long each = tt
all_stand [] (s ∷ ss) long each = absurd (omega (arith, long))
all_stand (b ∷ bs) [] long each = absurd (omega (arith, long))
all_stand (b ∷ bs) (s ∷ ss) long each = (each 0 (omega arith), all_stand bs ss (omega (arith, long)) (λ i within. each (suc i) (omega (arith, within))))

pub outputs_stand : {laws : Laws} (job : LoggedJob laws) (net : NetView) (solution streams : List (StreamPrefix Plain)) (n : ℕ) (node : PlanNode) (engine : EngineView) → StandsFor job net → IsRunning net → AllLaid net solution streams → slice_get net.plan.nodes n ≡ Some node
    → slice_get net.engines n ≡ Some engine → StandForAll engine.outputs (streams_at streams node.outputs)
unfolding StandsFor
outputs_stand {laws} job net solution streams n node engine h running all there at =
    let some : StandsForSome laws net = record { job = job; stands = h } in
    let known = engine_known job n engine node (lawful_at net n engine some running (slice_get_within net.plan.nodes n node there) at) (subst (λ (plan : Plan). slice_get plan.nodes n ≡ Some node) h.plan there) in
    let outputs = known.outputs in
    let many = length-map node.outputs (stream_of streams) in
    all_stand engine.outputs (streams_at streams node.outputs) (omega (arith, outputs, many)) (λ i within.
    let less : i < length node.outputs = omega (arith, within, many) in
    let s = get_or node.outputs i 0 in
    let stream_at = slice_get-get_or node.outputs i 0 less in
    let it = node_streams net.plan (valid net some) n i s node there stream_at in
    let number = number_of engine.first (length node.outputs) i s (ap (λ (ns : List ℕ). slice_get ns i) (sym known.set_up.first) ∙ stream_at) in
    let place : s - engine.first ≡ i = omega (arith, number.1) in
    let stands = (all.each s (slice_get_within net.plan.streams s it.0 it.1)).stands it.0 engine it.1 (ap (λ (p : Producer). slice_get net.engines (place_of net.plan p)) it.2 ∙ at) in
    subst (IsQueueOf (laid_at engine i)) (sym (stream_there streams node.outputs i s stream_at)) (subst (λ (k : ℕ). IsQueueOf (laid_at engine k) (stream_of streams s)) place stands))

-- What came at the ports of a consumer.

pub same_came : (o q : Waiting Plain) (s t u : StreamPrefix Plain) → HasAllCome o q → IsQueueOf o s → IsQueueOf q t → IsExtendedBy s u → IsExtendedBy t u → s ≡ t
same_came o q s t u all h k e f =
    let gone = h.gone in
    let gone_too = k.gone in
    let count = all.count in
    let long : length s.packets ≡ length t.packets = omega (arith, gone, gone_too, count, ap length h.waiting, ap length k.waiting, length-drop o.gone s.packets, length-drop q.gone t.packets) in
    same_prefix s t
    (sym (take-append_seam s.packets e.further) ∙ ap (take (length s.packets)) (sym e.packets) ∙ ap (λ (n : ℕ). take n u.packets) long ∙ ap (take (length t.packets)) f.packets ∙ take-append_seam t.packets f.further)
    (sym h.bound ∙ sym all.bound ∙ k.bound)

port_rests : {laws : Laws} (job : LoggedJob laws) (net : NetView) (solution streams : List (StreamPrefix Plain)) (consumer port : ℕ) (intake : IntakeView) → StandsFor job net → IsRunning net → IsAtRest laws net → AllLaid net solution streams
    → consumer ≤ length net.plan.nodes → slice_get net.intakes consumer ≡ Some intake → HasReached intake (streams_at solution (ports_of net.plan consumer)) → port < length (ports_of net.plan consumer)
    → IsQueueOf (port_queue intake.waits port) (stream_of (streams_at streams (ports_of net.plan consumer)) port)
unfolding StandsFor
port_rests {laws} job net solution streams consumer port intake h running rest all upto to reached within =
    let some : StandsForSome laws net = record { job = job; stands = h } in
    let ok = valid net some in
    let ports = ports_of net.plan consumer in
    let edge = edge_number net.plan ok consumer port upto within in
    let e = edge.0 in
    let number = first_edge net.plan consumer + port in
    let read : slice_get ports port ≡ Some e.stream =
    ap (λ (k : ℕ). slice_get ports k) (sym edge.3) ∙ ap (λ (k : ℕ). slice_get (ports_of net.plan k) e.port) (sym edge.2) ∙ (edge_ends net.plan ok number e edge.1).1 in
    let written = edge_stream net.plan ok number e edge.1 in
    let it = producer_there net.plan ok e.stream written in
    let place = place_of net.plan it.0.producer in
    let from : source_of net.plan e ≡ Some place = ap (λ (o : Option PlanStream). option_map (place_of net.plan) (option_map (λ s. s.producer) o)) it.1 in
    let g = found net.engines place (source_there net number place e some edge.1 from) in
    let came : HasAllCome (laid_at g.0 (e.stream - g.0.first)) (port_queue intake.waits port) =
    subst (λ (k : ℕ). HasAllCome (laid_at g.0 (e.stream - g.0.first)) (port_queue intake.waits k)) edge.3
    (edge_rests job net number place e g.0 intake h running rest edge.1 from g.1 (ap (λ (k : ℕ). slice_get net.intakes k) edge.2 ∙ to)) in
    let laid = all.each e.stream written in
    let many = length-map ports (stream_of solution) in
    let long = zip_long IsExtendedBy reached.came (streams_at solution ports) reached.extended in
    let stands = reached.stands.stands port (omega (arith, many, long, within)) in
    let further : IsExtendedBy (stream_of reached.came port) (stream_of solution e.stream) =
    subst (IsExtendedBy (stream_of reached.came port)) (stream_there solution ports port e.stream read) (stream_extends reached.came (streams_at solution ports) port reached.extended) in
    let same : stream_of streams e.stream ≡ stream_of reached.came port =
    same_came (laid_at g.0 (e.stream - g.0.first)) (port_queue intake.waits port) (stream_of streams e.stream) (stream_of reached.came port) (stream_of solution e.stream) came (laid.stands it.0 g.0 it.1 g.1) stands laid.extended further in
    subst (IsQueueOf (port_queue intake.waits port)) (sym same ∙ sym (stream_there streams ports port e.stream read)) stands

pub consumers_come : {laws : Laws} (job : LoggedJob laws) (net : NetView) (solution streams : List (StreamPrefix Plain)) (consumer : ℕ) (intake : IntakeView) → StandsFor job net → IsRunning net → IsAtRest laws net → Solves job solution → AllLaid net solution streams
    → consumer ≤ length net.plan.nodes → slice_get net.intakes consumer ≡ Some intake → HasCome intake (streams_at streams (ports_of net.plan consumer))
unfolding StandsFor
consumers_come {laws} job net solution streams consumer intake h running rest solves all upto to =
    let lawful = intake_lawful job net consumer intake h running upto to in
    let ports = ports_of net.plan consumer in
    let many = length-map ports (stream_of streams) in
    let reached : HasReached intake (streams_at solution ports) = subst (λ (plan : Plan). HasReached intake (streams_at solution (ports_of plan consumer))) (sym h.plan) (intake_has_reached job consumer intake solution solves lawful) in
    record {
      ports = many ∙ ap (λ (plan : Plan). length (ports_of plan consumer)) h.plan ∙ sym (intake_ports job consumer intake lawful);
      stands = λ port within. port_rests job net solution streams consumer port intake h running rest all upto to reached (omega (arith, many, within));
    }

pub inputs_come : {laws : Laws} (job : LoggedJob laws) (net : NetView) (solution streams : List (StreamPrefix Plain)) (n : ℕ) (node : PlanNode) (intake : IntakeView) → StandsFor job net → IsRunning net → IsAtRest laws net → Solves job solution → AllLaid net solution streams
    → slice_get net.plan.nodes n ≡ Some node → slice_get net.intakes n ≡ Some intake → HasCome intake (inputs_of streams node)
inputs_come {laws} job net solution streams n node intake h running rest solves all there to =
    let less = slice_get_within net.plan.nodes n node there in
    subst (λ (ns : List ℕ). HasCome intake (streams_at streams ns)) (ports_of_node net.plan n node there)
    (consumers_come job net solution streams n intake h running rest solves all (omega (arith, less)) to)

-- A net that was made stands for its job: no node is begun, and nothing came.
use Rattle.std.proofs.Common.{◌≡◌, ℕ, zero, suc, ◌+◌, ◌-◌, ◌≤◌, ◌==◌, if◌then◌else◌, List, [], ◌∷◌, ◌++◌, length, replicate, Bool, true, false, nat_lt, not, Some, slice_get, get_or, inl, inr, subst, ap, sym, refl, ◌∙◌, arith}
use Rattle.std.proofs.lemmas.Bool.{lt-ltb, le-ltb}
use Rattle.std.proofs.lemmas.List.{length-replicate}
use Rattle.std.proofs.lemmas.Option.{slice_get_within, get_or_from_slice_get}
use Rattle.mg_time.specs.Time.{pre_stream}
use Rattle.mg_value.specs.Payload.{Plain}
use Rattle.mg_value.specs.Packet.{Stamped}
use Rattle.mg_settled.specs.Prefix.{StreamPrefix, IsPrefix, empty_prefix}
use Rattle.mg_stream.specs.Queue.{Waiting, IsLike, empty_queue}
use Rattle.mg_stream.specs.Pool.{Backlog, empty_backlog, queue_of}
use Rattle.mg_loopback.specs.Loopback.{Held, queue_at, IsFresh as IsFreshLoop}
use Rattle.mg_policy.specs.Inbox.{Gathered}
use Rattle.mg_calc.specs.Rules.{Laws}
use Rattle.mg_calc.specs.declared.edge.Edge.{Edge}
use Rattle.mg_calc.specs.declared.inputs.Inputs.{Inputs}
use Rattle.mg_calc.specs.declared.plan.Plan.{Plan}
use Rattle.mg_calc.specs.declared.plan_node.PlanNode.{PlanNode}
use Rattle.mg_calc.specs.Equations.{IsJob}
use Rattle.mg_calc.specs.Told.{BoxTold}
use Rattle.mg_route.specs.HolderView.{HolderView}
use Rattle.mg_calc.proofs.Earlier.{get_map}
use Rattle.mg_node.specs.declared.role.Role.{Role}
use Rattle.mg_node.specs.declared.role.Role.TheVariants.{Source}
use Rattle.mg_node.specs.declared.pending.Pending.{Pending}
use Rattle.mg_node.specs.declared.pending.Pending.TheVariants.{Sets, Loop}
use Rattle.mg_node.specs.Views.{IntakeView, EngineView}
use Rattle.mg_node.specs.Job.{LoggedJob, ports_of}
use Rattle.mg_node.specs.Claims.{has_ended}
use Rattle.mg_node.specs.Fresh.{own_told, fresh_engine}
use Rattle.mg_node.specs.Intakes.{HoldsNone}
use Rattle.mg_node.specs.Lawful.{of_input, LawfulEngine, AgreeBy}
use Rattle.mg_node.specs.Leading.{output_at}
use Rattle.mg_node.specs.Outputs.{laid_at, input_engine, kept_whole}
use Rattle.mg_node.specs.Ports.{port_queue}
use Rattle.mg_node.proofs.Lemmas.{at_each, fresh_unbegun, input_lawful, some_same}
use Rattle.mg_throttle.specs.declared.queue.Queue.{Queue}
use Rattle.mg_throttle.specs.Throttle.{QueueLimits, AreLimitsOf, limit_of, new_queue}
use Rattle.mg_sched.specs.Views.{WorkQueueView, NetView}
use Rattle.mg_sched.specs.Places.{place_of}
use Rattle.mg_sched.specs.Writers.{output_of}
use Rattle.mg_sched.specs.Looks.{HasFrom}
use Rattle.mg_sched.specs.StandsFor.{HasWorks, IsCell, KnowsQueue, IsNetOf, StandsFor}
use Rattle.mg_sched.specs.Made.{job_of, BoxesFit, IsMade}
use Rattle.mg_sched.specs.Code.Made.{AtPlaces, IsEngineAt, IsIntakeAt, IsWorkQueueAt, HasParts, IsLeftOver, first_holder}
use Rattle.mg_sched.proofs.HandedOut.{below}
use Rattle.mg_sched.proofs.Solved.{solved}
use Rattle.mg_sched.proofs.NewBoxes.{there_at, given_of, handed, placed, spare, first_is}

-- Engines.

front : {X : Type 0} (xs ys : List X) (i : ℕ) (x : X) → slice_get xs i ≡ Some x → slice_get (xs ++ ys) i ≡ Some x
front {X} [] ys i x there = absurd cc
front {X} (z ∷ xs) ys zero x there = there
front {X} (z ∷ xs) ys (suc i) x there = front xs ys i x there

-- the engine of a graph input has the stream that the job has for it, and this stream is in the solution
input_engine_lawful : {laws : Laws} (plan : Plan) (inputs : Inputs) (boxes : List BoxTold) (input : ℕ) (s : StreamPrefix Plain) → IsJob (record { plan = plan; inputs = inputs; laws = laws }) → slice_get inputs.streams input ≡ Some s
    → LawfulEngine (job_of laws plan inputs boxes) (of_input input) (input_engine input (get_or plan.inputs input 0) s)
input_engine_lawful {laws} plan inputs boxes input s is there =
    let found = solved (job_of laws plan inputs boxes) is in
    let same = is.inputs.streams in
    let less = slice_get_within inputs.streams input s there in
    input_lawful (job_of laws plan inputs boxes) found.0 plan input s (omega (arith, same, less)) (at_each IsPrefix inputs.streams input s is.inputs.prefixes there) refl found.1
    (get_or_from_slice_get found.0 input s empty_prefix (ap (λ (ss : List (StreamPrefix Plain)). slice_get ss input) (sym found.1.solution.meets) ∙ front inputs.streams _ input s there))

-- at an output nothing was given up, and its bound is at least the first
pub record GivesAll (q : Waiting Plain) : Type 0 where
  pub gone : q.gone ≡ 0
  pub bound : pre_stream ≤ q.bound

gives_none : (n i : ℕ) → GivesAll (queue_of 0 (get_or (replicate n (empty_backlog {X = Plain})) i empty_backlog))
gives_none zero i = record { gone = refl; bound = omega arith }
gives_none (suc n) zero = record { gone = refl; bound = omega arith }
gives_none (suc n) (suc i) = gives_none n i

gives_input : (s : StreamPrefix Plain) (i : ℕ) → IsPrefix s → GivesAll (queue_of 0 (get_or (kept_whole s ∷ []) i empty_backlog))
gives_input s zero is = record { gone = refl; bound = is.opened }
gives_input s (suc i) is = record { gone = refl; bound = omega arith }

pub gives_all : {laws : Laws} (plan : Plan) (inputs : Inputs) (told : ℕ → PlanNode → HolderView) (engines : List EngineView) (place : ℕ) (engine : EngineView) (e : Edge) → IsJob (record { plan = plan; inputs = inputs; laws = laws })
    → length engines ≡ length plan.nodes + length plan.inputs → AtPlaces (IsEngineAt plan inputs.streams told) engines → slice_get engines place ≡ Some engine → GivesAll (output_at engine e)
gives_all {laws} plan inputs told engines place engine e is count all there = elim (below place (length plan.nodes)) [
  | inl less ↦ (let node = there_at plan.nodes place less.1 in
      subst (λ (v : EngineView). GivesAll (output_at v e)) (sym ((all place engine there).node node.0 node.1)) (gives_none (length node.0.outputs) (e.stream - get_or node.0.outputs 0 0)))
  | inr past ↦ (let most = slice_get_within engines place engine there in let same = is.inputs.streams in let more = past.1 in
      let s = there_at inputs.streams (place - length plan.nodes) (omega (arith, most, same, more, count)) in
      subst (λ (v : EngineView). GivesAll (output_at v e)) (sym ((all place engine there).input (place - length plan.nodes) s.0 (omega (arith, more)) s.1))
      (gives_input s.0 (e.stream - get_or plan.inputs (place - length plan.nodes) 0) (at_each IsPrefix inputs.streams _ s.0 is.inputs.prefixes s.1)))
]

gives_at : {laws : Laws} (plan : Plan) (inputs : Inputs) (told : ℕ → PlanNode → HolderView) (engines : List EngineView) (place k : ℕ) (engine : EngineView) → IsJob (record { plan = plan; inputs = inputs; laws = laws })
    → length engines ≡ length plan.nodes + length plan.inputs → AtPlaces (IsEngineAt plan inputs.streams told) engines → slice_get engines place ≡ Some engine → GivesAll (laid_at engine k)
gives_at {laws} plan inputs told engines place k engine is count all there = elim (below place (length plan.nodes)) [
  | inl less ↦ (let node = there_at plan.nodes place less.1 in
      subst (λ (v : EngineView). GivesAll (laid_at v k)) (sym ((all place engine there).node node.0 node.1)) (gives_none (length node.0.outputs) k))
  | inr past ↦ (let most = slice_get_within engines place engine there in let same = is.inputs.streams in let more = past.1 in
      let s = there_at inputs.streams (place - length plan.nodes) (omega (arith, most, same, more, count)) in
      subst (λ (v : EngineView). GivesAll (laid_at v k)) (sym ((all place engine there).input (place - length plan.nodes) s.0 (omega (arith, more)) s.1))
      (gives_input s.0 k (at_each IsPrefix inputs.streams _ s.0 is.inputs.prefixes s.1)))
]

whole_new : {laws : Laws} (plan : Plan) (inputs : Inputs) (told : ℕ → PlanNode → HolderView) (net : NetView) → IsJob (record { plan = plan; inputs = inputs; laws = laws }) → HasParts plan inputs told net → (stream : ℕ) → HasFrom net stream 0
whole_new {laws} plan inputs told net is parts stream output at =
    let port = output_of at.producer in
    let gives = gives_at plan inputs told net.engines (place_of net.plan at.producer) port at.engine is parts.engine_count parts.engines at.engine_is in
    let own = ap (λ (b : Backlog Plain). b.gone) (get_or_from_slice_get at.engine.outputs port output empty_backlog at.output_is) in
    let none = gives.gone in
    omega (arith, own, none)

-- Intakes.

-- at a port nothing waits
pub record WaitsNone (q : Waiting Plain) : Type 0 where
  pub gone : q.gone ≡ 0
  pub packets : q.packets ≡ []
  pub bound : q.bound ≡ pre_stream

waits_none : (n i : ℕ) → WaitsNone (queue_of 0 (get_or (replicate n (empty_backlog {X = Plain})) i empty_backlog))
waits_none zero i = record { gone = refl; packets = refl; bound = refl }
waits_none (suc n) zero = record { gone = refl; packets = refl; bound = refl }
waits_none (suc n) (suc i) = waits_none n i

like_none : (q : Waiting Plain) → IsLike q empty_queue → WaitsNone q
like_none q like = record { gone = like.gone; packets = like.packets; bound = like.bound }

held_none : (held : Held Plain) (port : ℕ) → IsFreshLoop held → WaitsNone (queue_at port held)
held_none held port fresh = either (port == 0)
  where
    either : (b : Bool) → WaitsNone (if b then held.loop else held.main)
    either true = like_none held.loop fresh.loop
    either false = like_none held.main fresh.main

pub nothing_waits : (plan : Plan) (consumer port : ℕ) (waits : Pending) → HoldsNone plan consumer waits → WaitsNone (port_queue waits port)
nothing_waits plan consumer port (Sets inbox) holds = subst (λ (i : Gathered). WaitsNone (port_queue (Sets i) port)) (sym holds.1) (waits_none (length (ports_of plan consumer)) port)
nothing_waits plan consumer port (Loop held) holds = held_none held port holds.1

-- Cells.

agree_none : (role : Role) (a b : ℕ) → a ≡ 0 → b ≡ 0 → AgreeBy role a b
agree_none (Source calls) a b none none_too = none_too
agree_none role a b none none_too = none ∙ sym none_too

nothing_claimed : {laws : Laws} (job : LoggedJob laws) (node : PlanNode) (number : ℕ) (told : HolderView) → HasWorks job (fresh_engine node number told) (record { room = node.in_flight; works = [] })
nothing_claimed {laws} job node number told = record {
  room = refl;
  out = λ i d less. absurd (omega (arith, less));
  lawful = λ i d less. absurd (omega (arith, less));
  apart = λ i j d less within. absurd (omega (arith, within));
  complete = λ place entry there. absurd cc;
}

new_cell : {laws : Laws} (plan : Plan) (inputs : Inputs) (boxes : List BoxTold) (place : ℕ) (node : PlanNode) (engine : EngineView) (intake : IntakeView) (work_queue : WorkQueueView) → IsJob (record { plan = plan; inputs = inputs; laws = laws }) → BoxesFit plan boxes → slice_get plan.nodes place ≡ Some node
    → engine ≡ fresh_engine node place (first_holder (given_of boxes) node) → IsIntakeAt plan place intake → work_queue ≡ record { room = node.in_flight; works = [] } → IsCell (job_of laws plan inputs boxes) false place engine intake work_queue
new_cell {laws} plan inputs boxes place node engine intake work_queue is fit there engine_is intake_is work_queue_is =
    let job = job_of laws plan inputs boxes in
    let found = solved (job_of laws plan inputs boxes) is in
    record {
      lawful_engine = fresh_unbegun job place node (first_holder (given_of boxes) node) engine (handed plan inputs boxes place node fit there) engine_is;
      lawful_intake = intake_is.lawful job found.0 refl found.1;
      agree = agree_none engine.role engine.claimed intake.claimed (ap (λ (v : EngineView). v.claimed) engine_is) intake_is.fresh.claimed;
      works = subst (λ (v : EngineView). HasWorks job v work_queue) (sym engine_is) (subst (λ (d : WorkQueueView). HasWorks job (fresh_engine node place (first_holder (given_of boxes) node)) d) (sym work_queue_is)
          (nothing_claimed job node place (first_holder (given_of boxes) node)));
    }

-- Limits.

new_knows : (plan : Plan) (inputs : Inputs) (told : ℕ → PlanNode → HolderView) (net : NetView) (e : Edge) → HasParts plan inputs told net → KnowsQueue net e (new_queue (length plan.nodes) (limit_of plan.limit) e)
new_knows plan inputs told net e parts = record {
  waiting = λ intake there. sym (ap (λ (ps : List (Stamped Plain)). length ps) (nothing_waits plan e.node e.port intake.waits (parts.intakes e.node intake there).fresh.holds).packets);
  counts = λ engine less there.
      let nodes = ap (λ (p : Plan). length p.nodes) parts.plan_is in
      let there_too = there_at plan.nodes e.node (omega (arith, less, nodes)) in
      let fresh = (parts.engines e.node engine there).node there_too.0 there_too.1 in
      lt-ltb e.node (length plan.nodes) (omega (arith, less, nodes)) ∙ sym (ap (λ (v : EngineView). not (has_ended v)) fresh);
}

-- Nets.

net_of : {laws : Laws} (plan : Plan) (inputs : Inputs) (boxes : List BoxTold) (net : NetView) → IsJob (record { plan = plan; inputs = inputs; laws = laws }) → BoxesFit plan boxes → HasParts plan inputs (λ _ node. first_holder (given_of boxes) node) net
    → IsLeftOver plan.nodes (given_of boxes) (length plan.nodes) net.spare → net.begun ≡ 0 → net.wound ≡ 0 → IsNetOf (job_of laws plan inputs boxes) net
net_of {laws} plan inputs boxes net is fit parts left begun wound = record {
  is_job = is;
  plan = parts.plan_is;
  given = parts.given_is;
  engines = parts.engine_count ∙ ap (λ (p : Plan). length p.nodes + length p.inputs) (sym parts.plan_is);
  intakes = parts.intake_count ∙ ap (λ (p : Plan). length p.nodes + 1) (sym parts.plan_is);
  work_queues = parts.work_queue_count ∙ nodes;
  cells = λ place engine intake work_queue engine_at intake_at work_queue_at.
      let less = slice_get_within net.work_queues place work_queue work_queue_at in
      let count = parts.work_queue_count in
      let node = there_at plan.nodes place (omega (arith, less, count)) in
      subst (λ (b : Bool). IsCell (job_of laws plan inputs boxes) b place engine intake work_queue) (sym (ap (λ (n : ℕ). nat_lt place n) begun ∙ le-ltb place 0 (omega arith)))
      (new_cell plan inputs boxes place node.0 engine intake work_queue is fit node.1 ((parts.engines place engine engine_at).node node.0 node.1) (parts.intakes place intake intake_at) (parts.work_queues place work_queue work_queue_at node.0 node.1));
  inputs = λ input engine there.
      let at : slice_get net.engines (length plan.nodes + input) ≡ Some engine = subst (λ (n : ℕ). slice_get net.engines (n + input) ≡ Some engine) (sym nodes) there in
      let most = slice_get_within net.engines (length plan.nodes + input) engine at in
      let count = parts.engine_count in
      let same = is.inputs.streams in
      let s = there_at inputs.streams input (omega (arith, most, count, same)) in
      subst (λ (v : EngineView). LawfulEngine (job_of laws plan inputs boxes) (of_input input) v) (sym ((parts.engines (length plan.nodes + input) engine at).input input s.0 refl s.1)) (input_engine_lawful plan inputs boxes input s.0 is s.1);
  collector = λ intake there. (let found = solved (job_of laws plan inputs boxes) is in (parts.intakes (length net.plan.nodes) intake there).lawful (job_of laws plan inputs boxes) found.0 refl found.1);
  edges = λ e number place engine intake edge_at source engine_at intake_at.
      let gives = gives_all plan inputs (λ _ node. first_holder (given_of boxes) node) net.engines place engine e is parts.engine_count parts.engines engine_at in
      let waits = nothing_waits plan e.node e.port intake.waits (parts.intakes e.node intake intake_at).fresh.holds in
      let gone = waits.gone in
      let packets = ap (λ (ps : List (Stamped Plain)). length ps) waits.packets in
      let bound = waits.bound in
      let opened = gives.bound in
      let whole = gives.gone in
      record { came = record { count = omega (arith, gone, packets); bound = omega (arith, bound, opened) }; kept = omega (arith, whole) };
  limits = record {
    of_plan = subst (λ (p : Plan). AreLimitsOf p net.limits) (sym parts.plan_is) parts.of;
    queues = λ number e q edge_at queue_at.
        let at : slice_get plan.edges number ≡ Some e = subst (λ (p : Plan). slice_get p.edges number ≡ Some e) parts.plan_is edge_at in
        let new : slice_get net.limits.queues number ≡ Some (new_queue (length plan.nodes) (limit_of plan.limit) e) =
        ap (λ (qs : List Queue). slice_get qs number) parts.queues ∙ get_map (new_queue (length plan.nodes) (limit_of plan.limit)) plan.edges number e at in
        subst (KnowsQueue net e) (some_same _ _ q new queue_at) (new_knows plan inputs (λ _ node. first_holder (given_of boxes) node) net e parts);
  };
  spare = spare plan inputs boxes net.spare fit left;
  kept = ap (λ (bs : List Bool). length bs) parts.kept ∙ length-replicate (length plan.streams) false ∙ ap (λ (p : Plan). length p.streams) (sym parts.plan_is);
  begun = omega (arith, begun);
  not_wound = wound;
}
  where
    nodes : length plan.nodes ≡ length net.plan.nodes
    nodes = ap (λ (p : Plan). length p.nodes) (sym parts.plan_is)

pub stands : {laws : Laws} (plan : Plan) (inputs : Inputs) (boxes : List BoxTold) (net : NetView) → IsJob (record { plan = plan; inputs = inputs; laws = laws }) → BoxesFit plan boxes → HasParts plan inputs (λ _ node. first_holder (given_of boxes) node) net
    → IsLeftOver plan.nodes (given_of boxes) (length plan.nodes) net.spare → net.begun ≡ 0 → net.wound ≡ 0 → StandsFor (job_of laws plan inputs boxes) net
unfolding StandsFor
stands {laws} plan inputs boxes net is fit parts left begun wound = net_of plan inputs boxes net is fit parts left begun wound

pub net_made : {laws : Laws} (plan : Plan) (inputs : Inputs) (boxes : List BoxTold) (net : NetView) → IsJob (record { plan = plan; inputs = inputs; laws = laws }) → BoxesFit plan boxes → HasParts plan inputs (λ _ node. first_holder (given_of boxes) node) net
    → IsLeftOver plan.nodes (given_of boxes) (length plan.nodes) net.spare → net.begun ≡ 0 → net.wound ≡ 0 → IsMade laws plan inputs boxes net
net_made {laws} plan inputs boxes net is fit parts left begun wound = record {
  stands = stands plan inputs boxes net is fit parts left begun wound;
  fits = fit;
  begun = begun;
  engines = λ number node engine there at. (parts.engines number engine at).node node there ∙ ap (fresh_engine node number) (first_is boxes node);
  input_engines = λ input s engine there at. (parts.engines (length plan.nodes + input) engine at).input input s refl there;
  fresh = λ consumer intake there. (parts.intakes consumer intake there).fresh;
  work_queues = λ number node work_queue there at. parts.work_queues number work_queue at node there;
  limits = parts.queues;
  kept = parts.kept;
  whole = whole_new plan inputs (λ _ node. first_holder (given_of boxes) node) net is parts;
  unused = λ place told lies. placed boxes place told (left.others place told lies).0;
}

-- a net of parts, once its engines have the user-supplied calculators
pub joined_made : {laws : Laws} (plan : Plan) (inputs : Inputs) (boxes : List BoxTold) (before net : NetView) → IsJob (record { plan = plan; inputs = inputs; laws = laws }) → BoxesFit plan boxes → HasParts plan inputs (λ _ node. own_told node) before
    → net ≡ record before { engines = net.engines; spare = net.spare } → length net.engines ≡ length before.engines
    → (AtPlaces (IsEngineAt plan inputs.streams (λ _ node. own_told node)) before.engines → AtPlaces (IsEngineAt plan inputs.streams (λ _ node. first_holder (given_of boxes) node)) net.engines)
    → IsLeftOver plan.nodes (given_of boxes) (length plan.nodes) net.spare → before.begun ≡ 0 → before.wound ≡ 0 → IsMade laws plan inputs boxes net
joined_made {laws} plan inputs boxes before net is fit parts same count engines left begun wound = net_made plan inputs boxes net is fit (record {
  plan_is = ap (λ (n : NetView). n.plan) same ∙ parts.plan_is;
  given_is = ap (λ (n : NetView). n.given) same ∙ parts.given_is;
  engine_count = count ∙ parts.engine_count;
  engines = engines parts.engines;
  intake_count = ap (λ (n : NetView). length n.intakes) same ∙ parts.intake_count;
  intakes = subst (λ (is : List IntakeView). AtPlaces (IsIntakeAt plan) is) (sym (ap (λ (n : NetView). n.intakes) same)) parts.intakes;
  work_queue_count = ap (λ (n : NetView). length n.work_queues) same ∙ parts.work_queue_count;
  work_queues = subst (λ (ds : List WorkQueueView). AtPlaces (IsWorkQueueAt plan) ds) (sym (ap (λ (n : NetView). n.work_queues) same)) parts.work_queues;
  of = subst (λ (l : QueueLimits). AreLimitsOf plan l) (sym (ap (λ (n : NetView). n.limits) same)) parts.of;
  queues = ap (λ (n : NetView). n.limits.queues) same ∙ parts.queues;
  kept = ap (λ (n : NetView). n.kept) same ∙ parts.kept;
}) left (ap (λ (n : NetView). n.begun) same ∙ begun) (ap (λ (n : NetView). n.wound) same ∙ wound)

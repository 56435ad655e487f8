-- How nodes are begun.
use Rattle.std.proofs.Common.{◌≡◌, ◌≢◌, ℕ, zero, suc, ◌+◌, ◌-◌, ◌^◌, ◌<◌, ◌≤◌, Bool, true, false, List, [], ◌∷◌, length, map, replicate, set, length-set, Option, Some, None, Result, slice_get, get_or, nat_lt, ◌⊎◌, inl, inr, ap, sym, refl, subst, ◌∙◌, arith}
use Rattle.std.specs.Prelude.{slice_index_or, option_map, unwrap_or}
use Rattle.std.proofs.lemmas.Bool.{cases_eq, cases_lt, lt-ltb}
use Rattle.std.proofs.lemmas.Bool.Decides.{nat_tests}
use Rattle.std.proofs.lemmas.List.Elements.{All-weaker}
use Rattle.std.proofs.lemmas.Option.{none-some, same_Some}
use Rattle.mg_value.specs.Payload.{Plain}
use Rattle.mg_settled.specs.Prefix.{StreamPrefix}
use Rattle.mg_stream.specs.Pool.{Backlog, empty_backlog}
use Rattle.mg_stream.specs.Queue.{count_of}
use Rattle.mg_calc.specs.Rules.{Laws}
use Rattle.mg_calc.specs.declared.cause.Cause.{Cause}
use Rattle.mg_calc.specs.declared.edge.Edge.{Edge}
use Rattle.mg_calc.specs.declared.emission.Laid.{Laid}
use Rattle.mg_calc.specs.declared.plan.Plan.{Plan}
use Rattle.mg_calc.specs.declared.plan_node.PlanNode.{PlanNode}
use Rattle.mg_calc.specs.Equations.{sides_of}
use Rattle.mg_calc.specs.Plan.{node_sides}
use Rattle.mg_route.specs.HolderView.{HolderView, held_rules}
use Rattle.mg_node.specs.declared.role.Role.{Role}
use Rattle.mg_node.specs.Begun.{opened_entry, own_contexts, opened_node, IsUnbegun, HasBegun, LawfulUnbegun, SomeUnbegun, IsNew}
use Rattle.mg_node.specs.Fresh.{context_of, contexts_of, fresh_engine}
use Rattle.mg_node.specs.IntakeStanding.{HasGrown}
use Rattle.mg_node.specs.Job.{LoggedJob, Solves, role_of}
use Rattle.mg_node.specs.Lawful.{of_node, AgreeBy, LawfulEngine}
use Rattle.mg_node.specs.Outputs.{laid_at, kept_whole}
use Rattle.mg_node.specs.Ports.{port_queue}
use Rattle.mg_node.specs.Shelves.{IsOut}
use Rattle.mg_node.specs.Standing.{EngineGrows}
use Rattle.mg_node.specs.Views.{IntakeView, ContextView, EntryView, EngineView}
use Rattle.mg_node.specs.Windows.{has_ended}
use Rattle.mg_node.proofs.Lemmas.{get_other, get_set, grown_by_itself, is_new, may_begin, put_there, unbegun_parts}
use Rattle.mg_throttle.specs.Throttle.{QueueLimits}
use Rattle.mg_sched.specs.Acts.{stopped_by}
use Rattle.mg_sched.specs.Begins.{BeginsEngine, StillUnbegun, stopped_from, BeginsNet}
use Rattle.mg_sched.specs.Places.{with_engine, with_limits}
use Rattle.mg_sched.specs.StandsFor.{HasWorks, IsEngine, IsCell, IsJoined, KnowsLimits, IsNetOf, StandsFor, StandsForSome}
use Rattle.mg_sched.specs.Views.{WorkQueueView, NetView}
use Rattle.mg_sched.proofs.CellForms.{only_engine}
use Rattle.mg_sched.proofs.Finding.{engine_read, engine_there, found, of_plan, valid}
use Rattle.mg_sched.proofs.Solved.{solved}
use Rattle.mg_sched.proofs.LimitsKnow.{cell_knows, stopped_knows}

-- An engine before it is begun, and once it is.

-- no work of it is out
abbrev NoneOut : EngineView → Type 0
NoneOut engine = (place : ℕ) (entry : EntryView) → slice_get engine.window place ≡ Some entry → entry.outcome ≡ None → ⊥

-- what is known of the engine of a node, if nothing of the node is claimed
record HasNone (node : PlanNode) (engine : EngineView) : Type 0 where
  pub role : engine.role ≡ role_of node.law
  pub first : engine.first ≡ slice_index_or node.outputs 0 0
  pub in_flight : engine.in_flight ≡ node.in_flight
  pub claimed : engine.claimed ≡ 0
  pub gone : (output : ℕ) → (laid_at engine output).gone ≡ 0
  pub none : NoneOut engine

empty_gone : (n k : ℕ) → (get_or (replicate n (let b : Backlog Plain = empty_backlog in b)) k empty_backlog).gone ≡ 0
empty_gone zero k = refl
empty_gone (suc n) zero = refl
empty_gone (suc n) (suc k) = empty_gone n k

whole_gone : (ss : List (StreamPrefix Plain)) (k : ℕ) → (get_or (map kept_whole ss) k empty_backlog).gone ≡ 0
whole_gone [] k = refl
whole_gone (s ∷ ss) zero = refl
whole_gone (s ∷ ss) (suc k) = whole_gone ss k

none_in : (engine : EngineView) → engine.window ≡ [] → NoneOut engine
none_in engine empty place entry at out = none-some entry (ap (λ (es : List EntryView). slice_get es place) (sym empty) ∙ at)

none_opened : (number : ℕ) (context : ContextView) (answer : Result (List Laid) Cause) (place : ℕ) (entry : EntryView) → slice_get (opened_entry number context answer ∷ []) place ≡ Some entry → entry.outcome ≡ None → ⊥
none_opened number context answer zero entry at out =
    (let is : opened_entry number context answer ≡ entry = same_Some (opened_entry number context answer) entry at in
    let same = ap (λ (e : EntryView). e.outcome) is ∙ out in
    none-some _ (sym same))
none_opened number context answer (suc place) entry at out = none-some entry at

-- it is that which is made, but for its window and its contexts
made_none : (node : PlanNode) (number : ℕ) (told : HolderView) (engine : EngineView) (window : List EntryView) (idle : List ContextView) → engine ≡ record (fresh_engine node number told) { window = window; idle = idle } → NoneOut engine → HasNone node engine
made_none node number told engine window idle is none = record {
  role = ap (λ (v : EngineView). v.role) is;
  first = ap (λ (v : EngineView). v.first) is;
  in_flight = ap (λ (v : EngineView). v.in_flight) is;
  claimed = ap (λ (v : EngineView). v.claimed) is;
  gone = λ output. ap (λ (v : EngineView). (laid_at v output).gone) is ∙ empty_gone (length node.outputs) output;
  none = none;
}

unbegun_none : {laws : Laws} (node : PlanNode) (number : ℕ) (told : HolderView) (sides : List (Option Plain)) (engine : EngineView) → IsUnbegun laws node number told sides engine → HasNone node engine
unbegun_none {laws} node number told sides engine (inl is) = made_none node number told engine [] (contexts_of node told) is (none_in engine (ap (λ (v : EngineView). v.window) is))
unbegun_none {laws} node number told sides engine (inr o) = made_none node number told engine (opened_entry number (context_of node o.now) o.answer ∷ []) (own_contexts node) o.is
    (λ place entry at out. none_opened number (context_of node o.now) o.answer place entry (ap (λ (v : EngineView). slice_get v.window place) (sym o.is) ∙ at) out)

unbegun_goes : {laws : Laws} (node : PlanNode) (number : ℕ) (told : HolderView) (sides : List (Option Plain)) (engine : EngineView) → IsUnbegun laws node number told sides engine → has_ended engine ≡ false
unbegun_goes {laws} node number told sides engine (inl is) = ap has_ended is
unbegun_goes {laws} node number told sides engine (inr o) = ap has_ended o.is

begun_none : {laws : Laws} (node : PlanNode) (number : ℕ) (told : HolderView) (sides : List (Option Plain)) (engine : EngineView) → HasBegun laws node number told sides engine → HasNone node engine
begun_none {laws} node number told sides engine b = record {
  role = ap (λ (v : EngineView). v.role) b.is;
  first = ap (λ (v : EngineView). v.first) b.is;
  in_flight = ap (λ (v : EngineView). v.in_flight) b.is;
  claimed = ap (λ (v : EngineView). v.claimed) b.is;
  gone = λ output. ap (λ (v : EngineView). (laid_at v output).gone) b.is ∙ whole_gone (opened_node (held_rules laws told) node sides).outputs output;
  none = none_in engine (ap (λ (v : EngineView). v.window) b.is);
}

-- A net with another engine at a node that wasn't begun.

abbrev pub with_opened : NetView → ℕ → EngineView → QueueLimits → ℕ → NetView
with_opened net node engine limits begun = record net { engines = set net.engines node engine; limits = limits; begun = begun }

-- what has become of the engine
record OpenStep {laws : Laws} (job : LoggedJob laws) (begun : Bool) (number : ℕ) (engine engine_now : EngineView) : Type 0 where
  pub node : PlanNode
  pub lawful : IsEngine job begun number engine_now
  pub before : HasNone node engine
  pub now : HasNone node engine_now
  pub grows : EngineGrows engine engine_now

kept_works : {laws : Laws} (job : LoggedJob laws) (node : PlanNode) (engine engine_now : EngineView) (work_queue : WorkQueueView) → HasNone node engine → HasNone node engine_now → HasWorks job engine work_queue → HasWorks job engine_now work_queue
kept_works {laws} job node engine engine_now work_queue b n h = record {
  room = h.room ∙ b.in_flight ∙ sym n.in_flight;
  out = All-weaker (IsOut engine) (IsOut engine_now) (λ w o. absurd (b.none (w.number - engine.laid) o.entry o.there o.out)) work_queue.works h.out;
  lawful = h.lawful;
  apart = h.apart;
  complete = λ place entry at none. absurd (n.none place entry at none);
}

opened_cell : {laws : Laws} (job : LoggedJob laws) (was begun : Bool) (number : ℕ) (engine engine_now : EngineView) (intake : IntakeView) (work_queue : WorkQueueView) → OpenStep job begun number engine engine_now → IsCell job was number engine intake work_queue
    → IsCell job begun number engine_now intake work_queue
opened_cell {laws} job was begun number engine engine_now intake work_queue s cell = record {
  lawful_engine = s.lawful;
  lawful_intake = cell.lawful_intake;
  agree = subst (λ (r : Role). AgreeBy r engine_now.claimed intake.claimed) (s.before.role ∙ sym s.now.role) (subst (λ (n : ℕ). AgreeBy engine.role n intake.claimed) (s.before.claimed ∙ sym s.now.claimed) cell.agree);
  works = kept_works job s.node engine engine_now work_queue s.before s.now cell.works;
}

opened_joined : (node : PlanNode) (engine engine_now : EngineView) (e : Edge) (intake : IntakeView) → HasNone node engine → HasNone node engine_now → EngineGrows engine engine_now → IsJoined engine e intake → IsJoined engine_now e intake
opened_joined node engine engine_now e intake b n grows h =
    let there = e.stream - engine.first in
    let first = b.first ∙ sym n.first in
    let more = (grows.outputs there).count in
    let higher = (grows.outputs there).bound in
    let came = h.came.count in
    let low = h.came.bound in
    let gone = n.gone there in
    record {
      came = subst (λ (k : ℕ). HasGrown (port_queue intake.waits e.port) (laid_at engine_now (e.stream - k))) first (record { count = omega (arith, came, more); bound = omega (arith, low, higher) });
      kept = subst (λ (k : ℕ). (laid_at engine_now (e.stream - k)).gone ≤ count_of (port_queue intake.waits e.port)) first (omega (arith, gone));
    }

not_below : (k b : ℕ) → b ≤ k → nat_lt k b ≡ false
not_below k b h = grind (arith, nat_tests)

same_test : (k b c : ℕ) → k ≢ b → (c ≡ b) ⊎ (c ≡ b + 1) → nat_lt k b ≡ nat_lt k c
same_test k b c other (inl same) = ap (nat_lt k) (sym same)
same_test k b c other (inr next) = elim (cases_lt k b) [
  | inl less ↦ lt-ltb k b less ∙ sym (lt-ltb k c (omega (arith, less, next)))
  | inr past ↦ not_below k b past ∙ sym (not_below k c (omega (arith, past, next, other)))
]

opened_stands : {laws : Laws} (job : LoggedJob laws) (net : NetView) (engine engine_now : EngineView) (limits : QueueLimits) (begun : ℕ) → IsNetOf job net → net.begun < length net.plan.nodes → slice_get net.engines net.begun ≡ Some engine
    → (begun ≡ net.begun) ⊎ (begun ≡ net.begun + 1) → OpenStep job (nat_lt net.begun begun) net.begun engine engine_now → KnowsLimits (with_opened net net.begun engine_now limits begun) → IsNetOf job (with_opened net net.begun engine_now limits begun)
opened_stands {laws} job net engine engine_now limits begun h within there next s knows =
    let node = net.begun in
    record {
      is_job = h.is_job;
      plan = h.plan;
      given = h.given;
      engines = length-set net.engines node engine_now ∙ h.engines;
      intakes = h.intakes;
      work_queues = h.work_queues;
      cells = λ k e i d at_e at_i at_d. elim (cases_eq k node) [
        | inl here ↦
            (let is = put_there net.engines node engine_now e (ap (slice_get (set net.engines node engine_now)) (sym here) ∙ at_e) in
            subst (λ (v : EngineView). IsCell job (nat_lt k begun) k v i d) (sym is)
            (subst (λ (n : ℕ). IsCell job (nat_lt n begun) n engine_now i d) (sym here)
            (opened_cell job (nat_lt node net.begun) (nat_lt node begun) node engine engine_now i d s (h.cells node engine i d there (ap (slice_get net.intakes) (sym here) ∙ at_i) (ap (slice_get net.work_queues) (sym here) ∙ at_d)))))
        | inr other ↦
            subst (λ (b : Bool). IsCell job b k e i d) (same_test k node begun other next) (h.cells k e i d (sym (get_other net.engines node k engine_now other) ∙ at_e) at_i at_d)
      ];
      inputs = λ input e at. h.inputs input e (sym (get_other net.engines node (length net.plan.nodes + input) engine_now (λ s. omega (arith, s, within))) ∙ at);
      collector = h.collector;
      edges = λ e number place g i at_edge from at_g at_i. elim (cases_eq place node) [
        | inl here ↦
            (let is = put_there net.engines node engine_now g (ap (slice_get (set net.engines node engine_now)) (sym here) ∙ at_g) in
            subst (λ (v : EngineView). IsJoined v e i) (sym is)
            (opened_joined s.node engine engine_now e i s.before s.now s.grows (h.edges e number place engine i at_edge from (ap (slice_get net.engines) here ∙ there) at_i)))
        | inr other ↦ h.edges e number place g i at_edge from (sym (get_other net.engines node place engine_now other) ∙ at_g) at_i
      ];
      limits = knows;
      spare = h.spare;
      kept = h.kept;
      begun = by_next next;
      not_wound = h.not_wound;
    }
  where
    by_next : (begun ≡ net.begun) ⊎ (begun ≡ net.begun + 1) → begun ≤ length net.plan.nodes
    by_next (inl same) = omega (arith, same, within)
    by_next (inr more) = omega (arith, more, within)

-- limits don't hear how many nodes are begun
knows_begun : (net : NetView) (begun : ℕ) → KnowsLimits net → KnowsLimits (record net { begun = begun })
knows_begun net begun h = record {
  of_plan = h.of_plan;
  queues = λ number e q at_e at_q. (let k = h.queues number e q at_e at_q in record { waiting = k.waiting; counts = k.counts });
}

-- What is found where the next node is begun.

record IsNextOf {laws : Laws} (job : LoggedJob laws) (net : NetView) (sides : List (Option Plain)) (engine : EngineView) : Type 0 where
  pub node : PlanNode
  pub there : slice_get job.job.plan.nodes net.begun ≡ Some node
  pub is : sides ≡ sides_of job.job node
  pub unbegun : LawfulUnbegun job net.begun engine
  pub streams : List (StreamPrefix Plain)
  pub solves : Solves job streams

abbrev pub AreSides : NetView → List (Option Plain) → Type 0
AreSides net sides = (planned : PlanNode) → slice_get net.plan.nodes net.begun ≡ Some planned → sides ≡ node_sides net.plan net.given planned

next_of : {laws : Laws} (job : LoggedJob laws) (net : NetView) (sides : List (Option Plain)) (engine : EngineView) → StandsFor job net → net.begun < length net.plan.nodes → slice_get net.engines net.begun ≡ Some engine → AreSides net sides → IsNextOf job net sides engine
unfolding StandsFor
next_of {laws} job net sides engine h within at are =
    let intakes = h.intakes in
    let work_queues = h.work_queues in
    let n = found net.plan.nodes net.begun within in
    let i = found net.intakes net.begun (omega (arith, within, intakes)) in
    let d = found net.work_queues net.begun (omega (arith, within, work_queues)) in
    let cell : IsCell job false net.begun engine i.0 d.0 = subst (λ (b : Bool). IsCell job b net.begun engine i.0 d.0) (not_below net.begun net.begun (omega arith)) (h.cells net.begun engine i.0 d.0 at i.1 d.1) in
    let s = solved job h.is_job in
    record {
      node = n.0;
      there = ap (λ (p : Plan). slice_get p.nodes net.begun) (sym h.plan) ∙ n.1;
      is = are n.0 n.1 ∙ ap (λ (p : Plan). node_sides p net.given n.0) h.plan ∙ ap (λ (gs : List (Option Plain)). node_sides job.job.plan gs n.0) h.given;
      unbegun = cell.lawful_engine;
      streams = s.0;
      solves = s.1;
    }

pub may_begin_next : {laws : Laws} (net : NetView) (sides : List (Option Plain)) (engine : EngineView) → StandsForSome laws net → net.begun < length net.plan.nodes → slice_get net.engines net.begun ≡ Some engine → AreSides net sides → SomeUnbegun laws sides engine
may_begin_next {laws} net sides engine h within at are =
    let n = next_of h.job net sides engine h.stands within at are in
    may_begin h.job net.begun n.node sides engine n.unbegun n.there n.is

-- What the engine tells if it is begun, and if it isn't.

abbrev pub StaysUnbegun : Laws → List (Option Plain) → EngineView → EngineView → Type 0
StaysUnbegun laws sides engine now = (job : LoggedJob laws) (number : ℕ) (node : PlanNode) → slice_get job.job.plan.nodes number ≡ Some node → sides ≡ sides_of job.job node → LawfulUnbegun job number engine → LawfulUnbegun job number now

abbrev pub IsLawfulThen : Laws → List (Option Plain) → EngineView → EngineView → Type 0
IsLawfulThen laws sides engine now = (job : LoggedJob laws) (number : ℕ) (node : PlanNode) (streams : List (StreamPrefix Plain)) → Solves job streams → slice_get job.job.plan.nodes number ≡ Some node → sides ≡ sides_of job.job node → LawfulUnbegun job number engine
    → LawfulEngine job (of_node number) now

abbrev pub IsBegunThen : Laws → List (Option Plain) → EngineView → EngineView → Type 0
IsBegunThen laws sides engine now = (node : PlanNode) (number : ℕ) (told : HolderView) → IsNew node told → IsUnbegun laws node number told sides engine → HasBegun laws node number told sides now

abbrev pub IsUnbegunThen : Laws → List (Option Plain) → EngineView → EngineView → Type 0
IsUnbegunThen laws sides engine now = (node : PlanNode) (number : ℕ) (told : HolderView) → IsUnbegun laws node number told sides engine → IsUnbegun laws node number told sides now

limits_then : {laws : Laws} (job : LoggedJob laws) (net : NetView) (engine engine_now : EngineView) (begun : ℕ) → IsNetOf job net → net.begun < length net.plan.nodes → slice_get net.engines net.begun ≡ Some engine → (has_ended engine ≡ true → has_ended engine_now ≡ true)
    → KnowsLimits (with_opened net net.begun engine_now (stopped_by net.begun engine_now net.limits) begun)
limits_then {laws} job net engine engine_now begun h within at ended =
    let intakes = h.intakes in
    let work_queues = h.work_queues in
    let i = found net.intakes net.begun (omega (arith, within, intakes)) in
    let d = found net.work_queues net.begun (omega (arith, within, work_queues)) in
    let limits = stopped_by net.begun engine_now net.limits in
    knows_begun (with_limits (with_engine net net.begun engine_now) limits) begun
    (subst (λ (v : NetView). KnowsLimits v) (only_engine net net.begun engine_now i.0 d.0 limits i.1 d.1) (stopped_knows net net.begun engine engine_now i.0 d.0 within h.limits at i.1 ended))

limits_still : {laws : Laws} (job : LoggedJob laws) (net : NetView) (engine engine_now : EngineView) → IsNetOf job net → net.begun < length net.plan.nodes → slice_get net.engines net.begun ≡ Some engine → has_ended engine_now ≡ has_ended engine
    → KnowsLimits (with_opened net net.begun engine_now net.limits net.begun)
limits_still {laws} job net engine engine_now h within at ended =
    let intakes = h.intakes in
    let work_queues = h.work_queues in
    let i = found net.intakes net.begun (omega (arith, within, intakes)) in
    let d = found net.work_queues net.begun (omega (arith, within, work_queues)) in
    subst (λ (v : NetView). KnowsLimits v) (only_engine net net.begun engine_now i.0 d.0 net.limits i.1 d.1) (cell_knows net net.begun engine engine_now i.0 d.0 within h.limits at i.1 ended)

unbegun_net : {laws : Laws} (job : LoggedJob laws) (net : NetView) (sides : List (Option Plain)) (engine now : EngineView) → StandsFor job net → net.begun < length net.plan.nodes → slice_get net.engines net.begun ≡ Some engine → AreSides net sides → EngineGrows engine now
    → StaysUnbegun laws sides engine now → StandsFor job (with_engine net net.begun now)
unfolding StandsFor
unbegun_net {laws} job net sides engine now h within at are grows stays =
    let n = next_of job net sides engine h within at are in
    let lawful = stays job net.begun n.node n.there n.is n.unbegun in
    let old = unbegun_parts job net.begun n.node sides engine n.there n.is n.unbegun in
    let new = unbegun_parts job net.begun n.node sides now n.there n.is lawful in
    let was = unbegun_goes n.node net.begun old.told sides engine old.unbegun in
    let goes = unbegun_goes n.node net.begun new.told sides now new.unbegun in
    opened_stands job net engine now net.limits net.begun h within at (inl refl)
    (subst (λ (b : Bool). OpenStep job b net.begun engine now) (sym (not_below net.begun net.begun (omega arith))) (record {
      node = n.node;
      lawful = lawful;
      before = unbegun_none n.node net.begun old.told sides engine old.unbegun;
      now = unbegun_none n.node net.begun new.told sides now new.unbegun;
      grows = grows;
    })) (limits_still job net engine now h within at (goes ∙ sym was))

begun_net : {laws : Laws} (job : LoggedJob laws) (net : NetView) (sides : List (Option Plain)) (engine now : EngineView) → StandsFor job net → net.begun < length net.plan.nodes → slice_get net.engines net.begun ≡ Some engine → AreSides net sides → EngineGrows engine now
    → IsLawfulThen laws sides engine now → IsBegunThen laws sides engine now → StandsFor job (with_opened net net.begun now (stopped_by net.begun now net.limits) (net.begun + 1))
unfolding StandsFor
begun_net {laws} job net sides engine now h within at are grows lawful begun =
    let n = next_of job net sides engine h within at are in
    let old = unbegun_parts job net.begun n.node sides engine n.there n.is n.unbegun in
    let more : net.begun < net.begun + 1 = omega arith in
    opened_stands job net engine now (stopped_by net.begun now net.limits) (net.begun + 1) h within at (inr refl)
    (subst (λ (b : Bool). OpenStep job b net.begun engine now) (sym (lt-ltb net.begun (net.begun + 1) more)) (record {
      node = n.node;
      lawful = lawful job net.begun n.node n.streams n.solves n.there n.is n.unbegun;
      before = unbegun_none n.node net.begun old.told sides engine old.unbegun;
      now = begun_none n.node net.begun old.told sides now (begun n.node net.begun old.told (is_new job net.begun n.node old.told old.handed) old.unbegun);
      grows = grows;
    })) (limits_then job net engine now (net.begun + 1) h within at grows.ended)

-- Nothing but engines changes, and limits.

same_engine : (engine : EngineView) → EngineGrows engine engine
same_engine engine = record { laid = omega arith; claimed = omega arith; ended = λ e. e; outputs = λ output. grown_by_itself (laid_at engine output) }

set_grows : (engines : List EngineView) (node : ℕ) (engine now : EngineView) → slice_get engines node ≡ Some engine → EngineGrows engine now → (place : ℕ) (g g_now : EngineView) → slice_get engines place ≡ Some g → slice_get (set engines node now) place ≡ Some g_now
    → EngineGrows g g_now
set_grows engines node engine now there grows place g g_now at at_now = elim (cases_eq place node) [
  | inl here ↦
      (let old : engine ≡ g = same_Some engine g (sym there ∙ ap (slice_get engines) (sym here) ∙ at) in
      let new : g_now ≡ now = put_there engines node now g_now (ap (slice_get (set engines node now)) (sym here) ∙ at_now) in
      subst (λ (v : EngineView). EngineGrows v g_now) old (subst (λ (v : EngineView). EngineGrows engine v) (sym new) grows))
  | inr other ↦ (let same : g ≡ g_now = same_Some g g_now (sym at ∙ sym (get_other engines node place now other) ∙ at_now) in subst (λ (v : EngineView). EngineGrows g v) same (same_engine g))
]

-- and no packet that is laid is given up
set_gone : (engines : List EngineView) (node : ℕ) (engine now : EngineView) → slice_get engines node ≡ Some engine → ((output : ℕ) → (laid_at now output).gone ≡ 0) → (place : ℕ) (g g_now : EngineView) → slice_get engines place ≡ Some g
    → slice_get (set engines node now) place ≡ Some g_now → (output : ℕ) → (laid_at g_now output).gone ≤ (laid_at g output).gone
set_gone engines node engine now there none place g g_now at at_now output = elim (cases_eq place node) [
  | inl here ↦
      (let new : g_now ≡ now = put_there engines node now g_now (ap (slice_get (set engines node now)) (sym here) ∙ at_now) in
      let gone = ap (λ (v : EngineView). (laid_at v output).gone) new ∙ none output in
      omega (arith, gone))
  | inr other ↦
      (let same : g ≡ g_now = same_Some g g_now (sym at ∙ sym (get_other engines node place now other) ∙ at_now) in
      let gone = ap (λ (v : EngineView). (laid_at v output).gone) same in
      omega (arith, gone))
]

-- the engine that stands at the place of the next node, before and now
engine_was : (net : NetView) (engine g : EngineView) (number : ℕ) → slice_get net.engines net.begun ≡ Some engine → net.begun ≡ number → slice_get net.engines number ≡ Some g → g ≡ engine
engine_was net engine g number at here at_g = same_Some g engine (sym at_g ∙ ap (slice_get net.engines) (sym here) ∙ at)

engine_is : (net : NetView) (now g : EngineView) (number : ℕ) → net.begun ≡ number → slice_get (set net.engines net.begun now) number ≡ Some g → g ≡ now
engine_is net now g number here at_g = put_there net.engines net.begun now g (ap (slice_get (set net.engines net.begun now)) here ∙ at_g)

-- what becomes of an engine, told for the side packets of a node of the net
begun_there_then : {laws : Laws} (net : NetView) (sides : List (Option Plain)) (engine now : EngineView) (node : PlanNode) → AreSides net sides → IsBegunThen laws sides engine now → slice_get net.plan.nodes net.begun ≡ Some node
    → BeginsEngine laws net net.begun node engine now
begun_there_then {laws} net sides engine now node are begun there = λ told new unbegun.
    subst (λ (ss : List (Option Plain)). HasBegun laws node net.begun told ss now) (are node there)
    (begun node net.begun told new (subst (λ (ss : List (Option Plain)). IsUnbegun laws node net.begun told ss engine) (sym (are node there)) unbegun))

unbegun_there_then : {laws : Laws} (net : NetView) (sides : List (Option Plain)) (engine now : EngineView) (node : PlanNode) → AreSides net sides → IsUnbegunThen laws sides engine now → slice_get net.plan.nodes net.begun ≡ Some node
    → StillUnbegun laws net net.begun node engine now
unbegun_there_then {laws} net sides engine now node are keeps there = λ told unbegun.
    subst (λ (ss : List (Option Plain)). IsUnbegun laws node net.begun told ss now) (are node there)
    (keeps node net.begun told (subst (λ (ss : List (Option Plain)). IsUnbegun laws node net.begun told ss engine) (sym (are node there)) unbegun))

-- the limits once one more node is begun
pub stopped_next : (engines : List EngineView) (number : ℕ) (engine : EngineView) (limits : QueueLimits) → slice_get engines number ≡ Some engine → stopped_by number engine limits ≡ stopped_from engines number 1 limits
stopped_next engines number engine limits at = sym (ap (λ (o : Option EngineView). unwrap_or (option_map (λ e. stopped_by number e limits) o) limits) at)

-- the next node isn't begun: its engine is put back, perhaps with its calculator opened
begins_none_by : {laws : Laws} (net : NetView) (sides : List (Option Plain)) (engine now : EngineView) → slice_get net.engines net.begun ≡ Some engine → net.begun < length net.plan.nodes → EngineGrows engine now → ((output : ℕ) → (laid_at now output).gone ≡ 0)
    → AreSides net sides → IsUnbegunThen laws sides engine now → BeginsNet laws net (with_opened net net.begun now net.limits net.begun)
begins_none_by {laws} net sides engine now at within grows none are keeps = record {
  more = omega arith;
  parts = refl;
  places = length-set net.engines net.begun now;
  opens = λ number node g g_now from below there at_g at_now. absurd (omega (arith, from, below));
  next = λ node g g_now there at_g at_now.
      subst (λ (v : EngineView). StillUnbegun laws net net.begun node g v) (sym (engine_is net now g_now net.begun refl at_now))
      (subst (λ (v : EngineView). StillUnbegun laws net net.begun node v now) (sym (engine_was net engine g net.begun at refl at_g)) (unbegun_there_then net sides engine now node are keeps there));
  others = λ place elsewhere. get_other net.engines net.begun place now (λ same. elim elsewhere [
    | inl less ↦ absurd (omega (arith, same, less))
    | inr further ↦ elim further [
      | inl more ↦ absurd (omega (arith, same, more))
      | inr past ↦ absurd (omega (arith, same, past, within))
    ]
  ]);
  stops = ap (λ (n : ℕ). stopped_from (set net.engines net.begun now) net.begun n net.limits) (let e : 0 ≡ net.begun - net.begun = omega arith in e);
  grow = set_grows net.engines net.begun engine now at grows;
  gone = set_gone net.engines net.begun engine now at none;
}

-- the next node is begun
begins_one_by : {laws : Laws} (net : NetView) (sides : List (Option Plain)) (engine now : EngineView) → slice_get net.engines net.begun ≡ Some engine → net.begun < length net.plan.nodes → EngineGrows engine now → ((output : ℕ) → (laid_at now output).gone ≡ 0)
    → AreSides net sides → IsBegunThen laws sides engine now → BeginsNet laws net (with_opened net net.begun now (stopped_by net.begun now net.limits) (net.begun + 1))
begins_one_by {laws} net sides engine now at within grows none are begun = record {
  more = omega arith;
  parts = refl;
  places = length-set net.engines net.begun now;
  opens = λ number node g g_now from below there at_g at_now.
      let here : net.begun ≡ number = omega (arith, from, below) in
      subst (λ (v : EngineView). BeginsEngine laws net number node g v) (sym (engine_is net now g_now number here at_now))
      (subst (λ (v : EngineView). BeginsEngine laws net number node v now) (sym (engine_was net engine g number at here at_g))
      (subst (λ (n : ℕ). BeginsEngine laws net n node engine now) here (begun_there_then net sides engine now node are begun (ap (slice_get net.plan.nodes) here ∙ there))));
  next = λ node g g_now there at_g at_now.
      let other : net.begun + 1 ≢ net.begun = λ same. omega (arith, same) in
      let same : g ≡ g_now = same_Some g g_now (sym at_g ∙ sym (get_other net.engines net.begun (net.begun + 1) now other) ∙ at_now) in
      λ told unbegun. subst (λ (v : EngineView). IsUnbegun laws node (net.begun + 1) told (node_sides net.plan net.given node) v) same unbegun;
  others = λ place elsewhere. get_other net.engines net.begun place now (λ same. elim elsewhere [
    | inl less ↦ absurd (omega (arith, same, less))
    | inr further ↦ elim further [
      | inl more ↦ absurd (omega (arith, same, more))
      | inr past ↦ absurd (omega (arith, same, past, within))
    ]
  ]);
  stops = stopped_next (set net.engines net.begun now) net.begun now net.limits (get_set net.engines net.begun engine now at)
      ∙ ap (λ (n : ℕ). stopped_from (set net.engines net.begun now) net.begun n net.limits) (let e : 1 ≡ net.begun + 1 - net.begun = omega arith in e);
  grow = set_grows net.engines net.begun engine now at grows;
  gone = set_gone net.engines net.begun engine now at none;
}

-- an engine that stays unbegun, or is begun, has given up nothing
unbegun_whole : {laws : Laws} (net : NetView) (sides : List (Option Plain)) (engine now : EngineView) → StandsForSome laws net → net.begun < length net.plan.nodes → slice_get net.engines net.begun ≡ Some engine → AreSides net sides → StaysUnbegun laws sides engine now
    → (output : ℕ) → (laid_at now output).gone ≡ 0
unbegun_whole {laws} net sides engine now h within at are stays =
    let n = next_of h.job net sides engine h.stands within at are in
    let new = unbegun_parts h.job net.begun n.node sides now n.there n.is (stays h.job net.begun n.node n.there n.is n.unbegun) in
    (unbegun_none n.node net.begun new.told sides now new.unbegun).gone

begun_whole : {laws : Laws} (net : NetView) (sides : List (Option Plain)) (engine now : EngineView) → StandsForSome laws net → net.begun < length net.plan.nodes → slice_get net.engines net.begun ≡ Some engine → AreSides net sides → IsBegunThen laws sides engine now
    → (output : ℕ) → (laid_at now output).gone ≡ 0
begun_whole {laws} net sides engine now h within at are begun =
    let n = next_of h.job net sides engine h.stands within at are in
    let old = unbegun_parts h.job net.begun n.node sides engine n.there n.is n.unbegun in
    (begun_none n.node net.begun old.told sides now (begun n.node net.begun old.told (is_new h.job net.begun n.node old.told old.handed) old.unbegun)).gone

-- The same of a net as it is kept.

pub begun_there : (shown net : NetView) → shown ≡ net → net.begun < length net.plan.nodes → shown.begun < length net.plan.nodes
begun_there shown net is within = subst (λ (v : NetView). v.begun < length net.plan.nodes) (sym is) within

pub begun_engine : {laws : Laws} (shown net : NetView) (engine : EngineView) → shown ≡ net → StandsForSome laws net → net.begun < length net.plan.nodes → engine ≡ get_or shown.engines shown.begun engine → slice_get net.engines net.begun ≡ Some engine
begun_engine {laws} shown net engine is h within value =
    ap (λ (v : NetView). slice_get net.engines v.begun) (sym is) ∙ engine_read shown net shown.begun engine is h (begun_there shown net is within) value

pub sides_are : (shown net : NetView) (sides : List (Option Plain)) → shown ≡ net → AreSides shown sides → AreSides net sides
sides_are shown net sides is are = subst (λ (v : NetView). AreSides v sides) is are

pub unbegun_stands : {laws : Laws} (job : LoggedJob laws) (shown net : NetView) (sides : List (Option Plain)) (engine now : EngineView) → shown ≡ net → StandsForSome laws net → StandsFor job net → net.begun < length net.plan.nodes → engine ≡ get_or shown.engines shown.begun engine
    → AreSides shown sides → EngineGrows engine now → StaysUnbegun laws sides engine now → StandsFor job (with_engine shown shown.begun now)
unbegun_stands {laws} job shown net sides engine now is some h within value are grows stays =
    subst (λ (v : NetView). StandsFor job (with_engine v v.begun now)) (sym is)
    (unbegun_net job net sides engine now h within (begun_engine shown net engine is some within value) (sides_are shown net sides is are) grows stays)

pub unbegun_begins : {laws : Laws} (shown net : NetView) (sides : List (Option Plain)) (engine now : EngineView) → shown ≡ net → StandsForSome laws net → net.begun < length net.plan.nodes → engine ≡ get_or shown.engines shown.begun engine → AreSides shown sides → EngineGrows engine now
    → StaysUnbegun laws sides engine now → IsUnbegunThen laws sides engine now → BeginsNet laws net (with_engine shown shown.begun now)
unbegun_begins {laws} shown net sides engine now is some within value are grows stays keeps =
    let at = begun_engine shown net engine is some within value in
    let own = sides_are shown net sides is are in
    subst (λ (v : NetView). BeginsNet laws net (with_engine v v.begun now)) (sym is)
    (begins_none_by net sides engine now at within grows (unbegun_whole net sides engine now some within at own stays) own keeps)

-- what it is once the queues of a node that failed are stopped
abbrev pub Stopped : NetView → EngineView → NetView → Type 0
Stopped shown now new = (engine : EngineView) → slice_get (set shown.engines shown.begun now) shown.begun ≡ Some engine
    → new ≡ with_opened shown shown.begun now (stopped_by shown.begun engine shown.limits) (shown.begun + 1)

stopped_is : {laws : Laws} (shown net : NetView) (now : EngineView) (new : NetView) → shown ≡ net → StandsForSome laws net → net.begun < length net.plan.nodes → Stopped shown now new → new ≡ with_opened net net.begun now (stopped_by net.begun now net.limits) (net.begun + 1)
stopped_is {laws} shown net now new is some within stopped =
    let s = subst (λ (v : NetView). Stopped v now new) is stopped in
    let there = engine_there net net.begun some within in
    let long = length-set net.engines net.begun now in
    let it = found (set net.engines net.begun now) net.begun (omega (arith, there, long)) in
    s now (it.1 ∙ ap Some (put_there net.engines net.begun now it.0 it.1))

pub begun_begins : {laws : Laws} (shown net : NetView) (sides : List (Option Plain)) (engine now : EngineView) (new : NetView) → shown ≡ net → StandsForSome laws net → net.begun < length net.plan.nodes → engine ≡ get_or shown.engines shown.begun engine → AreSides shown sides
    → EngineGrows engine now → IsBegunThen laws sides engine now → Stopped shown now new → BeginsNet laws net new
begun_begins {laws} shown net sides engine now new is some within value are grows begun stopped =
    let at = begun_engine shown net engine is some within value in
    let own = sides_are shown net sides is are in
    subst (λ (v : NetView). BeginsNet laws net v) (sym (stopped_is shown net now new is some within stopped))
    (begins_one_by net sides engine now at within grows (begun_whole net sides engine now some within at own begun) own begun)

pub begun_next : {laws : Laws} (shown net : NetView) (now : EngineView) (new : NetView) → shown ≡ net → StandsForSome laws net → net.begun < length net.plan.nodes → Stopped shown now new → new.begun ≡ net.begun + 1
begun_next {laws} shown net now new is some within stopped = ap (λ (v : NetView). v.begun) (stopped_is shown net now new is some within stopped)

pub begun_stands : {laws : Laws} (job : LoggedJob laws) (shown net : NetView) (sides : List (Option Plain)) (engine now : EngineView) (new : NetView) → shown ≡ net → StandsForSome laws net → StandsFor job net → net.begun < length net.plan.nodes → engine ≡ get_or shown.engines shown.begun engine
    → AreSides shown sides → EngineGrows engine now → IsLawfulThen laws sides engine now → IsBegunThen laws sides engine now → Stopped shown now new → StandsFor job new
begun_stands {laws} job shown net sides engine now new is some h within value are grows lawful begun stopped =
    subst (StandsFor job) (sym (stopped_is shown net now new is some within stopped))
    (begun_net job net sides engine now h within (begun_engine shown net engine is some within value) (sides_are shown net sides is are) grows lawful begun)

pub few_begun : {laws : Laws} (shown net : NetView) → shown ≡ net → StandsForSome laws net → net.begun < length net.plan.nodes → shown.begun + 1 < 2 ^ 32
few_begun {laws} shown net is h within = (let low = begun_there shown net is within in let few = (valid net h).ranges.nodes in omega (arith, low, few))

pub reached_there : {laws : Laws} (shown net : NetView) → shown ≡ net → StandsForSome laws net → net.begun < length net.plan.nodes → shown.begun < length shown.limits.reached
reached_there {laws} shown net is h within =
    (let low = begun_there shown net is within in
    let marked = (of_plan net h).marked_nodes in
    let same = ap (λ (v : NetView). length v.limits.reached) is in
    omega (arith, low, marked, same))

pub set_there : {laws : Laws} (shown net : NetView) (now : EngineView) → shown ≡ net → StandsForSome laws net → net.begun < length net.plan.nodes → shown.begun < length (set shown.engines shown.begun now)
set_there {laws} shown net now is h within =
    (let low = begun_there shown net is within in
    let there = engine_there net shown.begun h low in
    let same = ap (λ (v : NetView). length v.engines) is in
    let long = length-set shown.engines shown.begun now in
    omega (arith, there, same, long))

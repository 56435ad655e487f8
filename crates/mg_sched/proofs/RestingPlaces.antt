-- Places with nothing to do: what their parts tell, and a net whose places all rest.
use Rattle.std.proofs.Common.{◌≡◌, ◌≢◌, ℕ, ◌+◌, ◌<◌, ◌≤◌, ◌⊎◌, ◌||◌, ◌∙◌, Bool, true, false, List, [], ◌∷◌, length, Option, Some, None, slice_get, slice_index_or, option_map, inl, inr, ap, sym, refl, subst, if◌then◌else◌, arith}
use borrow.Author.Count.{below_more}
use Rattle.std.proofs.lemmas.Bool.{false≢true, cases_eq}
use Rattle.std.proofs.lemmas.List.Folds.{list_any-from_Any}
use Rattle.std.proofs.lemmas.Option.{same_Some, slice_get_within}
use Rattle.mg_stream.specs.Pool.{Backlog}
use Rattle.mg_value.specs.Payload.{Plain}
use Rattle.mg_calc.specs.Rules.{Laws}
use Rattle.mg_calc.specs.declared.edge.Edge.{Edge}
use Rattle.mg_calc.specs.declared.plan.Plan.{Plan}
use Rattle.mg_calc.specs.declared.plan_stream.PlanStream.{PlanStream}
use Rattle.mg_calc.specs.declared.event.Event.{Event}
use Rattle.mg_calc.specs.declared.event.Event.TheVariants.{Deliver, Relax}
use Rattle.mg_calc.specs.declared.event.Effect.{Effect}
use Rattle.mg_calc.specs.declared.event.Effect.TheVariants.{Did, Idle}
use Rattle.mg_calc.specs.Plan.{Feeder}
use Rattle.mg_node.specs.declared.delivered.Delivered.{Delivered}
use Rattle.mg_node.specs.declared.delivered.Delivered.TheVariants.{Moved}
use Rattle.mg_node.specs.declared.claimed.Claimed.TheVariants.{NotReady, InFlightFull, Draining, Ended}
use Rattle.mg_node.specs.Job.{ports_of}
use Rattle.mg_node.specs.Views.{IntakeView, EngineView}
use Rattle.mg_node.specs.Delivery.{Delivers}
use Rattle.mg_node.specs.Leading.{output_at}
use Rattle.mg_node.specs.Ports.{ports_in, port_queue}
use Rattle.mg_node.specs.Advances.{advance_bound, is_advanced}
use Rattle.mg_node.specs.Claims.{Claims}
use Rattle.mg_node.specs.Shelves.{shelf_at}
use Rattle.mg_node.proofs.Lemmas.{intake_ports, same_put}
use Rattle.mg_ready.specs.Ready.{ReadyNodes, IsIn, IsEmpty, ChangesOnly}
use Rattle.mg_throttle.specs.declared.queue.Queue.{Queue}
use Rattle.mg_throttle.specs.Throttle.{is_full, IsThrottled}
use Rattle.mg_sched.specs.Views.{WorkQueueView, NetView}
use Rattle.mg_sched.specs.Places.{source_of, place_of, first_edge, lengths_of, with_engine, with_limits}
use Rattle.mg_sched.specs.StandsFor.{StandsFor, StandsForSome, IsRunning}
use Rattle.mg_sched.specs.Acts.{Acts, IsAnyFull, Brings, ClaimsNext, all_noted, with_noted}
use Rattle.mg_sched.specs.AtRest.{IsAtRest}
use Rattle.mg_sched.specs.Sweeps.{Becomes, itself}
use Rattle.mg_sched.specs.Heard.{Heard}
use Rattle.mg_sched.specs.Code.Agendas.{AgendaView, IsAgendaOf, LeadsFrom, IsFirstFrom}
use Rattle.mg_sched.specs.Code.Left.{Goes, Steps, RestsAt, EdgesRest, NodesRest}
use Rattle.mg_sched.specs.Code.Quiet.{Notes, HasBrought, IsDone, RestBut, RestsBut, IsKeptBy, RestsButKept, EdgesRestFrom, EdgesRestInto, EdgesRestBehind, RestsHere}
use Rattle.mg_sched.proofs.Finding.{found, valid, places, engine_there, intake_there, work_queue_there}
use Rattle.mg_sched.proofs.Carrying.{intake_of, queues_long, source_there, target_there}
use Rattle.mg_sched.proofs.PlanEdges.{edge_ends, edge_number, edge_place, edge_stream}
use Rattle.mg_sched.proofs.PlanStreams.{producer_there}
use Rattle.mg_sched.proofs.IdleStays.{noted_same, all_noted_same, know_ports, brought_none, same_parts, raised_none, not_advanced}
use Rattle.mg_sched.proofs.Sweeping.{rests, goes_false, still_idle, agenda_long}
use Rattle.mg_sched.proofs.Touching.{stays_in}

-- If no queue is full no feeder is throttled.
throttled_full : (net : NetView) (feeder : Feeder) → ¬ IsAnyFull net.limits → IsThrottled net.plan net.limits feeder → ⊥
throttled_full net feeder free t = free (list_any-from_Any is_full net.limits.queues (t.0, t.1, t.2, t.3, t.4.0))

-- What a place tells if nothing was done there.

-- a delivery that moves nothing, of these parts
brought_by : (answer : Delivered) (e : Edge) (engine own : EngineView) (intake came now : IntakeView) → answer ≡ Moved 0 false → own ≡ engine → came ≡ intake → now ≡ came
    → Delivers answer (output_at own e) e.port 4294967295 came.waits now.waits → HasBrought engine e intake
brought_by answer e engine own intake came now is same_engine same_intake same d =
    let here : Delivers answer (output_at own e) e.port 4294967295 came.waits came.waits = subst (λ (i : IntakeView). Delivers answer (output_at own e) e.port 4294967295 came.waits i.waits) same d in
    let there : Delivers answer (output_at own e) e.port 4294967295 intake.waits intake.waits = subst (λ (i : IntakeView). Delivers answer (output_at own e) e.port 4294967295 i.waits i.waits) same_intake here in
    let by : Delivers answer (output_at engine e) e.port 4294967295 intake.waits intake.waits = subst (λ (g : EngineView). Delivers answer (output_at g e) e.port 4294967295 intake.waits intake.waits) same_engine there in
    subst (λ (a : Delivered). Delivers a (output_at engine e) e.port 4294967295 intake.waits intake.waits) is by

brings_brought : (net : NetView) (number place : ℕ) (e : Edge) (engine : EngineView) (intake : IntakeView) → Brings number e Idle net net → source_of net.plan e ≡ Some place → slice_get net.engines place ≡ Some engine
    → slice_get net.intakes e.node ≡ Some intake → HasBrought engine e intake
brings_brought net number place e engine intake b from at to =
    let same_place : b.place ≡ place = same_Some b.place place (sym b.from ∙ from) in
    let none : b.answer ≡ Moved 0 false = brought_none b.answer (sym b.effect_is) in
    brought_by b.answer e engine b.engine intake b.intake b.intake_now none
    (same_Some b.engine engine (sym b.at ∙ ap (λ (k : ℕ). slice_get net.engines k) same_place ∙ at))
    (same_Some b.intake intake (sym b.to ∙ to)) (b.still none) b.moved

pub has_brought : (laws : Laws) (net : NetView) (number place : ℕ) (e : Edge) (engine : EngineView) (intake : IntakeView) → ¬ IsAnyFull net.limits → Acts laws (Deliver number) Idle net net → slice_get net.plan.edges number ≡ Some e
    → source_of net.plan e ≡ Some place → slice_get net.engines place ≡ Some engine → slice_get net.intakes e.node ≡ Some intake → HasBrought engine e intake
has_brought laws net number place e engine intake free d there from at to = elim d.delivered [
  | inl held ↦ absurd (throttled_full net _ free held.0.throttled)
  | inr brings ↦ brings_brought net number place e engine intake
      (subst (λ (x : Edge). Brings number x Idle net net) (same_Some d.edge e (sym d.there ∙ there)) brings.1) from at to
]

claims_none : (engine engine_now : EngineView) (intake intake_now : IntakeView)
    → (Claims {C = ℕ} NotReady engine engine_now intake intake_now
    ⊎ (Claims {C = ℕ} InFlightFull engine engine_now intake intake_now
    ⊎ (Claims {C = ℕ} Draining engine engine_now intake intake_now
    ⊎ Claims {C = ℕ} Ended engine engine_now intake intake_now)))
    → Claims {C = ℕ} NotReady engine engine intake intake
    ⊎ (Claims {C = ℕ} InFlightFull engine engine intake intake
    ⊎ (Claims {C = ℕ} Draining engine engine intake intake
    ⊎ Claims {C = ℕ} Ended engine engine intake intake))
claims_none engine engine_now intake intake_now c = elim c [
  | inl early ↦ inl (early.0, early.1, record { same_engine = refl; same_intake = refl })
  | inr (inl full) ↦ inr (inl (full.0, full.1, full.2, record { same_engine = refl; same_intake = refl }))
  | inr (inr (inl draining)) ↦ inr (inr (inl (draining.0, draining.1, draining.2, record { same_engine = refl; same_intake = refl })))
  | inr (inr (inr ended)) ↦ inr (inr (inr (ended.0, record { same_engine = refl; same_intake = refl })))
]

-- a claim of no work is one of these parts
abbrev ClaimsNone : EngineView → IntakeView → Type 0
ClaimsNone engine intake =
    Claims {C = ℕ} NotReady engine engine intake intake
    ⊎ (Claims {C = ℕ} InFlightFull engine engine intake intake
    ⊎ (Claims {C = ℕ} Draining engine engine intake intake
    ⊎ Claims {C = ℕ} Ended engine engine intake intake))

next_none : (net : NetView) (node : ℕ) (engine : EngineView) (intake : IntakeView) → ClaimsNext node Idle net net → slice_get net.engines node ≡ Some engine → slice_get net.intakes node ≡ Some intake → ClaimsNone engine intake
next_none net node engine intake c at to =
    subst (λ (i : IntakeView). ClaimsNone engine i) (same_Some c.intake intake (sym c.to ∙ to))
    (subst (λ (g : EngineView). ClaimsNone g c.intake) (same_Some c.engine engine (sym c.at ∙ at)) (claims_none c.engine c.engine_now c.intake c.intake_now c.claims.0))

pub is_done : {laws : Laws} (net : NetView) (node : ℕ) (engine : EngineView) (intake : IntakeView) (work_queue : WorkQueueView) → ¬ IsAnyFull net.limits → RestsAt laws net node → slice_get net.engines node ≡ Some engine → slice_get net.intakes node ≡ Some intake
    → slice_get net.work_queues node ≡ Some work_queue → IsDone engine intake work_queue
is_done {laws} net node engine intake work_queue free h at to on =
    let a = h.advances in
    let same_engine = same_Some a.engine engine (sym a.at ∙ at) in
    let same_intake = same_Some a.intake intake (sym a.to ∙ to) in
    record {
      claims = elim h.claims [
        | inl held ↦ absurd (throttled_full net _ free held.0.throttled)
        | inr claims ↦ next_none net node engine intake claims.1 at to
      ];
      works = h.works work_queue on;
      shelf = λ number. h.shelf engine number at;
      raises = subst (λ (i : IntakeView). is_advanced engine i.waits ≡ false) same_intake
          (subst (λ (g : EngineView). is_advanced g a.intake.waits ≡ false) same_engine (not_advanced (is_advanced a.engine a.intake.waits) (sym a.effect_is)));
    }

-- A place whose parts tell so has nothing to do.

pub delivers_none : {laws : Laws} (net : NetView) (number place : ℕ) (e : Edge) (engine : EngineView) (intake : IntakeView) → StandsForSome laws net → ¬ IsAnyFull net.limits → slice_get net.plan.edges number ≡ Some e
    → source_of net.plan e ≡ Some place → slice_get net.engines place ≡ Some engine → slice_get net.intakes e.node ≡ Some intake → HasBrought engine e intake → Acts laws (Deliver number) Idle net net
unfolding StandsFor
delivers_none {laws} net number place e engine intake some free there from at to h =
    let within = slice_get_within net.plan.edges number e there in
    let long = queues_long net some in
    let q = found net.limits.queues number (omega (arith, within, long)) in
    let known = (some.stands.limits.queues number e q.0 there q.1).waiting intake to in
    let waiting = length (port_queue intake.waits e.port).packets in
    let brings : Brings number e Idle net net = record {
      place = place;
      from = from;
      engine = engine;
      at = at;
      intake = intake;
      to = to;
      answer = Moved 0 false;
      intake_now = intake;
      moved = h;
      claimed = refl;
      still = λ is. refl;
      effect_is = refl;
      now_is = sym (ap (λ (is : List IntakeView). with_noted (record net { intakes = is }) number (waiting ∷ [])) (same_put net.intakes e.node intake to)
          ∙ ap (λ (qs : List Queue). with_limits net (record net.limits { queues = qs })) (noted_same net.limits.queues number waiting q.0 q.1 known));
    } in
    record { edge = e; there = there; delivered = inr ((λ held. throttled_full net _ free held.throttled), brings) }

claims_nothing : {laws : Laws} (net : NetView) (node : ℕ) (engine : EngineView) (intake : IntakeView) (work_queue : WorkQueueView) → StandsForSome laws net → IsRunning net → node < length net.plan.nodes → slice_get net.engines node ≡ Some engine
    → slice_get net.intakes node ≡ Some intake → slice_get net.work_queues node ≡ Some work_queue → IsDone engine intake work_queue → ClaimsNext node Idle net net
claims_nothing {laws} net node engine intake work_queue some running there at to on d =
    let first = first_edge net.plan node in
    let told : all_noted net.limits.queues first (lengths_of intake.waits) ≡ net.limits.queues =
    all_noted_same (lengths_of intake.waits) net.limits.queues first (know_ports some.job net node intake some.stands running there to) in
    record {
      engine = engine;
      at = at;
      intake = intake;
      to = to;
      work_queue = work_queue;
      on = on;
      engine_now = engine;
      intake_now = intake;
      work_queue_now = work_queue;
      claims = (d.claims, refl);
      now_is = sym (ap (λ (v : NetView). with_noted v first (lengths_of intake.waits)) (same_parts net node engine intake work_queue at to on)
          ∙ ap (λ (qs : List Queue). with_limits net (record net.limits { queues = qs })) told);
    }

pub rests_at : {laws : Laws} (net : NetView) (node : ℕ) (engine : EngineView) (intake : IntakeView) (work_queue : WorkQueueView) → StandsForSome laws net → IsRunning net → ¬ IsAnyFull net.limits → node < length net.plan.nodes → slice_get net.engines node ≡ Some engine
    → slice_get net.intakes node ≡ Some intake → slice_get net.work_queues node ≡ Some work_queue → IsDone engine intake work_queue → RestsAt laws net node
rests_at {laws} net node engine intake work_queue some running free there at to on d = record {
  claims = inr ((λ held. throttled_full net _ free held.throttled), claims_nothing net node engine intake work_queue some running there at to on d);
  works = λ other other_on. subst (λ (k : WorkQueueView). k.works ≡ []) (same_Some work_queue other (sym on ∙ other_on)) d.works;
  shelf = λ other number other_at. subst (λ (g : EngineView). shelf_at g number ≡ None) (same_Some engine other (sym at ∙ other_at)) (d.shelf number);
  advances = record {
    engine = engine;
    at = at;
    intake = intake;
    to = to;
    effect_is = sym (ap (λ (b : Bool). (let e : Effect = if b then Did else Idle in e)) d.raises);
    now_is = sym (ap (λ (outputs : List (Backlog Plain)). with_engine net node (record engine { outputs = outputs })) (raised_none (advance_bound engine intake.waits) engine.outputs d.raises)
        ∙ ap (λ (es : List EngineView). (let v : NetView = record net { engines = es } in v)) (same_put net.engines node engine at));
  };
}

-- Nets whose places all rest but some.

-- all places are touched
pub rests_none : (net : NetView) (agenda : AgendaView) (count : ℕ) → length net.plan.nodes ≤ count → ((n : ℕ) → n ≤ count → IsIn agenda.touched n) → RestsBut net agenda
rests_none net agenda count few all = record {
  edges = λ number place e engine intake there upto from out_from out_to at to. absurd (out_to (all e.node (omega (arith, upto, few))));
  nodes = λ node engine intake work_queue there out at to on. absurd (out (all node (omega (arith, there, few))));
}

-- all that has changed is touched
pub rests_still : (before : NetView) (agenda : AgendaView) (now : NetView) (agenda_now : AgendaView) → now.plan ≡ before.plan → Notes before agenda now agenda_now → RestsBut before agenda → RestsBut now agenda_now
rests_still before agenda now agenda_now same notes h =
    subst (λ (p : Plan). RestBut p now.engines now.intakes now.work_queues agenda_now.touched) (sym same)
    (record {
      edges = λ number place e engine intake there upto from out_from out_to at to.
          h.edges number place e engine intake there upto from (λ is. out_from (notes.grows place is)) (λ is. out_to (notes.grows e.node is))
          (sym (notes.engines place out_from) ∙ at) (sym (notes.intakes e.node out_to) ∙ to);
      nodes = λ node engine intake work_queue there out at to on.
          h.nodes node engine intake work_queue there (λ is. out (notes.grows node is)) (sym (notes.engines node out) ∙ at) (sym (notes.intakes node out) ∙ to) (sym (notes.work_queues node out) ∙ on);
    })

was_out : (touched now : ReadyNodes) (place other : ℕ) → ChangesOnly touched now place → other ≢ place → ¬ IsIn now other → ¬ IsIn touched other
was_out touched now place other only apart out is = out ((only.others other apart).1 is)

-- a place that rests isn't touched any more
pub rests_here : {laws : Laws} (net : NetView) (agenda agenda_now : AgendaView) (place : ℕ) → ¬ IsAnyFull net.limits → ChangesOnly agenda.touched agenda_now.touched place → RestsHere laws net place → RestsBut net agenda → RestsBut net agenda_now
rests_here {laws} net agenda agenda_now place free only here h = record {
  edges = λ number source e engine intake there upto from out_from out_to at to. elim (cases_eq source place) [
    | inl same ↦ has_brought laws net number source e engine intake free (here.behind number (e, there, from ∙ ap (λ (k : ℕ). Some k) same)) there from at to
    | inr other ↦ elim (cases_eq e.node place) [
      | inl same ↦ has_brought laws net number source e engine intake free (here.into number e there same) there from at to
      | inr apart ↦ h.edges number source e engine intake there upto from (was_out agenda.touched agenda_now.touched place source only other out_from)
          (was_out agenda.touched agenda_now.touched place e.node only apart out_to) at to
    ]
  ];
  nodes = λ node engine intake work_queue there out at to on. elim (cases_eq node place) [
    | inl same ↦ is_done net node engine intake work_queue free
        (subst (λ (k : ℕ). RestsAt laws net k) (sym same) (here.node (subst (λ (k : ℕ). k < length net.plan.nodes) same there))) at to on
    | inr apart ↦ h.nodes node engine intake work_queue there (was_out agenda.touched agenda_now.touched place node only apart out) at to on
  ];
}

-- every edge leads from a place
edge_source : {laws : Laws} (net : NetView) (number : ℕ) (e : Edge) → StandsForSome laws net → slice_get net.plan.edges number ≡ Some e → (place : ℕ) × (source_of net.plan e ≡ Some place)
edge_source {laws} net number e some there =
    let ok = valid net some in
    let it = producer_there net.plan ok e.stream (edge_stream net.plan ok number e there) in
    (place_of net.plan it.0.producer, ap (λ (s : Option PlanStream). option_map (place_of net.plan) (option_map (λ x. x.producer) s)) it.1)

-- no place is touched
pub all_rest : {laws : Laws} (net : NetView) (agenda : AgendaView) → StandsForSome laws net → IsRunning net → ¬ IsAnyFull net.limits → IsEmpty agenda.touched → RestsBut net agenda → IsAtRest laws net
all_rest {laws} net agenda some running free none h = rests net some edges nodes (inl (free, record { idle = refl; same = refl }))
  where
    edges : EdgesRest laws net (length net.plan.edges)
    edges = λ number less.
        (let e = found net.plan.edges number less in
        let source = edge_source net number e.0 some e.1 in
        let engine = found net.engines source.0 (source_there net number source.0 e.0 some e.1 source.1) in
        let intake = found net.intakes e.0.node (target_there net number e.0 some e.1) in
        delivers_none net number source.0 e.0 engine.0 intake.0 some free e.1 source.1 engine.1 intake.1
        (h.edges number source.0 e.0 engine.0 intake.0 e.1 (edge_ends net.plan (valid net some) number e.0 e.1).0 source.1 (none source.0) (none e.0.node) engine.1 intake.1))

    nodes : NodesRest laws net (length net.plan.nodes)
    nodes = λ node less.
        (let engine = found net.engines node (engine_there net node some less) in
        let intake = found net.intakes node (intake_there net node some less) in
        let work_queue = found net.work_queues node (work_queue_there net node some less) in
        rests_at net node engine.0 intake.0 work_queue.0 some running free less engine.1 intake.1 work_queue.1 (h.nodes node engine.0 intake.0 work_queue.0 less (none node) engine.1 intake.1 work_queue.1))

-- How places are looked over, one after the other.

-- a step that relaxed nothing found no queue full
idle_not_did : Idle ≡ Did → ⊥
idle_not_did e = absurd cc

relax_idle : (laws : Laws) (a : NetView) → Acts laws Relax Idle a a → ¬ IsAnyFull a.limits
relax_idle laws a r full = elim r [
  | inl free ↦ free.0 full
  | inr does ↦ idle_not_did does.1
]

pub relaxed_none : (laws : Laws) (did : Bool) (a b : NetView) → did ≡ false → Steps laws did Relax a b → ¬ IsAnyFull b.limits
relaxed_none laws true a b isnt s = absurd (false≢true (sym isnt))
relaxed_none laws false a b isnt s = subst (λ (v : NetView). ¬ IsAnyFull v.limits) (sym s.0) (relax_idle laws a s.1)

-- if nothing was done first, what is done then is all
pub goes_next : (first second : Bool) (a b c : NetView) → first ≡ false → Goes first a b → Goes second b c → Goes second a c
goes_next first second a b c isnt one two = subst (λ (v : NetView). Goes second v c) (goes_false first a b isnt one) two

-- a place at which nothing was done
pub place_rests : {laws : Laws} (came sent worked : Bool) (a b c d : NetView) (place : ℕ) → Goes came a b → Goes sent b c → Goes worked c d → (came ≡ false → EdgesRestInto laws b place) → (sent ≡ false → EdgesRestBehind laws c place)
    → (worked ≡ false → place < length d.plan.nodes → RestsAt laws d place) → ((came || sent) || worked) ≡ false → RestsHere laws d place
place_rests {laws} true sent worked a b c d place one two three into behind node isnt = absurd (false≢true (sym isnt))
place_rests {laws} false true worked a b c d place one two three into behind node isnt = absurd (false≢true (sym isnt))
place_rests {laws} false false true a b c d place one two three into behind node isnt = absurd (false≢true (sym isnt))
place_rests {laws} false false false a b c d place one two three into behind node isnt = record {
  into = subst (λ (v : NetView). EdgesRestInto laws v place) (sym (three ∙ two)) (into refl);
  behind = subst (λ (v : NetView). EdgesRestBehind laws v place) (sym three) (behind refl);
  node = node refl;
}

-- and it isn't touched any more
pub settles : {laws : Laws} (net now : NetView) (agenda next agenda_now : AgendaView) (place : ℕ) → now ≡ net → agenda_now ≡ next → ¬ IsAnyFull net.limits → ChangesOnly agenda.touched next.touched place → RestsHere laws now place → RestsBut net agenda
    → RestsBut now agenda_now
settles {laws} net now agenda next agenda_now place same unchanged free only here h =
    subst (λ (v : NetView). RestsBut v agenda_now) (sym same)
    (subst (λ (a : AgendaView). RestsBut net a) (sym unchanged) (rests_here net agenda next place free only (subst (λ (v : NetView). RestsHere laws v place) same here) h))

-- if something was done at a place, the place is touched again
pub notes_again : (a : NetView) (k next : AgendaView) (b : NetView) (m last : AgendaView) (place : ℕ) → ChangesOnly k.touched next.touched place → Notes a next b m → IsIn last.touched place → ChangesOnly m.touched last.touched place
    → Notes a k b last
notes_again a k next b m last place took notes there put = record {
  grows = λ other is. elim (cases_eq other place) [
    | inl same ↦ subst (λ (n : ℕ). IsIn last.touched n) (sym same) there
    | inr apart ↦ (put.others other apart).1 (notes.grows other ((took.others other apart).1 is))
  ];
  engines = λ other out. notes.engines other (still_out other out);
  intakes = λ other out. notes.intakes other (still_out other out);
  work_queues = λ other out. notes.work_queues other (still_out other out);
}
  where
    still_out : (other : ℕ) → ¬ IsIn last.touched other → ¬ IsIn m.touched other
    still_out other out is = out (stays_in m.touched last.touched place other there put is)

-- Edges into a consumer, one port after the other.

-- no edge leads to a place after the collector's
pub into_none : {laws : Laws} (net : NetView) (place : ℕ) → StandsForSome laws net → length net.plan.nodes < place → EdgesRestInto laws net place
into_none {laws} net place some past = λ number e there same. absurd (let upto = (edge_ends net.plan (valid net some) number e there).0 in omega (arith, upto, same, past))

-- nor does an edge lead from a place after the last one
pub behind_none : {laws : Laws} (net : NetView) (place : ℕ) → StandsForSome laws net → length net.plan.nodes + length net.plan.inputs ≤ place → EdgesRestBehind laws net place
behind_none {laws} net place some past = λ number leads.
    absurd (let within = source_there net number place leads.0 some leads.1 leads.2 in let long = (places net some).0 in omega (arith, within, long, past))

pub ports_more : (laws : Laws) (did moved : Bool) (first k : ℕ) (a b : NetView) → (did ≡ false → (port : ℕ) → port < k → Acts laws (Deliver (first + port)) Idle a a) → Goes moved a b → (moved ≡ false → Acts laws (Deliver (first + k)) Idle b b)
    → (did || moved) ≡ false → (port : ℕ) → port < k + 1 → Acts laws (Deliver (first + port)) Idle b b
ports_more laws true moved first k a b so_far goes last isnt = absurd (false≢true (sym isnt))
ports_more laws false true first k a b so_far goes last isnt = absurd (false≢true (sym isnt))
ports_more laws false false first k a b so_far goes last isnt =
    below_more (λ (port : ℕ). Acts laws (Deliver (first + port)) Idle b b) k (λ port less. still_idle laws (Deliver (first + port)) a b (sym goes) (so_far refl port less)) (last refl)

-- the edge of a port is there
pub port_edge : {laws : Laws} (net : NetView) (consumer first port : ℕ) → StandsForSome laws net → consumer ≤ length net.plan.nodes → first ≡ first_edge net.plan consumer → port < length (ports_of net.plan consumer) → first + port < length net.plan.edges
port_edge {laws} net consumer first port some upto is less =
    let e = edge_number net.plan (valid net some) consumer port upto less in
    let within = slice_get_within net.plan.edges (first_edge net.plan consumer + port) e.0 e.1 in
    omega (arith, within, is)

pub few_edges : {laws : Laws} (net : NetView) → StandsForSome laws net → length net.plan.edges < 4294967296
few_edges {laws} net some = let few = (valid net some).ranges.edges in omega (arith, few)

-- and all edges into a consumer are those of its ports
pub into_all : {laws : Laws} (net : NetView) (consumer first ports : ℕ) → StandsForSome laws net → first ≡ first_edge net.plan consumer → ports ≡ length (ports_of net.plan consumer)
    → ((port : ℕ) → port < ports → Acts laws (Deliver (first + port)) Idle net net) → EdgesRestInto laws net consumer
into_all {laws} net consumer first ports some is count all = λ number e there same.
    (let at = edge_place net.plan (valid net some) number e there in
    let less : e.port < ports = subst (λ (n : ℕ). e.port < n) (ap (λ (k : ℕ). length (ports_of net.plan k)) same ∙ sym count) at.1 in
    let number_is : first + e.port ≡ number = ap (λ (k : ℕ). k + e.port) (is ∙ ap (first_edge net.plan) (sym same)) ∙ sym at.0 in
    subst (λ (k : ℕ). Acts laws (Deliver k) Idle net net) number_is (all e.port less))

pub behind_all : (laws : Laws) (plan : Plan) (place : ℕ) (agenda : AgendaView) (net : NetView) (first : Option ℕ) → IsAgendaOf plan agenda → net.plan ≡ plan → place < length agenda.heads → first ≡ slice_index_or agenda.starts place None
    → EdgesRestFrom laws plan first net → EdgesRestBehind laws net place
behind_all laws plan place agenda net first of same within is all = λ number leads.
    (let count = of.start_count in
    all place 0 number (subst (IsFirstFrom plan 0 place) (sym is) (of.leads.first place (omega (arith, within, count)))) (omega arith)
    (subst (λ (p : Plan). LeadsFrom p place number) same leads))

-- The ports of a consumer.

pub consumer_there : {laws : Laws} (net : NetView) (consumer : ℕ) → StandsForSome laws net → consumer ≤ length net.plan.nodes → consumer < length net.intakes
consumer_there {laws} net consumer some upto = let long = (places net some).1 in omega (arith, upto, long)

pub consumer_fits : {laws : Laws} (shown net : NetView) (consumer n : ℕ) → shown ≡ net → StandsForSome laws net → consumer ≤ length net.plan.nodes → n ≡ length shown.intakes → consumer < n
consumer_fits {laws} shown net consumer n is some upto long =
    let within = subst (λ (v : NetView). consumer < length v.intakes) (sym is) (consumer_there net consumer some upto) in omega (arith, within, long)

pub ports_counted : {laws : Laws} (net : NetView) (consumer : ℕ) (intake : IntakeView) → StandsForSome laws net → consumer ≤ length net.plan.nodes → slice_get net.intakes consumer ≡ Some intake → ports_in intake.waits ≡ length (ports_of net.plan consumer)
unfolding StandsFor
ports_counted {laws} net consumer intake some upto to =
    intake_ports some.job consumer intake (intake_of some.job net consumer intake some.stands upto to) ∙ sym (ap (λ (p : Plan). length (ports_of p consumer)) some.stands.plan)

-- An agenda of a net, if nothing is known of the net.

pub woken : (known : Bool) (net : NetView) (agenda now : AgendaView) → IsAgendaOf net.plan agenda → (known ≡ true → now ≡ agenda) → (known ≡ false → (n : ℕ) → n ≤ length agenda.heads → IsIn now.touched n)
    → (known ≡ true → RestsBut net agenda) → RestsBut net now
woken true net agenda now of same all rests = subst (λ (a : AgendaView). RestsBut net a) (sym (same refl)) (rests refl)
woken false net agenda now of same all rests = rests_none net now (length agenda.heads) (let long = of.places in omega (arith, long)) (all refl)

-- Nets that were only taken up and laid down between.

pub becomes_same : {laws : Laws} (a b : NetView) → b ≡ a → Becomes laws a b
becomes_same {laws} a b same = subst (λ (v : NetView). Becomes laws a v) (sym same) itself

pub becomes_between : {laws : Laws} (a b c d : NetView) → b ≡ a → d ≡ c → Becomes laws b c → Becomes laws a d
becomes_between {laws} a b c d before after h = subst (λ (v : NetView). Becomes laws a v) (sym after) (subst (λ (v : NetView). Becomes laws v c) before h)

pub heard_between : (laws : Laws) {H : Type 0} (has_heard : H → H → List Event → Type 0) (x y : H) (a b c d : NetView) → b ≡ a → d ≡ c → Heard laws has_heard x y b c → Heard laws has_heard x y a d
heard_between laws {H} has_heard x y a b c d before after h = subst (λ (v : NetView). Heard laws has_heard x y a v) (sym after) (subst (λ (v : NetView). Heard laws has_heard x y v c) before h)

-- The agenda that a net has kept, as it is taken up again.

pub kept_agenda : (shown net : NetView) (slot : Option AgendaView) (agenda now : AgendaView) → shown ≡ net → IsKeptBy shown.plan slot → slot ≡ Some agenda → length now.heads ≡ length agenda.heads
    → (now.starts ≡ agenda.starts) × (now.links ≡ agenda.links) → IsAgendaOf net.plan now
kept_agenda shown net slot agenda now is kept there heads leads =
    agenda_long net.plan agenda now (subst (λ (v : NetView). IsAgendaOf v.plan agenda) is (subst (λ (o : Option AgendaView). IsKeptBy shown.plan o) there kept)) heads leads.1 leads.0

pub kept_rests : (known : Bool) (shown net : NetView) (slot : Option AgendaView) (agenda now : AgendaView) → shown ≡ net → IsKeptBy shown.plan slot → (known ≡ true → RestsButKept shown.plan shown.engines shown.intakes shown.work_queues slot)
    → slot ≡ Some agenda → (known ≡ true → now ≡ agenda) → (known ≡ false → (n : ℕ) → n ≤ length agenda.heads → IsIn now.touched n) → RestsBut net now
kept_rests known shown net slot agenda now is kept rests there same all =
    woken known net agenda now (subst (λ (v : NetView). IsAgendaOf v.plan agenda) is (subst (λ (o : Option AgendaView). IsKeptBy shown.plan o) there kept)) same all
    (λ is_known. subst (λ (v : NetView). RestsBut v agenda) is (subst (λ (o : Option AgendaView). RestsButKept shown.plan shown.engines shown.intakes shown.work_queues o) there (rests is_known)))

-- and a new agenda

pub new_agenda : (shown net : NetView) (agenda now : AgendaView) → shown ≡ net → IsAgendaOf shown.plan agenda → length now.heads ≡ length agenda.heads → (now.starts ≡ agenda.starts) × (now.links ≡ agenda.links) → IsAgendaOf net.plan now
new_agenda shown net agenda now is of heads leads = agenda_long net.plan agenda now (subst (λ (v : NetView). IsAgendaOf v.plan agenda) is of) heads leads.1 leads.0

pub new_rests : (shown net : NetView) (agenda now : AgendaView) → shown ≡ net → IsAgendaOf shown.plan agenda → ((n : ℕ) → n ≤ length agenda.heads → IsIn now.touched n) → RestsBut net now
new_rests shown net agenda now is of all =
    (let long = (subst (λ (v : NetView). IsAgendaOf v.plan agenda) is of).places in rests_none net now (length agenda.heads) (omega (arith, long)) all)

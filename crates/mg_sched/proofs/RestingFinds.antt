-- A look whether a net is at rest.
use Rattle.std.proofs.Common.{◌≡◌, ℕ, ◌+◌, ◌<◌, ◌++◌, Bool, true, false, not, List, [], ◌∷◌, length, Some, Ok, Err, Result, IsSomeAnd, option_map, slice_get, inr, refl, sym, ap, subst, arith}
use borrow.Author.Count.{below_more}
use Rattle.mg_value.specs.Payload.{Plain}
use Rattle.mg_calc.specs.Rules.{Laws}
use Rattle.mg_calc.specs.declared.cause.Cause.{Cause}
use Rattle.mg_calc.specs.declared.emission.Laid.{Laid}
use Rattle.mg_calc.specs.declared.event.Event.{Event}
use Rattle.mg_calc.specs.declared.event.Event.TheVariants.{Deliver, Advance, Claim, Perform, Commit, Relax}
use Rattle.mg_calc.specs.declared.event.Effect.{Effect}
use Rattle.mg_calc.specs.declared.event.Effect.TheVariants.{Idle}
use Rattle.mg_calc.specs.Answer.{Answer}
use Rattle.mg_node.specs.Views.{WorkView, PerformedView, EngineView}
use Rattle.mg_node.specs.Job.{calls_in}
use Rattle.mg_node.specs.Lawful.{answer_in}
use Rattle.mg_node.specs.Running.{IsPerformed}
use Rattle.mg_node.specs.Shelves.{outcome_of, shelved}
use Rattle.mg_sched.specs.Views.{WorkQueueView, NetView}
use Rattle.mg_sched.specs.Places.{with_engine, with_work_queue}
use Rattle.mg_sched.specs.StandsFor.{StandsForSome, IsRunning}
use Rattle.mg_sched.specs.Acts.{IsEventOf, Acts}
use Rattle.mg_sched.specs.AtRest.{MayGoOn, LooksOver}
use Rattle.mg_sched.specs.Sweeps.{Becomes}
use Rattle.mg_sched.specs.Code.Left.{HasWork, HasNoWork, HasShelf, HasNoShelf, RestsAt, NodesRest, EdgesRest, effect_if, Finds}
use Rattle.mg_sched.proofs.Finding.{found, places, work_queue_there}
use Rattle.mg_sched.proofs.IdleStays.{idle_same}
use Rattle.mg_sched.proofs.Becoming.{becomes_one, becomes_runs, becomes_some, becomes_trans}
use Rattle.mg_sched.proofs.Sweeping.{rests, due_shelves, still_there}
use Rattle.mg_route.specs.HolderView.{held_rules}

-- One event.

pub finds_one : {laws : Laws} (b : Bool) (event : Event) (effect : Effect) (before now : NetView) → IsEventOf before event → IsRunning before → StandsForSome laws before → effect ≡ effect_if b → Acts laws event effect before now
    → Finds laws b (Acts laws event Idle before before) before now
finds_one {laws} true event effect before now of running some is acts = record { event = event; is_event = of; there = now; acts = subst (λ (x : Effect). Acts laws event x before now) is acts }
finds_one {laws} false event effect before now of running some is acts =
    let idle : Acts laws event Idle before now = subst (λ (x : Effect). Acts laws event x before now) is acts in
    let same : now ≡ before = idle_same some.job event before now of running some.stands idle in (same, subst (λ (v : NetView). Acts laws event Idle before v) same idle)

pub finds_that : (laws : Laws) (b : Bool) (P Q : Type 0) (before now : NetView) → (P → Q) → Finds laws b P before now → Finds laws b Q before now
finds_that laws true P Q before now all h = h
finds_that laws false P Q before now all h = (h.0, all h.1)

pub found_some : {laws : Laws} (b : Bool) (P : Type 0) (before now : NetView) → b ≡ true → Finds laws b P before now → MayGoOn laws before
found_some {laws} b P before now is h = subst (λ (x : Bool). Finds laws x P before now) is h

pub found_none : (laws : Laws) (b : Bool) (P : Type 0) (before now : NetView) → b ≡ false → Finds laws b P before now → (now ≡ before) × P
found_none laws b P before now is h = subst (λ (x : Bool). Finds laws x P before now) is h

-- One along an edge of a net that is as it was.

edge_there : (k count : ℕ) (before mid : NetView) → mid ≡ before → k < count → count ≡ length before.plan.edges → k < length mid.plan.edges
edge_there k count before mid same less is = (let long = ap (λ (v : NetView). length v.plan.edges) same in omega (arith, less, is, long))

pub edge_finds : {laws : Laws} (b : Bool) (k count : ℕ) (effect : Effect) (before mid now : NetView) → mid ≡ before → IsRunning before → StandsForSome laws before → k < count → count ≡ length before.plan.edges → effect ≡ effect_if b → Acts laws (Deliver k) effect mid now
    → Finds laws b (Acts laws (Deliver k) Idle mid mid) mid now
edge_finds {laws} b k count effect before mid now same running some less is tells acts =
    finds_one b (Deliver k) effect mid now (edge_there k count before mid same less is) (subst IsRunning (sym same) running) (subst (StandsForSome laws) (sym same) some) tells acts

pub edge_becomes : {laws : Laws} (k count : ℕ) (effect : Effect) (before mid now : NetView) → mid ≡ before → k < count → count ≡ length before.plan.edges → Acts laws (Deliver k) effect mid now → Becomes laws before now
edge_becomes {laws} k count effect before mid now same less is acts = subst (λ (v : NetView). Becomes laws v now) same (becomes_one (Deliver k) effect mid now (edge_there k count before mid same less is) acts)

-- One at a node, after others.

pub raise_finds : {laws : Laws} (b : Bool) (node : ℕ) (effect : Effect) (before mid now : NetView) → node < length before.plan.nodes → IsRunning before → StandsForSome laws before → Becomes laws before mid → effect ≡ effect_if b → Acts laws (Advance node) effect mid now
    → Finds laws b (Acts laws (Advance node) Idle mid mid) mid now
raise_finds {laws} b node effect before mid now there running some since tells acts =
    finds_one b (Advance node) effect mid now (still_there node before mid since there) (becomes_runs before mid running since) (becomes_some before mid running some since) tells acts

pub raise_becomes : {laws : Laws} (node : ℕ) (effect : Effect) (before mid now : NetView) → node < length before.plan.nodes → Becomes laws before mid → Acts laws (Advance node) effect mid now → Becomes laws before now
raise_becomes {laws} node effect before mid now there since acts = becomes_trans before mid now since (becomes_one (Advance node) effect mid now (still_there node before mid since there) acts)

-- A work that is claimed would be performed.

abbrev performed_with : WorkView → List Plain → Result (List Laid) Cause → PerformedView
performed_with w state answer = record {
  work = record {
    node = w.node;
    number = w.number;
    phase = w.phase;
    context = record {
      told = record { law = w.context.told.law; shape = w.context.told.shape; state = state; log = option_map (λ calls. calls ++ calls_in w.phase w.context.set) w.context.told.log; handed = w.context.told.handed };
      set = w.context.set;
    };
  };
  answer = answer;
}

some_performed : {laws : Laws} (w : WorkView) (a : Answer) → answer_in (held_rules laws w.context.told) w.context.told.law w.context.told.state w.phase w.context.set ≡ a → (p : PerformedView) × IsPerformed laws w p
some_performed {laws} w (Ok given) is = (performed_with w given.0 (Ok given.1), record { same = refl; answer = is; log = refl; law = refl; shape = refl; same_handed = refl; set = refl })
some_performed {laws} w (Err cause) is = (performed_with w w.context.told.state (Err cause), record { same = refl; answer = (is, refl); log = refl; law = refl; shape = refl; same_handed = refl; set = refl })

performs_one : {laws : Laws} (net : NetView) (node number : ℕ) (engine : EngineView) (work_queue : WorkQueueView) (works : List WorkView) → node < length net.plan.nodes → slice_get net.engines node ≡ Some engine → slice_get net.work_queues node ≡ Some work_queue → work_queue.works ≡ works
    → IsSomeAnd (slice_get works 0) (λ w. w.number ≡ number) → MayGoOn laws net
performs_one {laws} net node number engine work_queue [] there at on are first = absurd first
performs_one {laws} net node number engine work_queue (w ∷ works) there at on are first =
    let p = some_performed w (answer_in (held_rules laws w.context.told) w.context.told.law w.context.told.state w.phase w.context.set) refl in
    record {
      event = Perform node number;
      is_event = there;
      there = with_work_queue (with_engine net node (shelved engine (outcome_of p.0))) node (record work_queue { works = works });
      acts = record { work_queue = work_queue; on = on; performed = inr (record { engine = engine; at = at; work = w; front = []; back = works; works = are; number_is = first; performed = (p.0, p.1, refl) }) };
    }

pub work_goes_on : {laws : Laws} (net : NetView) (node number : ℕ) → StandsForSome laws net → node < length net.plan.nodes → HasWork net node number → MayGoOn laws net
work_goes_on {laws} net node number some there has =
    let long = (places net some).0 in
    let engine = found net.engines node (omega (arith, there, long)) in
    let work_queue = found net.work_queues node (work_queue_there net node some there) in
    performs_one net node number engine.0 work_queue.0 work_queue.0.works there engine.1 work_queue.1 refl (has work_queue.0 work_queue.1)

-- Nodes.

pub commits_found : (laws : Laws) (b : Bool) (P : Type 0) (node number : ℕ) (before now : NetView) → HasShelf before node number → Finds laws b (Acts laws (Commit node number) Idle before before) before now → Finds laws b P before now
commits_found laws true P node number before now shelf h = h
commits_found laws false P node number before now shelf h = absurd (due_shelves laws node number before shelf h.1)

pub takes_found : (laws : Laws) (claimed raised : Bool) (node : ℕ) (before mid now : NetView) → HasNoWork before node → HasNoShelf before node → claimed ≡ false → Finds laws claimed (Acts laws (Claim node) Idle before before) before mid
    → Finds laws raised (Acts laws (Advance node) Idle mid mid) mid now → Finds laws raised (RestsAt laws before node) before now
takes_found laws claimed raised node before mid now works shelf is first second =
    let none = found_none laws claimed (Acts laws (Claim node) Idle before before) before mid is first in
    finds_that laws raised (Acts laws (Advance node) Idle before before) (RestsAt laws before node) before now (λ advances. record { claims = none.1; works = works; shelf = shelf; advances = advances })
    (subst (λ (v : NetView). Finds laws raised (Acts laws (Advance node) Idle v v) v now) none.0 second)

-- Nets.

pub edge_more : (laws : Laws) (b : Bool) (before mid now : NetView) (k : ℕ) → mid ≡ before → EdgesRest laws before k → b ≡ false → Finds laws b (Acts laws (Deliver k) Idle mid mid) mid now → (now ≡ before) × EdgesRest laws before (k + 1)
edge_more laws b before mid now k same rest is h =
    let none = found_none laws b (Acts laws (Deliver k) Idle before before) before now is (subst (λ (v : NetView). Finds laws b (Acts laws (Deliver k) Idle v v) v now) same h) in
    (none.0, below_more (λ (edge : ℕ). Acts laws (Deliver edge) Idle before before) k rest none.1)

pub node_more : {laws : Laws} (b : Bool) (before mid now : NetView) (k : ℕ) → mid ≡ before → NodesRest laws before k → b ≡ false → Finds laws b (RestsAt laws mid k) mid now → (now ≡ before) × NodesRest laws before (k + 1)
node_more {laws} b before mid now k same rest is h =
    let none = found_none laws b (RestsAt laws before k) before now is (subst (λ (v : NetView). Finds laws b (RestsAt laws v k) v now) same h) in
    (none.0, below_more (λ (node : ℕ). RestsAt laws before node) k rest none.1)

pub some_later : {laws : Laws} (before mid : NetView) → mid ≡ before → MayGoOn laws mid → MayGoOn laws before
some_later {laws} before mid same h = subst (MayGoOn laws) same h

pub looked_over : {laws : Laws} (edges nodes relaxed : Bool) (a b c d : NetView) → StandsForSome laws a → edges ≡ false → Finds laws edges (EdgesRest laws a (length a.plan.edges)) a b → nodes ≡ false → Finds laws nodes (NodesRest laws b (length b.plan.nodes)) b c
    → Finds laws relaxed (Acts laws Relax Idle c c) c d → LooksOver laws (not relaxed) a d
looked_over {laws} edges nodes relaxed a b c d some edges_none e nodes_none n r =
    let first = found_none laws edges (EdgesRest laws a (length a.plan.edges)) a b edges_none e in
    let second = found_none laws nodes (NodesRest laws a (length a.plan.nodes)) a c nodes_none (subst (λ (v : NetView). Finds laws nodes (NodesRest laws v (length v.plan.nodes)) v c) first.0 n) in
    by relaxed (subst (λ (v : NetView). Finds laws relaxed (Acts laws Relax Idle v v) v d) second.0 r) first.1 second.1
  where
    by : (x : Bool) → Finds laws x (Acts laws Relax Idle a a) a d → EdgesRest laws a (length a.plan.edges) → NodesRest laws a (length a.plan.nodes) → LooksOver laws (not x) a d
    by true f es ns = f
    by false f es ns = (f.0, rests a some es ns f.1)

-- The steps of a sweep, one after the other, and what is left once none does anything.
use Rattle.std.proofs.Common.{◌≡◌, ◌≢◌, ℕ, ◌<◌, ◌≤◌, ◌-◌, ◌||◌, Bool, true, false, List, [], ◌∷◌, length, All, Option, Some, None, IfSome, IfNone, IsSome, IsSomeAnd, slice_get, slice_set, ◌⊎◌, inl, inr, refl, sym, ap, subst, ◌∙◌, length-set, arith}
use Rattle.std.proofs.lemmas.Bool.{false≢true}
use Rattle.std.proofs.lemmas.List.Elements.{All-nil, recursion_from_All}
use Rattle.std.proofs.lemmas.Option.{same_Some}
use Rattle.mg_calc.specs.Rules.{Laws}
use Rattle.mg_calc.specs.declared.plan.Plan.{Plan}
use Rattle.mg_calc.specs.declared.event.Event.{Event}
use Rattle.mg_calc.specs.declared.event.Event.TheVariants.{Deliver, Advance, Claim, Perform, Commit, Relax}
use Rattle.mg_calc.specs.declared.event.Effect.TheVariants.{Idle}
use Rattle.mg_node.specs.Views.{WorkView, PerformedView, EngineView}
use Rattle.mg_node.specs.Shelves.{shelf_at}
use Rattle.mg_node.specs.Commits.{SomeJobHasEngine}
use Rattle.mg_sched.specs.Views.{WorkQueueView, NetView}
use Rattle.mg_sched.specs.StandsFor.{StandsForSome, IsRunning}
use Rattle.mg_sched.specs.Acts.{Acts, Rests, Performs, CommittedAt}
use Rattle.mg_sched.specs.AtRest.{IsAtRest}
use Rattle.mg_sched.specs.Code.Left.{left_in, Goes, Steps, HasWork, HasNoWork, HasShelf, HasNoShelf, WorksRest, RestsAt, NodesRest, EdgesRest}
use Rattle.mg_sched.specs.Sweeps.{Becomes}
use Rattle.mg_sched.specs.Code.Agendas.{AgendaView, IsAgendaOf, AreLeads}
use Rattle.mg_sched.proofs.Finding.{found, places, cell_at, work_queue_there, intake_there}
use Rattle.mg_sched.proofs.Becoming.{becomes_plan}

-- Some steps, and one more.

pub goes_less : (did : Bool) (a b c : NetView) → Goes did a b → left_in c < left_in b → left_in c < left_in a
goes_less true a b c g less = omega (arith, g, less)
goes_less false a b c g less = subst (λ (v : NetView). left_in c < left_in v) g less

pub goes_same : (did : Bool) (a b c : NetView) → Goes did a b → c ≡ b → Goes did a c
goes_same did a b c g same = subst (λ (v : NetView). Goes did a v) (sym same) g

pub goes_then : (one two : Bool) (a b c : NetView) → Goes one a b → Goes two b c → Goes (one || two) a c
goes_then true true a b c g h = omega (arith, g, h)
goes_then true false a b c g h = goes_same true a b c g h
goes_then false true a b c g h = subst (λ (v : NetView). left_in c < left_in v) g h
goes_then false false a b c g h = h ∙ g

pub goes_true : (did : Bool) (a b : NetView) → did ≡ true → Goes did a b → left_in b < left_in a
goes_true did a b is g = subst (λ (d : Bool). Goes d a b) is g

pub goes_false : (did : Bool) (a b : NetView) → did ≡ false → Goes did a b → b ≡ a
goes_false did a b is g = subst (λ (d : Bool). Goes d a b) is g

pub steps_go : (laws : Laws) (did : Bool) (event : Event) (a b : NetView) → Steps laws did event a b → Goes did a b
steps_go laws true event a b s = s
steps_go laws false event a b s = s.0

pub still_idle : (laws : Laws) (event : Event) (a b : NetView) → a ≡ b → Acts laws event Idle a a → Acts laws event Idle b b
still_idle laws event a b same acts = subst (λ (v : NetView). Acts laws event Idle v v) same acts

pub steps_none : (laws : Laws) (event : Event) (a b : NetView) → b ≡ a → Acts laws event Idle a b → Steps laws false event a b
steps_none laws event a b same acts = (same, subst (λ (v : NetView). Acts laws event Idle a v) same acts)

-- how many edges are left at most, if they come in the order of their numbers
abbrev pub edges_left : ℕ → Option ℕ → ℕ
edges_left count None = 0
edges_left count (Some edge) = count - edge

pub fewer_edges : (count edge : ℕ) (next : Option ℕ) → edge < count → IfSome next (λ e. (edge < e) × (e < count)) → edges_left count next < count - edge
fewer_edges count edge None within h = omega (arith, within)
fewer_edges count edge (Some e) within h = (let above = h.0 in omega (arith, within, above))

-- Nodes that have nothing to do.

-- a work that is there is performed
other_works : (number : ℕ) (works : List WorkView) → IsSomeAnd (slice_get works 0) (λ w. w.number ≡ number) → All (λ (w : WorkView). w.number ≢ number) works → ⊥
other_works number [] there none = absurd there
other_works number (w ∷ works) there none = (recursion_from_All (λ (x : WorkView). x.number ≢ number) (w ∷ works) none).0 there

pub due_works : (laws : Laws) (number : ℕ) (net : NetView) (node : ℕ) → HasWork net node number → Acts laws (Perform node number) Idle net net → ⊥
due_works laws number net node there p = go p.performed
  where
    go : (All (λ (w : WorkView). w.number ≢ number) p.work_queue.works × Rests Idle net net) ⊎ Performs laws node number Idle p.work_queue net net → ⊥
    go (inl none) = other_works number p.work_queue.works (there p.work_queue p.on) none.0
    go (inr performs) = performs.performed

-- and a performed work is committed
due_shelf : (node number : ℕ) (engine : EngineView) (net : NetView) (shelf : Option PerformedView) → IsSome shelf → CommittedAt node number shelf Idle engine net net → ⊥
due_shelf node number engine net None some c = false≢true some
due_shelf node number engine net (Some p) some c = c

pub due_shelves : (laws : Laws) (node number : ℕ) (net : NetView) → HasShelf net node number → Acts laws (Commit node number) Idle net net → ⊥
due_shelves laws node number net there c = due_shelf node number c.engine net (shelf_at c.engine number) (there c.engine c.at) c.committed

-- a step that isn't idle leaves less to do
pub due_less : (laws : Laws) (did : Bool) (event : Event) (a b : NetView) → ¬ Acts laws event Idle a a → Steps laws did event a b → left_in b < left_in a
due_less laws true event a b due s = s
due_less laws false event a b due s = absurd (due s.1)

pub works_rest : {laws : Laws} (node : ℕ) (did : Bool) (a b c : NetView) → Steps laws false (Claim node) a b → Goes did b c → HasNoWork c node → HasNoShelf c node → did ≡ false → WorksRest laws c node
works_rest {laws} node false a b c claims goes works shelf isnt = record { claims = still_idle laws (Claim node) a c (sym (goes ∙ claims.0)) claims.1; works = works; shelf = shelf }
works_rest {laws} node true a b c claims goes works shelf isnt = absurd (false≢true (sym isnt))

-- and if the node has no work, its outputs are raised
pub raises_go : (laws : Laws) (node : ℕ) (worked raised : Bool) (a b c : NetView) → Goes worked a b → worked ≡ false → Steps laws raised (Advance node) b c → Goes raised a c
raises_go laws node worked raised a b c works isnt advances = subst (λ (v : NetView). Goes raised v c) (goes_false worked a b isnt works) (steps_go laws raised (Advance node) b c advances)

pub raises_rest : {laws : Laws} (node : ℕ) (worked raised : Bool) (a b : NetView) → (worked ≡ false → WorksRest laws a node) → worked ≡ false → Steps laws raised (Advance node) a b → raised ≡ false → RestsAt laws b node
raises_rest {laws} node worked true a b works isnt advances still = absurd (false≢true (sym still))
raises_rest {laws} node worked false a b works isnt advances still =
    let same = advances.0 in
    let w = works isnt in
    record {
      claims = still_idle laws (Claim node) a b (sym same) w.claims;
      works = subst (λ (v : NetView). HasNoWork v node) (sym same) w.works;
      shelf = subst (λ (v : NetView). HasNoShelf v node) (sym same) w.shelf;
      advances = still_idle laws (Advance node) a b (sym same) advances.1;
    }

-- Nets that have nothing to do.

pub rests : {laws : Laws} (net : NetView) → StandsForSome laws net → EdgesRest laws net (length net.plan.edges) → NodesRest laws net (length net.plan.nodes) → Acts laws Relax Idle net net → IsAtRest laws net
rests {laws} net some edges nodes relaxes (Deliver edge) of = edges edge of
rests {laws} net some edges nodes relaxes (Advance node) of = (nodes node of).advances
rests {laws} net some edges nodes relaxes (Claim node) of = (nodes node of).claims
rests {laws} net some edges nodes relaxes (Perform node number) of =
    let long = (places net some).2 in
    let work_queue = found net.work_queues node (omega (arith, of, long)) in
    record {
      work_queue = work_queue.0;
      on = work_queue.1;
      performed = inl (subst (λ (ws : List WorkView). All (λ (w : WorkView). w.number ≢ number) ws) (sym ((nodes node of).works work_queue.0 work_queue.1)) (All-nil (λ (w : WorkView). w.number ≢ number)), record { idle = refl; same = refl });
    }
rests {laws} net some edges nodes relaxes (Commit node number) of =
    let long = (places net some).0 in
    let engine = found net.engines node (omega (arith, of, long)) in
    record {
      engine = engine.0;
      at = engine.1;
      committed = subst (λ (p : Option PerformedView). CommittedAt node number p Idle engine.0 net net) (sym ((nodes node of).shelf engine.0 number engine.1)) (record { idle = refl; same = refl });
    }
rests {laws} net some edges nodes relaxes Relax of = relaxes

-- Nets that a net becomes have its plan.

pub still_there : {laws : Laws} (node : ℕ) (before now : NetView) → Becomes laws before now → node < length before.plan.nodes → node < length now.plan.nodes
still_there {laws} node before now b there = subst (λ (p : Plan). node < length p.nodes) (sym (becomes_plan before now b)) there

pub still_edge : {laws : Laws} (edge : ℕ) (before now : NetView) → Becomes laws before now → edge < length before.plan.edges → edge < length now.plan.edges
still_edge {laws} edge before now b there = subst (λ (p : Plan). edge < length p.edges) (sym (becomes_plan before now b)) there

-- What a net's parts tell of it.

pub work_found : (r : Option ℕ) (net : NetView) (node : ℕ) (work_queue : WorkQueueView) → slice_get net.work_queues node ≡ Some work_queue
    → IfSome r (λ number. IsSomeAnd (slice_get work_queue.works 0) (λ w. w.number ≡ number)) → IfSome r (λ number. HasWork net node number)
work_found None net node work_queue at h = tt
work_found (Some number) net node work_queue at h = λ other there. subst (λ (d : WorkQueueView). IsSomeAnd (slice_get d.works 0) (λ w. w.number ≡ number)) (same_Some work_queue other (sym at ∙ there)) h

pub work_none : (r : Option ℕ) (net : NetView) (node : ℕ) (work_queue : WorkQueueView) → slice_get net.work_queues node ≡ Some work_queue → IfNone r (work_queue.works ≡ []) → IfNone r (HasNoWork net node)
work_none None net node work_queue at h = λ other there. subst (λ (d : WorkQueueView). d.works ≡ []) (same_Some work_queue other (sym at ∙ there)) h
work_none (Some number) net node work_queue at h = tt

pub shelf_found : (r : Option ℕ) (net : NetView) (node : ℕ) (engine : EngineView) → slice_get net.engines node ≡ Some engine
    → IfSome r (λ number. IsSome (shelf_at engine number)) → IfSome r (λ number. HasShelf net node number)
shelf_found None net node engine at h = tt
shelf_found (Some number) net node engine at h = λ other there. subst (λ (e : EngineView). IsSome (shelf_at e number)) (same_Some engine other (sym at ∙ there)) h

pub shelf_none : (r : Option ℕ) (net : NetView) (node : ℕ) (engine : EngineView) → slice_get net.engines node ≡ Some engine
    → IfNone r ((number : ℕ) → shelf_at engine number ≡ None) → IfNone r (HasNoShelf net node)
shelf_none None net node engine at h = λ other number there. subst (λ (e : EngineView). shelf_at e number ≡ None) (same_Some engine other (sym at ∙ there)) (h number)
shelf_none (Some n) net node engine at h = tt

-- a node's engine is lawful
pub some_engine : {laws : Laws} (net : NetView) (node : ℕ) (engine : EngineView) → StandsForSome laws net → IsRunning net → node < length net.plan.nodes → slice_get net.engines node ≡ Some engine → SomeJobHasEngine laws engine
some_engine {laws} net node engine some running there at =
    let work_queue = found net.work_queues node (work_queue_there net node some there) in
    let intake = found net.intakes node (intake_there net node some there) in
    record { job = some.job; number = node; lawful = (cell_at some.job net node engine intake.0 work_queue.0 some.stands running there at intake.1 work_queue.1).lawful_engine }

-- an agenda stays for the plan, and is as it was if nothing was done

pub agenda_on : {laws : Laws} (a b : NetView) (agenda : AgendaView) → Becomes laws a b → IsAgendaOf a.plan agenda → IsAgendaOf b.plan agenda
agenda_on {laws} a b agenda h of = subst (λ (p : Plan). IsAgendaOf p agenda) (sym (becomes_plan a b h)) of

pub agenda_back : {laws : Laws} (a b : NetView) (agenda : AgendaView) → Becomes laws a b → IsAgendaOf b.plan agenda → IsAgendaOf a.plan agenda
agenda_back {laws} a b agenda h of = subst (λ (p : Plan). IsAgendaOf p agenda) (becomes_plan a b h) of

pub both_same : {X : Type 0} (did moved : Bool) (a b c : X) → (did ≡ false → b ≡ a) → (moved ≡ false → c ≡ b) → (did || moved) ≡ false → c ≡ a
both_same true moved a b c first second isnt = absurd (false≢true (sym isnt))
both_same false true a b c first second isnt = absurd (false≢true (sym isnt))
both_same false false a b c first second isnt = second refl ∙ first refl

pub edge_within : (next : Option ℕ) (plan : Plan) (agenda : AgendaView) → IsAgendaOf plan agenda → IfSome next (λ e. e < length agenda.links) → IfSome next (λ e. e < length plan.edges)
edge_within None plan agenda of h = tt
edge_within (Some e) plan agenda of h = subst (λ (n : ℕ). e < n) of.edges h

pub next_within : (next : Option ℕ) (edge : ℕ) (plan : Plan) (agenda : AgendaView) → IsAgendaOf plan agenda → IfSome next (λ e. (edge < e) × (e < length agenda.links)) → IfSome next (λ e. (edge < e) × (e < length plan.edges))
next_within None edge plan agenda of h = tt
next_within (Some e) edge plan agenda of h = (h.0, subst (λ (n : ℕ). e < n) of.edges h.1)

pub second_of : (next : Option ℕ) (edge count : ℕ) → IfSome next (λ e. (edge < e) × (e < count)) → IfSome next (λ e. e < count)
second_of None edge count h = tt
second_of (Some e) edge count h = h.1

pub agenda_long : (plan : Plan) (a b : AgendaView) → IsAgendaOf plan a → length b.heads ≡ length a.heads → b.links ≡ a.links → b.starts ≡ a.starts → IsAgendaOf plan b
agenda_long plan a b of heads links starts = record {
  places = heads ∙ of.places;
  edges = ap (λ (l : List (Option ℕ)). length l) links ∙ of.edges;
  start_count = ap (λ (l : List (Option ℕ)). length l) starts ∙ of.start_count ∙ sym heads;
  leads = subst (λ (l : List (Option ℕ)). AreLeads plan 0 b.starts l) (sym links) (subst (λ (l : List (Option ℕ)). AreLeads plan 0 l a.links) (sym starts) of.leads);
}

pub agenda_same : (plan : Plan) (a b : AgendaView) → IsAgendaOf plan a → b.heads ≡ a.heads → b.links ≡ a.links → b.starts ≡ a.starts → IsAgendaOf plan b
agenda_same plan a b of heads links starts = agenda_long plan a b of (ap (λ (l : List (Option ℕ)). length l) heads) links starts

-- if a place goes on from another edge
pub agenda_set : (plan : Plan) (a b : AgendaView) (place : ℕ) (head : Option ℕ) → IsAgendaOf plan a → b.heads ≡ slice_set a.heads place head → b.links ≡ a.links → b.starts ≡ a.starts → IsAgendaOf plan b
agenda_set plan a b place head of heads links starts = agenda_long plan a b of (ap (λ (l : List (Option ℕ)). length l) heads ∙ length-set a.heads place head) links starts

pub same_places : (plan : Plan) (a b : AgendaView) → IsAgendaOf plan a → IsAgendaOf plan b → length b.heads ≡ length a.heads
same_places plan a b of now = now.places ∙ sym of.places

pub node_place : (plan : Plan) (agenda : AgendaView) (node : ℕ) → IsAgendaOf plan agenda → node < length plan.nodes → node < length agenda.heads
node_place plan agenda node of there = (let places = of.places in omega (arith, there, places))

pub later_less : (a b c : NetView) → left_in b ≤ left_in a → left_in c < left_in b → left_in c < left_in a
later_less a b c no_more less = omega (arith, no_more, less)

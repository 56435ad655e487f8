-- Which parts of a net steps change, and what an agenda notes of them.
use Rattle.std.proofs.Common.{◌≡◌, ◌≢◌, ℕ, ◌<◌, ◌≤◌, ◌⊎◌, ◌||◌, nat_lt, length, Bool, true, false, List, [], ◌∷◌, Option, Some, None, slice_get, slice_set, inl, inr, ap, sym, refl, subst, ◌∙◌, ◌+◌, arith}
use Rattle.std.proofs.lemmas.Bool.{false≢true, cases_eq}
use Rattle.std.proofs.lemmas.Bool.Decides.{nat_tests}
use Rattle.std.proofs.lemmas.Option.{same_Some}
use Rattle.mg_calc.specs.Rules.{Laws}
use Rattle.mg_calc.specs.declared.edge.Edge.{Edge}
use Rattle.mg_calc.specs.declared.plan.Plan.{Plan}
use Rattle.mg_calc.specs.declared.event.Event.{Event}
use Rattle.mg_calc.specs.declared.event.Event.TheVariants.{Deliver, Advance, Claim, Perform, Commit, Relax}
use Rattle.mg_calc.specs.declared.event.Effect.{Effect}
use Rattle.mg_calc.specs.declared.event.Effect.TheVariants.{Did, Idle, OutOfMemory}
use Rattle.mg_node.specs.Views.{IntakeView, PerformedView, EngineView}
use Rattle.mg_node.specs.Shelves.{shelf_at}
use Rattle.mg_node.proofs.Lemmas.{get_other}
use Rattle.mg_ready.specs.Ready.{ReadyNodes, IsIn, ChangesOnly}
use Rattle.mg_sched.specs.declared.reached.Reached.{Reached}
use Rattle.mg_sched.specs.declared.reached.Reached.TheVariants.{Nothing, NotClaimed, Answered as OnlyAnswered, Claimed as OnlyClaimed, Performed as OnlyPerformed, Committed as OnlyCommitted}
use Rattle.mg_sched.specs.Views.{WorkQueueView, NetView}
use Rattle.mg_sched.specs.Acts.{Acts, Performs, CommittedAt}
use Rattle.mg_sched.specs.Runs.{IsRun}
use Rattle.mg_sched.specs.Sweeps.{Becomes}
use Rattle.mg_sched.specs.Code.Agendas.{AgendaView, LeadsFrom, IsFirstFrom}
use Rattle.mg_sched.specs.Code.AtOnce.{Comes}
use Rattle.mg_sched.specs.Code.Left.{Goes, Steps}
use Rattle.mg_sched.specs.Code.Quiet.{IsAt, OnlyAt, Notes, EdgesRestFrom}
use Rattle.mg_sched.proofs.Becoming.{becomes_plan}
use Rattle.mg_sched.proofs.Finding.{found}
use Rattle.mg_sched.proofs.Sweeping.{goes_false, still_idle}

-- One place.

pub only_none : (place : ℕ) (before now : NetView) → now ≡ before → OnlyAt place before now
only_none place before now same = record {
  engines = λ other apart. ap (λ (v : NetView). slice_get v.engines other) same;
  intakes = λ other apart. ap (λ (v : NetView). slice_get v.intakes other) same;
  work_queues = λ other apart. ap (λ (v : NetView). slice_get v.work_queues other) same;
}

pub only_then : (place : ℕ) (a b c : NetView) → OnlyAt place a b → OnlyAt place b c → OnlyAt place a c
only_then place a b c first second = record {
  engines = λ other apart. second.engines other apart ∙ first.engines other apart;
  intakes = λ other apart. second.intakes other apart ∙ first.intakes other apart;
  work_queues = λ other apart. second.work_queues other apart ∙ first.work_queues other apart;
}

-- other engines, intakes and work queues
only_by : (place : ℕ) (before now : NetView) (engines : List EngineView) (intakes : List IntakeView) (work_queues : List WorkQueueView) → now.engines ≡ engines → now.intakes ≡ intakes → now.work_queues ≡ work_queues
    → ((other : ℕ) → other ≢ place → slice_get engines other ≡ slice_get before.engines other) → ((other : ℕ) → other ≢ place → slice_get intakes other ≡ slice_get before.intakes other)
    → ((other : ℕ) → other ≢ place → slice_get work_queues other ≡ slice_get before.work_queues other) → OnlyAt place before now
only_by place before now engines intakes work_queues engines_are intakes_are work_queues_are same_engines same_intakes same_work_queues = record {
  engines = λ other apart. ap (λ (es : List EngineView). slice_get es other) engines_are ∙ same_engines other apart;
  intakes = λ other apart. ap (λ (is : List IntakeView). slice_get is other) intakes_are ∙ same_intakes other apart;
  work_queues = λ other apart. ap (λ (ds : List WorkQueueView). slice_get ds other) work_queues_are ∙ same_work_queues other apart;
}

-- a net whose parts are set at the place
only_set : (place : ℕ) (before now : NetView) (engine : EngineView) (intake : IntakeView) (work_queue : WorkQueueView) → now.engines ≡ slice_set before.engines place engine → now.intakes ≡ slice_set before.intakes place intake
    → now.work_queues ≡ slice_set before.work_queues place work_queue → OnlyAt place before now
only_set place before now engine intake work_queue engines intakes work_queues =
    only_by place before now (slice_set before.engines place engine) (slice_set before.intakes place intake) (slice_set before.work_queues place work_queue) engines intakes work_queues
    (λ other apart. get_other before.engines place other engine apart) (λ other apart. get_other before.intakes place other intake apart) (λ other apart. get_other before.work_queues place other work_queue apart)

only_engine : (place : ℕ) (before now : NetView) (engine : EngineView) → now.engines ≡ slice_set before.engines place engine → now.intakes ≡ before.intakes → now.work_queues ≡ before.work_queues → OnlyAt place before now
only_engine place before now engine engines intakes work_queues =
    only_by place before now (slice_set before.engines place engine) before.intakes before.work_queues engines intakes work_queues (λ other apart. get_other before.engines place other engine apart) (λ other apart. refl) (λ other apart. refl)

only_intake : (place : ℕ) (before now : NetView) (intake : IntakeView) → now.engines ≡ before.engines → now.intakes ≡ slice_set before.intakes place intake → now.work_queues ≡ before.work_queues → OnlyAt place before now
only_intake place before now intake engines intakes work_queues =
    only_by place before now before.engines (slice_set before.intakes place intake) before.work_queues engines intakes work_queues (λ other apart. refl) (λ other apart. get_other before.intakes place other intake apart) (λ other apart. refl)

only_cell : (place : ℕ) (before now : NetView) (engine : EngineView) (work_queue : WorkQueueView) → now.engines ≡ slice_set before.engines place engine → now.intakes ≡ before.intakes → now.work_queues ≡ slice_set before.work_queues place work_queue → OnlyAt place before now
only_cell place before now engine work_queue engines intakes work_queues =
    only_by place before now (slice_set before.engines place engine) before.intakes (slice_set before.work_queues place work_queue) engines intakes work_queues (λ other apart. get_other before.engines place other engine apart) (λ other apart. refl)
    (λ other apart. get_other before.work_queues place other work_queue apart)

only_limits : (place : ℕ) (before now : NetView) → now.engines ≡ before.engines → now.intakes ≡ before.intakes → now.work_queues ≡ before.work_queues → OnlyAt place before now
only_limits place before now engines intakes work_queues = only_by place before now before.engines before.intakes before.work_queues engines intakes work_queues (λ other apart. refl) (λ other apart. refl) (λ other apart. refl)

-- Steps.

performed_only : {laws : Laws} (node number : ℕ) (effect : Effect) (work_queue : WorkQueueView) (before now : NetView) → Performs laws node number effect work_queue before now → OnlyAt node before now
performed_only {laws} node number Did work_queue before now p =
    let is = p.performed.2 in
    only_cell node before now _ _ (ap (λ (v : NetView). v.engines) is) (ap (λ (v : NetView). v.intakes) is) (ap (λ (v : NetView). v.work_queues) is)
performed_only {laws} node number Idle work_queue before now p = absurd p.performed
performed_only {laws} node number OutOfMemory work_queue before now p = only_none node before now p.performed

committed_only : (node number : ℕ) (shelf : Option PerformedView) (effect : Effect) (engine : EngineView) (before now : NetView) → CommittedAt node number shelf effect engine before now → OnlyAt node before now
committed_only node number None effect engine before now c = only_none node before now c.same
committed_only node number (Some p) Did engine before now c =
    only_engine node before now c.engine_now (ap (λ (v : NetView). v.engines) c.now_is) (ap (λ (v : NetView). v.intakes) c.now_is) (ap (λ (v : NetView). v.work_queues) c.now_is)
committed_only node number (Some p) Idle engine before now c = absurd c
committed_only node number (Some p) OutOfMemory engine before now c = only_none node before now c

at_node : (node : ℕ) (place : ℕ) (before now : NetView) → node ≡ place → OnlyAt node before now → OnlyAt place before now
at_node node place before now is h = subst (λ (k : ℕ). OnlyAt k before now) is h

pub acts_only : (laws : Laws) (event : Event) (effect : Effect) (before now : NetView) (place : ℕ) → IsAt before.plan event place → Acts laws event effect before now → OnlyAt place before now
acts_only laws (Deliver edge) effect before now place is a = elim a.delivered [
  | inl held ↦ only_none place before now held.1.same
  | inr brings ↦ at_node a.edge.node place before now (is a.edge a.there)
      (let b = brings.1 in only_intake a.edge.node before now b.intake_now (ap (λ (v : NetView). v.engines) b.now_is) (ap (λ (v : NetView). v.intakes) b.now_is) (ap (λ (v : NetView). v.work_queues) b.now_is))
]
acts_only laws (Advance node) effect before now place is a =
    at_node node place before now is (only_engine node before now _ (ap (λ (v : NetView). v.engines) a.now_is) (ap (λ (v : NetView). v.intakes) a.now_is) (ap (λ (v : NetView). v.work_queues) a.now_is))
acts_only laws (Claim node) effect before now place is a = elim a [
  | inl held ↦ only_none place before now held.1.same
  | inr claims ↦ at_node node place before now is
      (let c = claims.1 in only_set node before now c.engine_now c.intake_now c.work_queue_now (ap (λ (v : NetView). v.engines) c.now_is) (ap (λ (v : NetView). v.intakes) c.now_is) (ap (λ (v : NetView). v.work_queues) c.now_is))
]
acts_only laws (Perform node number) effect before now place is a = elim a.performed [
  | inl none ↦ only_none place before now none.1.same
  | inr performs ↦ at_node node place before now is (performed_only node number effect a.work_queue before now performs)
]
acts_only laws (Commit node number) effect before now place is a = at_node node place before now is (committed_only node number (shelf_at a.engine number) effect a.engine before now a.committed)
acts_only laws Relax effect before now place is a = elim a [
  | inl none ↦ only_none place before now none.1.same
  | inr full ↦ only_limits place before now (ap (λ (v : NetView). v.engines) full.2) (ap (λ (v : NetView). v.intakes) full.2) (ap (λ (v : NetView). v.work_queues) full.2)
]

pub acts_only_all : (laws : Laws) (event : Event) (effect : Effect) (before now : NetView) → Acts laws event effect before now → (place : ℕ) → IsAt before.plan event place → OnlyAt place before now
acts_only_all laws event effect before now acts = λ place is. acts_only laws event effect before now place is acts

-- What comes of a node's next work.

run_more_only : (laws : Laws) (event : Event) (events : List Event) (node : ℕ) (before now : NetView) → ((plan : Plan) → IsAt plan event node) → ((mid : NetView) → IsRun laws events mid now → OnlyAt node mid now)
    → IsRun laws (event ∷ events) before now → OnlyAt node before now
run_more_only laws event events node before now is rest r = only_then node before r.0 now (acts_only laws event Did before r.0 node (is before.plan) r.2) (rest r.0 r.3)

claim_only : (laws : Laws) (node : ℕ) (before now : NetView) → IsRun laws (Claim node ∷ []) before now → OnlyAt node before now
claim_only laws node before now r = run_more_only laws (Claim node) [] node before now (λ plan. refl) (λ mid r. only_none node mid now r) r

pub comes_only : (laws : Laws) (node : ℕ) (reached : Reached) (before now : NetView) → Comes laws node reached before now → OnlyAt node before now
comes_only laws node Nothing before now c = only_none node before now c.0
comes_only laws node NotClaimed before now c = acts_only laws (Claim node) OutOfMemory before now node refl c
comes_only laws node OnlyAnswered before now c = claim_only laws node before now c
comes_only laws node OnlyClaimed before now c = claim_only laws node before now c
comes_only laws node (OnlyPerformed number) before now c =
    run_more_only laws (Claim node) (Perform node number ∷ []) node before now (λ plan. refl)
    (λ mid r. run_more_only laws (Perform node number) [] node mid now (λ plan. refl) (λ last r. only_none node last now r) r) c
comes_only laws node (OnlyCommitted number) before now c =
    run_more_only laws (Claim node) (Perform node number ∷ Commit node number ∷ []) node before now (λ plan. refl)
    (λ mid r. run_more_only laws (Perform node number) (Commit node number ∷ []) node mid now (λ plan. refl)
    (λ late r. run_more_only laws (Commit node number) [] node late now (λ plan. refl) (λ last r. only_none node last now r) r) r) c

-- What an agenda notes.

pub notes_then : (a : NetView) (k : AgendaView) (b : NetView) (l : AgendaView) (c : NetView) (m : AgendaView) → Notes a k b l → Notes b l c m → Notes a k c m
notes_then a k b l c m first second = record {
  grows = λ place is. second.grows place (first.grows place is);
  engines = λ place out. second.engines place out ∙ first.engines place (λ is. out (second.grows place is));
  intakes = λ place out. second.intakes place out ∙ first.intakes place (λ is. out (second.grows place is));
  work_queues = λ place out. second.work_queues place out ∙ first.work_queues place (λ is. out (second.grows place is));
}

-- a set with one more
pub stays_in : (before now : ReadyNodes) (one place : ℕ) → IsIn now one → ChangesOnly before now one → IsIn before place → IsIn now place
stays_in before now one place there only is = elim (cases_eq place one) [
  | inl same ↦ subst (λ (k : ℕ). IsIn now k) (sym same) there
  | inr other ↦ (only.others place other).1 is
]

apart_from : (now : ReadyNodes) (one place : ℕ) → IsIn now one → ¬ IsIn now place → place ≢ one
apart_from now one place there out same = out (subst (λ (k : ℕ). IsIn now k) (sym same) there)

-- the place whose parts have changed is touched
pub notes_one : (place : ℕ) (before : NetView) (agenda : AgendaView) (now : NetView) (agenda_now : AgendaView) → OnlyAt place before now → IsIn agenda_now.touched place → ChangesOnly agenda.touched agenda_now.touched place
    → Notes before agenda now agenda_now
notes_one place before agenda now agenda_now only there changes = record {
  grows = λ other is. stays_in agenda.touched agenda_now.touched place other there changes is;
  engines = λ other out. only.engines other (apart_from agenda_now.touched place other there out);
  intakes = λ other out. only.intakes other (apart_from agenda_now.touched place other there out);
  work_queues = λ other out. only.work_queues other (apart_from agenda_now.touched place other there out);
}

next_apart : (place : ℕ) → place ≢ place + 1
next_apart place same = absurd (omega (arith, same))

-- limits alone have changed
pub notes_limits : (before now : NetView) (agenda agenda_now : AgendaView) → ((place : ℕ) → OnlyAt place before now) → agenda_now.touched ≡ agenda.touched → Notes before agenda now agenda_now
notes_limits before now agenda agenda_now only same = record {
  grows = λ place is. subst (λ (r : ReadyNodes). IsIn r place) (sym same) is;
  engines = λ place out. (only (place + 1)).engines place (next_apart place);
  intakes = λ place out. (only (place + 1)).intakes place (next_apart place);
  work_queues = λ place out. (only (place + 1)).work_queues place (next_apart place);
}

-- An agenda after steps.

pub notes_same : (before now : NetView) (agenda agenda_now : AgendaView) → now ≡ before → agenda_now.touched ≡ agenda.touched → Notes before agenda now agenda_now
notes_same before now agenda agenda_now same touched = record {
  grows = λ place is. subst (λ (r : ReadyNodes). IsIn r place) (sym touched) is;
  engines = λ place out. ap (λ (v : NetView). slice_get v.engines place) same;
  intakes = λ place out. ap (λ (v : NetView). slice_get v.intakes place) same;
  work_queues = λ place out. ap (λ (v : NetView). slice_get v.work_queues place) same;
}

-- between the two the agenda may have changed, but not in what is touched
pub notes_after : (a : NetView) (k : AgendaView) (b : NetView) (l mid : AgendaView) (c : NetView) (m : AgendaView) → Notes a k b l → mid.touched ≡ l.touched → Notes b mid c m → Notes a k c m
notes_after a k b l mid c m first same second = notes_then a k b mid c m (notes_then a k b l b mid first (notes_same b b l mid refl same)) second

-- nothing was done
pub notes_idle : (did : Bool) (before now : NetView) (agenda agenda_now : AgendaView) → did ≡ false → Goes did before now → agenda_now.touched ≡ agenda.touched → Notes before agenda now agenda_now
notes_idle did before now agenda agenda_now isnt goes touched = notes_same before now agenda agenda_now (goes_false did before now isnt goes) touched

-- the consumer of an edge along which something came
pub notes_brought : {laws : Laws} (edge : ℕ) (before now : NetView) (agenda agenda_now : AgendaView) → Becomes laws before now → edge < length before.plan.edges
    → ((place : ℕ) → IsAt before.plan (Deliver edge) place → OnlyAt place before now)
    → ((e : Edge) → slice_get now.plan.edges edge ≡ Some e → IsIn agenda_now.touched e.node × ChangesOnly agenda.touched agenda_now.touched e.node) → Notes before agenda now agenda_now
notes_brought {laws} edge before now agenda agenda_now becomes there only touched =
    let e = found before.plan.edges edge there in
    let is = touched e.0 (ap (λ (p : Plan). slice_get p.edges edge) (becomes_plan before now becomes) ∙ e.1) in
    notes_one e.0.node before agenda now agenda_now (only e.0.node (λ other at. ap (λ (x : Edge). x.node) (same_Some other e.0 (sym at ∙ e.1)))) is.0 is.1

pub idle_rests : (laws : Laws) (did : Bool) (event : Event) (a b : NetView) → did ≡ false → Steps laws did event a b → Acts laws event Idle b b
idle_rests laws true event a b isnt s = absurd (false≢true (sym isnt))
idle_rests laws false event a b isnt s = still_idle laws event a b (sym s.0) s.1

-- The edges from a place, one after the other.

-- the edges before the next one rest, from a number on
abbrev pub RestUpto : Laws → Plan → Option ℕ → Option ℕ → NetView → Type 0
RestUpto laws plan first cursor net = (place low : ℕ) → IsFirstFrom plan low place first
    → (reached : ℕ) × IsFirstFrom plan reached place cursor × ((number : ℕ) → low ≤ number → number < reached → LeadsFrom plan place number → Acts laws (Deliver number) Idle net net)

pub upto_first : (laws : Laws) (plan : Plan) (first : Option ℕ) (net : NetView) → RestUpto laws plan first first net
upto_first laws plan first net = λ place low is. (low, is, λ number from less leads. absurd (omega (arith, from, less)))

pub below_or : (n m : ℕ) → (n < m) ⊎ (m ≤ n)
below_or n m = by (nat_lt n m) refl
  where
    by : (b : Bool) → nat_lt n m ≡ b → (n < m) ⊎ (m ≤ n)
    by true is = inl (grind (arith, nat_tests, is))
    by false is = inr (grind (arith, nat_tests, is))

upto_next : (laws : Laws) (plan : Plan) (first next : Option ℕ) (edge : ℕ) (net now : NetView) → RestUpto laws plan first (Some edge) net → ((place : ℕ) → LeadsFrom plan place edge → IsFirstFrom plan (edge + 1) place next) → now ≡ net
    → Acts laws (Deliver edge) Idle now now → RestUpto laws plan first next now
upto_next laws plan first next edge net now upto follows same rests = λ place low is.
    (let so_far = upto place low is in
    let here = so_far.1 in (
      edge + 1,
      follows place here.1,
      λ number from less leads. elim (cases_eq number edge) [
        | inl last ↦ subst (λ (k : ℕ). Acts laws (Deliver k) Idle now now) (sym last) rests
        | inr other ↦ elim (below_or number so_far.0) [
          | inl before ↦ still_idle laws (Deliver number) net now (sym same) (so_far.2 number from before leads)
          | inr past ↦ absurd (here.2 number past (omega (arith, less, other)) leads)
        ]
      ],
    ))

-- one more edge along which nothing went
pub upto_more : (laws : Laws) (did moved : Bool) (plan : Plan) (first next : Option ℕ) (edge : ℕ) (net now : NetView) → (did ≡ false → RestUpto laws plan first (Some edge) net) → ((place : ℕ) → LeadsFrom plan place edge → IsFirstFrom plan (edge + 1) place next)
    → Goes moved net now → (moved ≡ false → Acts laws (Deliver edge) Idle now now) → (did || moved) ≡ false → RestUpto laws plan first next now
upto_more laws true moved plan first next edge net now upto follows goes rests isnt = absurd (false≢true (sym isnt))
upto_more laws false true plan first next edge net now upto follows goes rests isnt = absurd (false≢true (sym isnt))
upto_more laws false false plan first next edge net now upto follows goes rests isnt = upto_next laws plan first next edge net now (upto refl) follows goes (rests refl)

-- and there is none after the last one
pub upto_last : (laws : Laws) (plan : Plan) (first : Option ℕ) (net : NetView) → RestUpto laws plan first None net → EdgesRestFrom laws plan first net
upto_last laws plan first net upto = λ place low number is from leads.
    (let so_far = upto place low is in
    elim (below_or number so_far.0) [
      | inl before ↦ so_far.2 number from before leads
      | inr past ↦ absurd (so_far.1 number past leads)
    ])

-- the agenda alone has changed, and not in what is touched
pub notes_more : (a : NetView) (k : AgendaView) (b : NetView) (l m : AgendaView) → Notes a k b l → m.touched ≡ l.touched → Notes a k b m
notes_more a k b l m first same = notes_then a k b l b m first (notes_same b b l m refl same)

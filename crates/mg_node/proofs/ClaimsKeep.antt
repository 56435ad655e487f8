-- What a claim leaves is lawful, for every job for which the cell was.
use Rattle.std.proofs.Common.{◌≡◌, ℕ, zero, suc, ◌+◌, ◌<◌, Bool, true, false, cond, List, [], ◌∷◌, length, drop, set, Option, Some, None, IfSome, IsSomeAnd, option_map, unwrap_or, slice_get, count_by as number_of, ◌||◌, is_some, inl, inr, ◌⊎◌, ap, sym, refl, subst, ◌∙◌, arith, if◌then◌else◌}
use Rattle.std.specs.List.{AllByRecursion}
use Rattle.std.proofs.lemmas.List.{length-set, length-map}
use Rattle.std.proofs.lemmas.List.Elements.{recursion_from_All}
use Rattle.std.proofs.lemmas.List.Sums.{sum_by-cons}
use Rattle.std.proofs.lemmas.Option.{slice_get_within}
use Rattle.mg_value.specs.Payload.{Plain}
use Rattle.mg_value.specs.Packet.{Stamped}
use Rattle.mg_value.specs.declared.policy.Policy.{Policy}
use Rattle.mg_value.specs.declared.policy.Policy.TheVariants.{Default}
use Rattle.mg_settled.specs.Prefix.{StreamPrefix}
use Rattle.mg_settled.specs.Settled.{TimedSet, settled_sets}
use Rattle.mg_settled.proofs.Lemmas.{sets-places}
use Rattle.mg_stream.specs.Pool.{queues_of}
use Rattle.mg_policy.specs.Inbox.{next_set}
use Rattle.mg_policy.specs.declared.readiness.Readiness.TheVariants.{Ready}
use Rattle.mg_policy.proofs.Standing.{what_is_next}
use Rattle.mg_calc.specs.Rules.{Laws}
use Rattle.mg_calc.specs.declared.law.Law.{Law}
use Rattle.mg_calc.specs.declared.law.Law.TheVariants.{Count, SideOnce, Constants, Loopback}
use Rattle.mg_calc.specs.declared.node_fault.Phase.{Phase}
use Rattle.mg_calc.specs.declared.node_fault.Phase.TheVariants.{Call, Process, Close}
use Rattle.mg_calc.specs.declared.plan_node.PlanNode.{PlanNode}
use Rattle.mg_calc.specs.Shape.{IsOuter, IsSource, calls_of}
use Rattle.mg_calc.specs.Equations.{stream_of, inputs_of}
use Rattle.mg_calc.proofs.Solutions.{one_solution}
use Rattle.mg_node.specs.declared.role.Role.TheVariants.{Source, Sets as SetsRole}
use Rattle.mg_node.specs.declared.pending.Pending.{Pending}
use Rattle.mg_node.specs.declared.pending.Pending.TheVariants.{Sets, Loop}
use Rattle.mg_node.specs.Views.{IntakeView, ContextView, WorkView, OutcomeView, EntryView, EngineView}
use Rattle.mg_node.specs.Ports.{IsNext}
use Rattle.mg_node.specs.Intakes.{next_set_of}
use Rattle.mg_node.specs.Job.{LoggedJob, IsTask, count_of_all, count_by, sets_of, role_of, policy_of, ports_of, streams_at}
use Rattle.mg_node.specs.Lawful.{HoldsWaits, IsIntakeOf, LawfulIntake, is_close, StandsAt, IsIdle, IsEntry, IsEngineOf, LawfulEngine, of_node, LawfulOutcome, LawfulWork}
use Rattle.mg_node.specs.Claims.{MayClaim, TakesUnrun, Hands, TakesCall, TakesSet}
use Rattle.mg_node.proofs.Claiming.{stays_at}
use Rattle.mg_node.proofs.FrontWaits.{set_waits}
use Rattle.mg_node.proofs.Delivering.{last_have}
use Rattle.mg_node.proofs.HeldRules.{of_node as at_node}
use Rattle.mg_node.proofs.Handing.{handed_engine, handed_work, none_closes}

not_first : (a b : Bool) → (a || b) ≡ false → a ≡ false
not_first false b e = refl
not_first true b e = absurd cc

-- A work that came back unrun is handed out again.

pub set_get : {X : Type 0} (xs : List X) (i j : ℕ) (y x : X) → slice_get (set xs i y) j ≡ Some x → (slice_get xs j ≡ Some x) ⊎ ((j ≡ i) × (y ≡ x))
set_get [] i j y x h = inl h
set_get (z ∷ xs) zero zero y x h = inr (refl, cc)
set_get (z ∷ xs) zero (suc j) y x h = inl h
set_get (z ∷ xs) (suc i) zero y x h = inl h
set_get (z ∷ xs) (suc i) (suc j) y x h = elim (set_get xs i j y x h) [
  | inl there ↦ inl there
  | inr here ↦ inr (ap suc here.0, here.1)
]

pub number_set : (window : List EntryView) (i : ℕ) (old new : EntryView) → slice_get window i ≡ Some old → is_close new.phase ≡ is_close old.phase → number_of (λ e. is_close e.phase) (set window i new) ≡ number_of (λ e. is_close e.phase) window
number_set [] i old new h same = refl
number_set (x ∷ window) zero old new h same =
    let is : x ≡ old = cc in
    sum_by-cons (λ (e : EntryView). cond (is_close e.phase) 1 0) new window ∙ ap (λ (b : Bool). cond b 1 0 + number_of (λ (e : EntryView). is_close e.phase) window) (same ∙ ap (λ (e : EntryView). is_close e.phase) (sym is))
    ∙ sym (sum_by-cons (λ (e : EntryView). cond (is_close e.phase) 1 0) x window)
number_set (x ∷ window) (suc i) old new h same =
    sum_by-cons (λ (e : EntryView). cond (is_close e.phase) 1 0) x (set window i new) ∙ ap (λ (n : ℕ). cond (is_close x.phase) 1 0 + n) (number_set window i old new h same)
    ∙ sym (sum_by-cons (λ (e : EntryView). cond (is_close e.phase) 1 0) x window)

abbrev out_of : EntryView → EntryView
out_of entry = record { phase = entry.phase; outcome = None; committed = false }

unrun_engine : {laws : Laws} (job : LoggedJob laws) (number : ℕ) (engine : EngineView) (place : ℕ) (entry : EntryView) → IsEngineOf job number engine → slice_get engine.window place ≡ Some entry
    → IsEngineOf job number (record engine { window = set engine.window place (out_of entry) })
unrun_engine {laws} job number engine place entry h there =
    let order = h.order in
    let contexts = h.contexts in
    record {
      streams = h.streams;
      solves = h.solves;
      node = h.node;
      there = h.there;
      set_up = record { role = h.set_up.role; number_is = h.set_up.number_is; first = h.set_up.first; offset = h.set_up.offset; in_flight = h.set_up.in_flight; inputs = h.set_up.inputs };
      begun = h.begun;
      claimed = h.claimed;
      taken = h.taken;
      closed = h.closed;
      whole = h.whole;
      kept = h.kept;
      raised = h.raised;
      extended = h.extended;
      fault = h.fault;
      order = omega (arith, order, length-set engine.window place (out_of entry), number_set engine.window place entry (out_of entry) there refl);
      entries = (λ i x at. elim (set_get engine.window place i (out_of entry) x at) [
        | inl same ↦ h.entries i x same
        | inr here ↦
            (let e = h.entries place entry there in
            subst (λ (y : EntryView). IsEntry job h.streams h.node engine.laid (engine.laid + i) number y) here.1
            (subst (λ (k : ℕ). IsEntry job h.streams h.node engine.laid (engine.laid + k) number (out_of entry)) (sym here.0)
            (record { set = e.set; task = e.task; outcome = tt; committed = (λ c. absurd cc); close = e.close })))
      ]);
      idle = h.idle;
      contexts = omega (arith, contexts, length-set engine.window place (out_of entry));
      waits = (λ goes. set_waits engine.window place (out_of entry) refl (h.waits goes));
      ended = h.ended;
    }

unrun_work : {laws : Laws} (job : LoggedJob laws) (number : ℕ) (engine : EngineView) (place : ℕ) (entry : EntryView) (work : WorkView) → IsEngineOf job number engine → slice_get engine.window place ≡ Some entry → entry.outcome ≡ Some (record { work = work; answer = None }) → LawfulWork job work
unfolding LawfulWork LawfulOutcome
unrun_work {laws} job number engine place entry work h there is =
    let e = h.entries place entry there in
    let stands : IfSome (Some (record { work = work; answer = None })) (λ o. StandsAt job number (engine.laid + place) entry.phase o) = subst (λ (o : Option OutcomeView). IfSome o (λ p. StandsAt job number (engine.laid + place) entry.phase p)) is e.outcome in
    stands.lawful

-- A next set.

outer_law : (law : Law) → role_of law ≡ SetsRole → IsOuter law
outer_law (Count count start step) e = absurd cc
outer_law (SideOnce at) e = absurd cc
outer_law Constants e = absurd cc
outer_law Loopback e = absurd cc
outer_law law e = tt

count_sets : (law : Law) (streams : List (StreamPrefix Plain)) (node : PlanNode) → role_of law ≡ SetsRole → count_by law streams node ≡ length (sets_of streams node)
count_sets (Count count start step) streams node e = absurd cc
count_sets (SideOnce at) streams node e = absurd cc
count_sets Constants streams node e = absurd cc
count_sets Loopback streams node e = absurd cc
count_sets law streams node e = refl

-- the next set is that of its number in the solution
next_there : {laws : Laws} (job : LoggedJob laws) (streams : List (StreamPrefix Plain)) (number claimed : ℕ) (w : Pending) (e : TimedSet Plain) → HoldsWaits job streams number claimed w → next_set_of w ≡ Some e
    → slice_get (settled_sets (policy_of job.job.plan number) (streams_at streams (ports_of job.job.plan number))) claimed ≡ Some e
next_there {laws} job streams number claimed (Sets inbox) e holds next =
    let h = holds.1 in
    let rest = what_is_next inbox.policy claimed (queues_of inbox.pool) h.came h.stands in
    let here : slice_get (settled_sets inbox.policy h.came) claimed ≡ Some e = at_drop claimed (settled_sets inbox.policy h.came) e (ap (λ (sets : List (TimedSet Plain)). slice_get sets 0) (sym rest) ∙ next) in
    subst (λ (p : Policy). slice_get (settled_sets p (streams_at streams (ports_of job.job.plan number))) claimed ≡ Some e) h.policy
    (stays_at inbox.policy h.came (streams_at streams (ports_of job.job.plan number)) claimed e h.extended here)
  where
    at_drop : (n : ℕ) (xs : List (TimedSet Plain)) (x : TimedSet Plain) → slice_get (drop n xs) 0 ≡ Some x → slice_get xs n ≡ Some x
    at_drop zero xs x h = h
    at_drop (suc n) [] x h = absurd cc
    at_drop (suc n) (y ∷ xs) x h = at_drop n xs x h
next_there {laws} job streams number claimed (Loop held) e holds next = absurd cc

node_sets : {laws : Laws} (job : LoggedJob laws) (streams : List (StreamPrefix Plain)) (number : ℕ) (node : PlanNode) → slice_get job.job.plan.nodes number ≡ Some node
    → settled_sets (policy_of job.job.plan number) (streams_at streams (ports_of job.job.plan number)) ≡ sets_of streams node
node_sets {laws} job streams number node there = ap (λ (o : Option PlanNode). settled_sets (unwrap_or (option_map (λ n. n.policy) o) Default) (streams_at streams (unwrap_or (option_map (λ n. n.inputs) o) job.job.plan.outputs))) there

-- what its time and its packets are
next_is : (o : Option (TimedSet Plain)) (at : ℕ) (set : List (Option (Stamped Plain))) → IsSomeAnd o (λ e. e.at ≡ at) → IsSomeAnd o (λ e. set ≡ e.set) → o ≡ Some (record { at = at; set = set })
next_is None at set a b = absurd a
next_is (Some e) at set a b = ap Some (λ i. record { at = a i; set = sym b i })

next_at : (w : Pending) (at : ℕ) (set : List (Option (Stamped Plain))) → IsNext w (Ready at) → IsSomeAnd (next_set_of w) (λ e. set ≡ e.set) → next_set_of w ≡ Some (record { at = at; set = set })
next_at (Sets inbox) at set next shown = next_is (next_set inbox.policy (queues_of inbox.pool)) at set next shown
next_at (Loop held) at set next shown = absurd shown

set_task : {laws : Laws} (job : LoggedJob laws) (number : ℕ) (engine : EngineView) (intake : IntakeView) (at : ℕ) (set : List (Option (Stamped Plain))) (h : IsEngineOf job number engine) → IsIntakeOf job number intake → engine.role ≡ SetsRole → engine.claimed ≡ intake.claimed
    → IsNext intake.waits (Ready at) → IsSomeAnd (next_set_of intake.waits) (λ e. set ≡ e.set) → IsTask job.job h.streams h.node engine.claimed (Process at) set
set_task {laws} job number engine intake at set h i role agree next shown =
    let same : i.streams ≡ h.streams = one_solution job.job i.streams h.streams i.solves.solution h.solves.solution in
    let there = next_there job i.streams number intake.claimed intake.waits (record { at = at; set = set }) i.holds (next_at intake.waits at set next shown) in
    let of_node_sets = node_sets job i.streams number h.node h.there in
    let here : slice_get (sets_of i.streams h.node) intake.claimed ≡ Some (record { at = at; set = set }) = ap (λ (sets : List (TimedSet Plain)). slice_get sets intake.claimed) (sym of_node_sets) ∙ there in (
      outer_law h.node.law (sym h.set_up.role ∙ role),
      ap (λ (k : ℕ). slice_get (sets_of h.streams h.node) k) agree ∙ ap (λ (ss : List (StreamPrefix Plain)). slice_get (sets_of ss h.node) intake.claimed) (sym same) ∙ here,
    )

more_sets : {laws : Laws} (job : LoggedJob laws) (number : ℕ) (engine : EngineView) (at : ℕ) (set : List (Option (Stamped Plain))) (h : IsEngineOf job number engine) → engine.role ≡ SetsRole → IsTask job.job h.streams h.node engine.claimed (Process at) set → engine.claimed < count_of_all h.streams h.node
more_sets {laws} job number engine at set h role task =
    let within = slice_get_within (sets_of h.streams h.node) engine.claimed (record { at = at; set = set }) task.1 in
    let count = count_sets h.node.law h.streams h.node (sym h.set_up.role ∙ role) in
    omega (arith, within, count)

-- A source's next call.

source_law : (law : Law) (calls claimed : ℕ) → role_of law ≡ Source calls → claimed < calls → IsSource law × (calls ≡ calls_of law)
source_law (Count count start step) calls claimed e less = (tt, cc)
source_law (SideOnce at) calls claimed e less = (tt, cc)
source_law Constants calls claimed e less = absurd (let none : 0 ≡ calls = cc in omega (arith, none, less))
source_law Loopback calls claimed e less = absurd cc
source_law law calls claimed e less = absurd cc

pub count_calls : (law : Law) (streams : List (StreamPrefix Plain)) (node : PlanNode) → IsSource law → count_by law streams node ≡ calls_of node.law
count_calls (Count count start step) streams node is = refl
count_calls (SideOnce at) streams node is = refl
count_calls law streams node is = absurd is

-- What a claim leaves.

pub unrun_lawful : {laws : Laws} (job : LoggedJob laws) (number : ℕ) (engine engine_now : EngineView) (work : WorkView) → LawfulEngine job (of_node number) engine → TakesUnrun engine engine_now work → LawfulEngine job (of_node number) engine_now × LawfulWork job work
unfolding LawfulEngine
unrun_lawful {laws} job number engine engine_now work h t =
    let hands = t.hands in
    let now : engine_now ≡ record engine { window = set engine.window t.place (out_of hands.entry) } = t.now ∙ ap (λ (w : List EntryView). (let e : EngineView = record engine { window = w } in e)) hands.left in (
      subst (λ (e : EngineView). IsEngineOf job number e) (sym now) (unrun_engine job number engine t.place hands.entry h hands.there),
      unrun_work job number engine t.place hands.entry work h hands.there hands.outcome,
    )

-- of a work that is handed out with a context
pub hands_places : {laws : Laws} (job : LoggedJob laws) (number : ℕ) (engine engine_now : EngineView) (phase : Phase) (more : ℕ) (context : ContextView) (h : IsEngineOf job number engine) → Hands engine engine_now phase more context → length context.set ≡ length h.node.inputs
hands_places {laws} job number engine engine_now phase more context h t =
    let P : ContextView → Type 0 = IsIdle job h.streams h.node engine.laid engine.closed in
    let last : AllByRecursion P (context ∷ []) = last_have P engine_now.idle (context ∷ []) (subst (AllByRecursion P) t.idle (recursion_from_All P engine.idle h.idle)) in
    last.0.places

pub hands_lawful : {laws : Laws} (job : LoggedJob laws) (number : ℕ) (engine engine_now : EngineView) (phase : Phase) (more : ℕ) (context : ContextView) (set : List (Option (Stamped Plain))) (work : WorkView) (h : IsEngineOf job number engine) → MayClaim engine → Hands engine engine_now phase more context
    → IsTask job.job h.streams h.node engine.claimed phase set → number_of (λ e. is_close e.phase) engine.window ≡ 0 → more + (if is_close phase then 1 else 0) ≡ 1 → (phase ≡ Close → engine.claimed ≡ engine.laid) → length set ≡ length h.node.inputs
    → work ≡ record { node = engine.node; number = engine.claimed; phase = phase; context = record { told = context.told; set = set } } → IsEngineOf job number engine_now × LawfulWork job work
hands_lawful {laws} job number engine engine_now phase more context set work h may t task none one close places is = (
  subst (λ (e : EngineView). IsEngineOf job number e) (sym t.now) (handed_engine job number engine phase more context engine_now.idle set h may.goes t.idle task none one close),
  subst (λ (w : WorkView). LawfulWork job w) (sym is) (handed_work job number engine phase context engine_now.idle set h t.idle (not_first engine.closed (is_some engine.fault) may.goes) may.room none places task),
)

pub call_lawful : {laws : Laws} (job : LoggedJob laws) (number : ℕ) (engine engine_now : EngineView) (work : WorkView) → LawfulEngine job (of_node number) engine → MayClaim engine → TakesCall engine engine_now work → LawfulEngine job (of_node number) engine_now × LawfulWork job work
unfolding LawfulEngine
call_lawful {laws} job number engine engine_now work h may t =
    let law = source_law h.node.law t.calls engine.claimed (sym h.set_up.role ∙ t.role) t.more in
    let more = t.more in
    let count = count_calls h.node.law h.streams h.node law.0 in
    let calls = law.1 in
    let none = none_closes job number engine h (omega (arith, more, count, calls)) in
    hands_lawful job number engine engine_now (Call engine.claimed) 1 t.context t.context.set work h may t.hands (law.0, refl, omega (arith, more, calls)) none refl (λ e. absurd cc)
    (hands_places job number engine engine_now (Call engine.claimed) 1 t.context h t.hands) t.work_is

pub set_lawful : {laws : Laws} (job : LoggedJob laws) (number : ℕ) (engine engine_now : EngineView) (intake intake_now : IntakeView) (work : WorkView) → LawfulEngine job (of_node number) engine → LawfulIntake job number intake → engine.claimed ≡ intake.claimed → MayClaim engine
    → TakesSet engine engine_now intake intake_now work → LawfulEngine job (of_node number) engine_now × LawfulWork job work
unfolding LawfulEngine LawfulIntake
set_lawful {laws} job number engine engine_now intake intake_now work h i agree may t =
    let task = set_task job number engine intake t.at work.context.set h i t.role agree t.next t.takes.shown in
    let none = none_closes job number engine h (more_sets job number engine t.at work.context.set h t.role task) in
    let long : length work.context.set ≡ length (inputs_of h.streams h.node) = set_long h.node h.streams engine.claimed t.at work.context.set task.1 in
    hands_lawful job number engine engine_now (Process t.at) 1 t.context work.context.set work h may t.hands task none refl (λ e. absurd cc) (long ∙ length-map h.node.inputs (stream_of h.streams)) t.work_is
  where
    set_long : (node : PlanNode) (streams : List (StreamPrefix Plain)) (k at : ℕ) (set : List (Option (Stamped Plain))) → slice_get (sets_of streams node) k ≡ Some (record { at = at; set = set }) → length set ≡ length (inputs_of streams node)
    set_long node streams k at set is = at_node (λ (e : TimedSet Plain). length e.set ≡ length (inputs_of streams node)) (sets_of streams node) k (record { at = at; set = set }) (sets-places node.policy (inputs_of streams node)) is

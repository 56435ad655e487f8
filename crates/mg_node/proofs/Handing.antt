-- A work that is claimed is lawful, and so is its engine.
use Rattle.std.proofs.Common.{◌≡◌, ℕ, zero, suc, ◌+◌, ◌<◌, Bool, true, false, cond, List, [], ◌∷◌, ◌++◌, length, length-append, append-nil, Option, Some, None, option_map, slice_get, count_by as number_of, inl, inr, ◌⊎◌, ap, sym, refl, subst, ◌∙◌, arith, if◌then◌else◌}
use Rattle.std.specs.List.{AllByRecursion}
use Rattle.std.proofs.lemmas.List.Sums.{sum_by-append, sum_by-cons}
use Rattle.std.proofs.lemmas.List.Elements.{recursion_from_All, All-from_recursion}
use Rattle.mg_value.specs.Payload.{Plain}
use Rattle.mg_value.specs.Packet.{Stamped}
use Rattle.mg_settled.specs.Prefix.{StreamPrefix}
use Rattle.mg_calc.specs.Rules.{Laws}
use Rattle.mg_calc.specs.declared.node_fault.Phase.{Phase}
use Rattle.mg_calc.specs.declared.node_fault.Phase.TheVariants.{Open, Call as SourceCall, Process, Close}
use Rattle.mg_calc.specs.declared.plan_node.PlanNode.{PlanNode}
use Rattle.mg_node.specs.Views.{ContextView, EntryView, EngineView}
use Rattle.mg_node.specs.Job.{LoggedJob, IsTask, IsLastWork, count_of_all, stage, log_after, calls_before}
use Rattle.mg_node.specs.Windows.{has_ended}
use Rattle.mg_node.specs.Lawful.{is_close, IsIdle, IsEntry, come_to, calls_by, IsEngineOf, LawfulWork}
use Rattle.mg_node.proofs.Delivering.{last_have}
use Rattle.mg_node.proofs.FrontWaits.{snoc_waits}
use Rattle.mg_node.proofs.Stateless.{stage_empty, KeepsNothing, several_keep_nothing}

-- a further entry
snoc_get : {X : Type 0} (xs : List X) (y : X) (i : ℕ) (x : X) → slice_get (xs ++ y ∷ []) i ≡ Some x → (slice_get xs i ≡ Some x) ⊎ ((i ≡ length xs) × (y ≡ x))
snoc_get [] y zero x h = inr (refl, cc)
snoc_get [] y (suc i) x h = absurd cc
snoc_get (z ∷ xs) y zero x h = inl h
snoc_get (z ∷ xs) y (suc i) x h = elim (snoc_get xs y i x h) [
  | inl there ↦ inl there
  | inr last ↦ inr (ap suc last.0, last.1)
]

first_have : {X : Type 0} (P : X → Type 0) (ps qs : List X) → AllByRecursion P (ps ++ qs) → AllByRecursion P ps
first_have P [] qs h = tt
first_have P (p ∷ ps) qs h = (h.0, first_have P ps qs h.1)

number_snoc : {X : Type 0} (p : X → Bool) (xs : List X) (x : X) → number_of p (xs ++ x ∷ []) ≡ number_of p xs + (if p x then 1 else 0)
number_snoc p xs x =
    let one : number_of p (x ∷ []) ≡ (if p x then 1 else 0) + 0 = sum_by-cons (λ y. cond (p y) 1 0) x [] in
    sum_by-append (λ y. cond (p y) 1 0) xs (x ∷ []) ∙ ap (λ (n : ℕ). number_of p xs + n) (one ∙ omega arith)

-- no entry is Close's if a further set or call is there
close_is : (phase : Phase) → is_close phase ≡ true → phase ≡ Close
close_is Open e = absurd cc
close_is (SourceCall number) e = absurd cc
close_is (Process at) e = absurd cc
close_is Close e = refl

pub none_number : {X : Type 0} (p : X → Bool) (xs : List X) → ((i : ℕ) (x : X) → slice_get xs i ≡ Some x → p x ≡ true → ⊥) → number_of p xs ≡ 0
none_number p [] h = refl
none_number {X} p (x ∷ xs) h =
    let rest : number_of p xs ≡ 0 = none_number p xs (λ i y at. h (suc i) y at) in
    let here : (let n : ℕ = if p x then 1 else 0 in n) ≡ 0 = not_here (p x) (h 0 x refl) in
    sum_by-cons (λ y. cond (p y) 1 0) x xs ∙ omega (arith, rest, here)
  where
    not_here : (b : Bool) → (b ≡ true → ⊥) → (let n : ℕ = if b then 1 else 0 in n) ≡ 0
    not_here true never = absurd (never refl)
    not_here false never = refl

close_task : {laws : Laws} (job : LoggedJob laws) (streams : List (StreamPrefix Plain)) (node : PlanNode) (number : ℕ) (phase : Phase) (set : List (Option (Stamped Plain))) → phase ≡ Close → IsTask job.job streams node number phase set → IsLastWork job.job streams node number
close_task {laws} job streams node number phase set is task = subst (λ (p : Phase). IsTask job.job streams node number p set) is task

pub none_closes : {laws : Laws} (job : LoggedJob laws) (number : ℕ) (engine : EngineView) (h : IsEngineOf job number engine) → engine.claimed < count_of_all h.streams h.node → number_of (λ e. is_close e.phase) engine.window ≡ 0
none_closes {laws} job number engine h more = none_number (λ (e : EntryView). is_close e.phase) engine.window (λ i entry at closes.
    (let e = h.entries i entry at in
    let is = close_is entry.phase closes in
    let last = close_task job h.streams h.node (engine.laid + i) entry.phase e.set is e.task in
    let all = last.all in
    let here = e.close is in
    let claimed = h.claimed in
    absurd (omega (arith, all, here, claimed, more))))

-- the engine, with a further work that is out
abbrev pub handed : EngineView → Phase → ℕ → List ContextView → EngineView
handed engine phase more idle = record engine { claimed = engine.claimed + more; window = engine.window ++ record { phase = phase; outcome = None; committed = false } ∷ []; idle = idle }

pub handed_engine : {laws : Laws} (job : LoggedJob laws) (number : ℕ) (engine : EngineView) (phase : Phase) (more : ℕ) (context : ContextView) (idle : List ContextView) (set : List (Option (Stamped Plain))) (h : IsEngineOf job number engine)
    → has_ended engine ≡ false → engine.idle ≡ idle ++ context ∷ [] → IsTask job.job h.streams h.node engine.claimed phase set → number_of (λ e. is_close e.phase) engine.window ≡ 0 → more + (if is_close phase then 1 else 0) ≡ 1 → (phase ≡ Close → engine.claimed ≡ engine.laid)
    → IsEngineOf job number (handed engine phase more idle)
handed_engine {laws} job number engine phase more context idle set h goes_on idle_is task none one close =
    let e : EntryView = record { phase = phase; outcome = None; committed = false } in
    let order = h.order in
    let here : engine.laid + length engine.window ≡ engine.claimed = omega (arith, order, none) in
    let P : ContextView → Type 0 = IsIdle job h.streams h.node engine.laid engine.closed in
    let all_idle : AllByRecursion P (idle ++ context ∷ []) = subst (AllByRecursion P) idle_is (recursion_from_All P engine.idle h.idle) in
    let contexts = h.contexts in
    let claimed = h.claimed in
    record {
      streams = h.streams;
      solves = h.solves;
      node = h.node;
      there = h.there;
      set_up = record { role = h.set_up.role; number_is = h.set_up.number_is; first = h.set_up.first; offset = h.set_up.offset; in_flight = h.set_up.in_flight; inputs = h.set_up.inputs };
      begun = h.begun;
      claimed = omega (arith, claimed);
      taken = h.taken;
      closed = h.closed;
      whole = h.whole;
      kept = h.kept;
      raised = h.raised;
      extended = h.extended;
      fault = h.fault;
      order = omega (arith, order, none, one, number_snoc (λ (x : EntryView). is_close x.phase) engine.window e, length-append engine.window (e ∷ []));
      entries = (λ i entry at. elim (snoc_get engine.window e i entry at) [
        | inl there ↦ h.entries i entry there
        | inr last ↦
            (let number_is : engine.laid + i ≡ engine.claimed = (let place = last.0 in omega (arith, place, here)) in
            subst (λ (x : EntryView). IsEntry job h.streams h.node engine.laid (engine.laid + i) number x) last.1 (record {
              set = set;
              task = subst (λ (k : ℕ). IsTask job.job h.streams h.node k phase set) (sym number_is) task;
              outcome = tt;
              committed = (λ yes_is. absurd cc);
              close = (λ is. number_is ∙ close is);
            }))
      ]);
      idle = All-from_recursion P idle (first_have P idle (context ∷ []) all_idle);
      contexts = omega (arith, contexts, ap length idle_is, length-append idle (context ∷ []), length-append engine.window (e ∷ []));
      waits = (λ goes. snoc_waits engine.window e refl (h.waits goes));
      ended = (λ ended. absurd (let clash : true ≡ false = sym ended ∙ goes_on in cc));
    }

-- the work: its calculator keeps what all that is claimed gives
one_or_none : {X : Type 0} (xs : List X) → (xs ≡ []) ⊎ (0 < length xs)
one_or_none [] = inl refl
one_or_none (x ∷ xs) = inr (omega arith)

pub record KeepsAll {laws : Laws} (job : LoggedJob laws) (streams : List (StreamPrefix Plain)) (node : PlanNode) (claimed : ℕ) (context : ContextView) : Type 0 where
  pub state : context.told.state ≡ (stage job.job streams node claimed).state
  pub log : context.told.log ≡ log_after job node (calls_before streams node claimed)

keeps_all : {laws : Laws} (job : LoggedJob laws) (number : ℕ) (engine : EngineView) (context : ContextView) (h : IsEngineOf job number engine) → engine.closed ≡ false → length engine.window < engine.in_flight → number_of (λ e. is_close e.phase) engine.window ≡ 0
    → IsIdle job h.streams h.node engine.laid engine.closed context → KeepsAll job h.streams h.node engine.claimed context
keeps_all {laws} job number engine context h going room none idle =
    let order = h.order in
    let state : context.told.state ≡ (stage job.job h.streams h.node engine.laid).state = idle.state ∙ ap (λ (b : Bool). (come_to job h.streams h.node engine.laid b).state) going in
    let log : context.told.log ≡ log_after job h.node (calls_before h.streams h.node engine.laid) =
    idle.log ∙ ap (λ (b : Bool). log_after job h.node (calls_by h.streams h.node engine.laid b)) going ∙ ap (log_after job h.node) (append-nil (calls_before h.streams h.node engine.laid)) in
    elim (one_or_none engine.window) [
      | inl empty ↦
          (let same : engine.laid ≡ engine.claimed = (let none_long = ap length empty in omega (arith, order, none, none_long)) in
          record {
            state = state ∙ ap (λ (k : ℕ). (stage job.job h.streams h.node k).state) same;
            log = log ∙ ap (λ (k : ℕ). log_after job h.node (calls_before h.streams h.node k)) same;
          })
      | inr some ↦
          (let in_flight = h.set_up.in_flight in
          let nothing : KeepsNothing job h.node = several_keep_nothing job number h.node h.solves.is_job h.there (omega (arith, some, room, in_flight)) in
          let stateless = nothing.stateless in
          let first = nothing.unlogged in
          record {
            state = state ∙ stage_empty job h.streams number h.node engine.laid h.solves h.there stateless ∙ sym (stage_empty job h.streams number h.node engine.claimed h.solves h.there stateless);
            log = log ∙ ap (option_map (λ c. c ++ calls_before h.streams h.node engine.laid)) first ∙ sym (ap (option_map (λ c. c ++ calls_before h.streams h.node engine.claimed)) first);
          })
    ]

pub handed_work : {laws : Laws} (job : LoggedJob laws) (number : ℕ) (engine : EngineView) (phase : Phase) (context : ContextView) (idle : List ContextView) (set : List (Option (Stamped Plain))) (h : IsEngineOf job number engine)
    → engine.idle ≡ idle ++ context ∷ [] → engine.closed ≡ false → length engine.window < engine.in_flight → number_of (λ e. is_close e.phase) engine.window ≡ 0 → length set ≡ length h.node.inputs → IsTask job.job h.streams h.node engine.claimed phase set
    → LawfulWork job (record { node = engine.node; number = engine.claimed; phase = phase; context = record { told = context.told; set = set } })
unfolding LawfulWork
handed_work {laws} job number engine phase context idle set h idle_is going room none places task =
    let P : ContextView → Type 0 = IsIdle job h.streams h.node engine.laid engine.closed in
    let last : AllByRecursion P (context ∷ []) = last_have P idle (context ∷ []) (subst (AllByRecursion P) idle_is (recursion_from_All P engine.idle h.idle)) in
    let keeps = keeps_all job number engine context h going room none last.0 in
    record {
      streams = h.streams;
      solves = h.solves;
      node = h.node;
      there = ap (λ (n : ℕ). slice_get job.job.plan.nodes n) h.set_up.number_is ∙ h.there;
      fits = last.0.fits;
      places = places;
      task = task;
      at_work = (keeps.state, keeps.log);
    }

-- A front of a node's engine: what is laid, with all that belongs to it. Laying the answer of the first entry leads from one front to
-- the next.
use Rattle.std.proofs.Common.{◌≡◌, ℕ, suc, ◌+◌, ◌<◌, ◌≤◌, Bool, true, false, cond, List, [], ◌∷◌, ◌++◌, length, length-append, All, Some, None, Result, option_map, slice_get, count_by as number_of, ap, sym, refl, subst, ◌∙◌, arith, if◌then◌else◌}
use Rattle.std.specs.List.{AllZip}
use Rattle.std.proofs.lemmas.List.Elements.{All-nil, All-push, All-weaker}
use Rattle.std.proofs.lemmas.List.Sums.{sum_by-cons, count_by-le-length}
use Rattle.mg_value.specs.Payload.{Plain}
use Rattle.mg_settled.specs.Prefix.{StreamPrefix}
use Rattle.mg_settled.specs.Extension.{AreExtendedBy}
use Rattle.mg_calc.specs.Rules.{Laws}
use Rattle.mg_calc.specs.declared.cause.Cause.{Cause}
use Rattle.mg_calc.specs.declared.emission.Laid.{Laid}
use Rattle.mg_calc.specs.declared.node_fault.Phase.{Phase}
use Rattle.mg_calc.specs.declared.plan_node.PlanNode.{PlanNode}
use Rattle.mg_calc.specs.Meaning.{count_of}
use Rattle.mg_node.specs.Views.{ContextView, EntryView}
use Rattle.mg_node.specs.Job.{LoggedJob, streams_at, stage, IsLastWork, first_log, log_after}
use Rattle.mg_node.specs.Lawful.{IsRaised, IsIdle, IsEntry, is_close, come_to, calls_by}
use Rattle.mg_node.specs.Commits.{Front, calls_in_phase, answer_laid, has_stopped}
use Rattle.mg_node.proofs.LayingAll.{outputs_at, comes_to}
use Rattle.mg_node.proofs.Stateless.{KeepsNothing}
use Rattle.mg_node.proofs.Turns.{IsDone, Turns}

pub record IsFrontOf {laws : Laws} (job : LoggedJob laws) (streams : List (StreamPrefix Plain)) (node : PlanNode) (number claimed : ℕ) (front : Front) : Type 0 where
  pub few : front.laid ≤ claimed
  pub taken : front.laid ≤ count_of job.job streams node
  pub last : front.closed ≡ true → IsLastWork job.job streams node front.laid
  pub are_raised : AllZip IsRaised (come_to job streams node front.laid front.closed).outputs front.outputs
  pub extended : AreExtendedBy front.outputs (streams_at streams node.outputs)
  pub same_fault : front.fault ≡ (come_to job streams node front.laid front.closed).fault
  pub order : front.laid + length front.window ≡ claimed + number_of (λ e. is_close e.phase) front.window
  pub entries : (i : ℕ) (entry : EntryView) → slice_get front.window i ≡ Some entry → IsEntry job streams node front.laid (front.laid + i) number entry
  pub free : All (IsIdle job streams node front.laid front.closed) front.idle
  pub contexts : length front.idle + length front.window ≡ node.in_flight
  pub ended : has_stopped front ≡ true → 0 < length front.idle

-- the entries after the first
next_entry : {laws : Laws} (job : LoggedJob laws) (streams : List (StreamPrefix Plain)) (node : PlanNode) (owner n m k : ℕ) (entry : EntryView) → n < k → IsEntry job streams node n k owner entry → IsEntry job streams node m k owner entry
next_entry {laws} job streams node owner n m k entry later e = record {
  set = e.set;
  task = e.task;
  outcome = e.outcome;
  committed = e.committed;
  close = (λ c. absurd (let no = e.close c in omega (arith, no, later)));
}

entry_by : {laws : Laws} (job : LoggedJob laws) (streams : List (StreamPrefix Plain)) (node : PlanNode) (owner n i : ℕ) (phase : Phase) (context : ContextView) (answer : Result (List Laid) Cause) (entry : EntryView) (closes : Bool) → is_close phase ≡ closes → Turns job streams node n phase context answer
    → IsEntry job streams node n (n + suc i) owner entry → IsEntry job streams node (n + calls_in_phase phase) (n + calls_in_phase phase + i) owner entry
entry_by {laws} job streams node owner n i phase context answer entry true is t e = absurd (t.none is (n + suc i) entry.phase e.set (omega arith) e.task)
entry_by {laws} job streams node owner n i phase context answer entry false is t e =
    let one : calls_in_phase phase + 0 ≡ 1 = subst (λ (b : Bool). calls_in_phase phase + (if b then 1 else 0) ≡ 1) is t.one in
    subst (λ (k : ℕ). IsEntry job streams node (n + calls_in_phase phase) k owner entry) (let same : n + suc i ≡ n + calls_in_phase phase + i = omega (arith, one) in same)
    (next_entry job streams node owner n (n + calls_in_phase phase) (n + suc i) entry (omega arith) e)

-- the contexts that are free: the one that comes back, and the others, whose calculators keep nothing and have no log
context_free : {laws : Laws} (job : LoggedJob laws) (streams : List (StreamPrefix Plain)) (node : PlanNode) (n : ℕ) (phase : Phase) (context : ContextView) (answer : Result (List Laid) Cause) → IsDone job streams node n phase context answer → Turns job streams node n phase context answer
    → IsIdle job streams node (n + calls_in_phase phase) (is_close phase) context
context_free {laws} job streams node n phase context answer d t = record {
  fits = d.fits;
  places = d.places;
  state = t.state;
  log = d.log ∙ ap (log_after job node) t.log;
}

other_free : {laws : Laws} (job : LoggedJob laws) (streams : List (StreamPrefix Plain)) (node : PlanNode) (n : ℕ) (phase : Phase) (done other : ContextView) (answer : Result (List Laid) Cause) → Turns job streams node n phase done answer
    → node.shape.stateless ≡ true → first_log job node ≡ None → IsIdle job streams node n false other → IsIdle job streams node (n + calls_in_phase phase) (is_close phase) other
other_free {laws} job streams node n phase done other answer t stateless none free = record {
  fits = free.fits;
  places = free.places;
  state = free.state ∙ sym (t.nothing stateless);
  log = free.log ∙ ap (option_map (λ c. c ++ calls_by streams node n false)) none ∙ sym (ap (option_map (λ c. c ++ calls_by streams node (n + calls_in_phase phase) (is_close phase))) none);
}

others_free : {laws : Laws} (job : LoggedJob laws) (streams : List (StreamPrefix Plain)) (node : PlanNode) (n : ℕ) (phase : Phase) (done : ContextView) (answer : Result (List Laid) Cause) (idle : List ContextView) (works : ℕ) → Turns job streams node n phase done answer → (1 < node.in_flight → KeepsNothing job node)
    → length idle + suc works ≡ node.in_flight → All (IsIdle job streams node n false) idle → All (IsIdle job streams node (n + calls_in_phase phase) (is_close phase)) idle
others_free {laws} job streams node n phase done answer [] works t alone many free = All-nil (IsIdle job streams node (n + calls_in_phase phase) (is_close phase))
others_free {laws} job streams node n phase done answer (b ∷ idle) works t alone many free =
    let nothing = alone (omega (arith, many)) in
    All-weaker (IsIdle job streams node n false) (IsIdle job streams node (n + calls_in_phase phase) (is_close phase))
    (λ other. other_free job streams node n phase done other answer t nothing.stateless nothing.unlogged) (b ∷ idle) free

-- the next front
pub next_front : {laws : Laws} (job : LoggedJob laws) (streams : List (StreamPrefix Plain)) (node : PlanNode) (number claimed : ℕ) (front : Front) (entry : EntryView) (entries : List EntryView) (context : ContextView) (answer : Result (List Laid) Cause) → IsFrontOf job streams node number claimed front
    → front.window ≡ entry ∷ entries → front.closed ≡ false → (1 < node.in_flight → KeepsNothing job node) → IsDone job streams node front.laid entry.phase context answer → Turns job streams node front.laid entry.phase context answer
    → IsFrontOf job streams node number claimed (answer_laid node.shape.offset entry.phase context answer entries front)
next_front {laws} job streams node number claimed front entry entries context answer h window going alone d t =
    let n = front.laid in
    let phase = entry.phase in
    let offset = node.shape.offset in
    let before = stage job.job streams node n in
    let ts = streams_at streams node.outputs in
    let closes : List EntryView → ℕ = number_of (λ (e : EntryView). is_close e.phase) in
    let up : AllZip IsRaised before.outputs front.outputs = subst (λ (b : Bool). AllZip IsRaised (come_to job streams node n b).outputs front.outputs) going h.are_raised in
    let comes = comes_to offset phase before.outputs front.outputs ts answer up h.extended t.before (subst (λ (xs : List (StreamPrefix Plain)). AreExtendedBy xs ts) t.outputs t.extended) (λ f e. t.frozen f (t.fault ∙ e) ∙ t.outputs) in
    let order : n + suc (length entries) ≡ claimed + closes (entry ∷ entries) = subst (λ (w : List EntryView). n + length w ≡ claimed + closes w) window h.order in
    let first : closes (entry ∷ entries) ≡ (if is_close phase then 1 else 0) + closes entries = sum_by-cons (λ (e : EntryView). cond (is_close e.phase) 1 0) entry entries in
    let now : n + calls_in_phase phase + length entries ≡ claimed + closes entries = (let one = t.one in omega (arith, order, first, one)) in
    let most = count_by-le-length (λ (e : EntryView). is_close e.phase) entries in
    let contexts : length front.idle + suc (length entries) ≡ node.in_flight = subst (λ (w : List EntryView). length front.idle + length w ≡ node.in_flight) window h.contexts in
    let free : All (IsIdle job streams node n false) front.idle = subst (λ (b : Bool). All (IsIdle job streams node n b) front.idle) going h.free in
    record {
      few = omega (arith, now, most);
      taken = t.taken h.taken;
      last = t.last;
      are_raised = subst (λ (xs : List (StreamPrefix Plain)). AllZip IsRaised xs (outputs_at offset phase front.outputs answer)) (sym t.outputs) comes.are_raised;
      extended = comes.extended;
      same_fault = comes.same_fault ∙ sym t.fault;
      order = now;
      entries = (λ i e at. entry_by job streams node number n i phase context answer e (is_close phase) refl t (h.entries (suc i) e (ap (λ (w : List EntryView). slice_get w (suc i)) window ∙ at)));
      free = All-push (IsIdle job streams node (n + calls_in_phase phase) (is_close phase)) front.idle context (others_free job streams node n phase context answer front.idle (length entries) t alone contexts free) (context_free job streams node n phase context answer d t);
      contexts = omega (arith, contexts, length-append front.idle (context ∷ []));
      ended = (λ stops. omega (arith, length-append front.idle (context ∷ [])));
    }

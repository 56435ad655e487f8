-- What each step of an engine keeps: which works are out, and how it is set up.
use Rattle.std.proofs.Common.{◌≡◌, ℕ, ◌-◌, List, [], ◌∷◌, length, map, Option, Some, None, Result, Ok, Err, IfOk, slice_get, IfSome, inl, inr, ap, refl, sym, subst, ◌∙◌, arith}
use Rattle.std.specs.Result.{OnOk, OnErr}
use Rattle.std.proofs.lemmas.Option.{none-some}
use Rattle.mg_value.specs.Payload.{Plain}
use Rattle.mg_value.specs.Packet.{Stamped}
use Rattle.mg_settled.specs.Loopback.{packet_of}
use Rattle.mg_stream.specs.Pool.{Backlog}
use Rattle.mg_calc.specs.Rules.{Laws}
use Rattle.mg_calc.specs.declared.node_fault.Phase.{Phase}
use Rattle.mg_calc.specs.declared.node_fault.Phase.TheVariants.{Call, Process, Close}
use Rattle.mg_node.specs.declared.pending.Pending.{Pending}
use Rattle.mg_node.specs.declared.claimed.Claimed.{Claimed}
use Rattle.mg_node.specs.declared.claimed.Claimed.TheVariants.{Work, Answered, NotReady, InFlightFull, Draining, Ended, OutOfMemory}
use Rattle.mg_node.specs.Views.{IntakeView, ContextView, WorkView, PerformedView, OutcomeView, EntryView, EngineView}
use Rattle.mg_node.specs.Job.{LoggedJob}
use Rattle.mg_node.specs.Lawful.{of_node, LawfulEngine, AreCell}
use Rattle.mg_node.specs.IntakeStanding.{Stays}
use Rattle.mg_node.specs.Ports.{port_queue}
use Rattle.mg_node.specs.Shelves.{IsOut, shelf_at, Unshelves}
use Rattle.mg_node.specs.Out.{GoesOut, ComesBack, KeepsOut, PutsOut, KeepsSetUp}
use Rattle.mg_node.specs.Advances.{raised_output, advance_bound, advanced}
use Rattle.mg_node.specs.Claims.{with_answer, Claims, Hands}
use Rattle.mg_node.specs.Commits.{SomeJobHasEngine, Commits}
use Rattle.mg_node.proofs.Answering.{loop_cell_by}
use Rattle.mg_node.proofs.Cells.{claim_lawful}
use Rattle.mg_node.proofs.ClaimsLeave.{answer_stays}
use Rattle.mg_node.proofs.StaysOut.{unrun_goes, further_goes, unshelved_out, committed_back}
use Rattle.mg_node.proofs.WorksOut.{claim_out}

abbrev gones : List (Backlog Plain) → List ℕ
gones outputs = map (λ (b : Backlog Plain). b.gone) outputs

-- How it is set up.

-- if only other things change
others_kept : (e : EngineView) (outputs : List (Backlog Plain)) (laid claimed : ℕ) (window : List EntryView) (idle : List ContextView) → gones outputs ≡ gones e.outputs
    → KeepsSetUp e (record e { outputs = outputs; laid = laid; claimed = claimed; window = window; idle = idle })
others_kept e outputs laid claimed window idle gone = record { role = refl; node_is = refl; first = refl; in_flight = refl; given_up = gone }

set_up_by : (e v f : EngineView) → f ≡ v → KeepsSetUp e v → KeepsSetUp e f
set_up_by e v f is k = subst (λ (x : EngineView). KeepsSetUp e x) (sym is) k

set_up_same : (e f : EngineView) → f ≡ e → KeepsSetUp e f
set_up_same e f is = set_up_by e e f is (others_kept e e.outputs e.laid e.claimed e.window e.idle refl)

pub window_set_up : (e : EngineView) (window : List EntryView) → KeepsSetUp e (record e { window = window })
window_set_up e window = others_kept e e.outputs e.laid e.claimed window e.idle refl

hands_set_up : (e f : EngineView) (phase : Phase) (more : ℕ) (context : ContextView) → Hands e f phase more context → KeepsSetUp e f
hands_set_up e f phase more context t = set_up_by e _ f t.now (others_kept e e.outputs e.laid _ _ f.idle refl)

answer_gone : (answer : Option (Stamped Plain)) (outputs : List (Backlog Plain)) → gones (with_answer answer outputs) ≡ gones outputs
answer_gone answer [] = refl
answer_gone None (b ∷ bs) = refl
answer_gone (Some p) (b ∷ bs) = refl

work_set_up : (X : Type 0) (work : WorkView) (e f : EngineView) (i k : IntakeView) → Claims {C = X} (Work work) e f i k → KeepsSetUp e f
work_set_up X work e f i k claims = elim claims [
  | inl unrun ↦ set_up_by e _ f unrun.1.now (window_set_up e f.window)
  | inr further ↦ elim further.1 [
    | inl called ↦ hands_set_up e f _ _ _ called.0.hands
    | inr other ↦ elim other [
      | inl closes ↦ hands_set_up e f _ _ _ closes.0.hands
      | inr t ↦ hands_set_up e f _ _ _ t.hands
    ]
  ]
]

pub claim_set_up : {X : Type 0} (r : Claimed X) (e f : EngineView) (i k : IntakeView) → Claims {C = X} r e f i k → KeepsSetUp e f
claim_set_up {X} (Work work) e f i k c = work_set_up X work e f i k c
claim_set_up Answered e f i k c = set_up_by e _ f c.1.now (others_kept e _ _ _ e.window e.idle (answer_gone (packet_of c.1.reply) e.outputs))
claim_set_up NotReady e f i k c = set_up_same e f c.2.same_engine
claim_set_up InFlightFull e f i k c = set_up_same e f c.3.same_engine
claim_set_up Draining e f i k c = set_up_same e f c.3.same_engine
claim_set_up Ended e f i k c = set_up_same e f c.1.same_engine
claim_set_up OutOfMemory e f i k c = set_up_same e f c.2.same_engine

pub commits_set_up : (outcome : OutcomeView) (n : ℕ) (e f : EngineView) → Commits outcome n e f → KeepsSetUp e f
commits_set_up outcome n e f c = record {
  role = ap (λ (v : EngineView). v.role) c.others;
  node_is = ap (λ (v : EngineView). v.node) c.others;
  first = ap (λ (v : EngineView). v.first) c.others;
  in_flight = ap (λ (v : EngineView). v.in_flight) c.others;
  given_up = c.given_up;
}

pub commit_set_up : {E : Type 0} (outcome : OutcomeView) (r : Result ℕ E) (e f : EngineView) → IfOk r (λ n. Commits outcome n e f) → OnErr r (f ≡ e) → KeepsSetUp e f
commit_set_up outcome (Ok n) e f c same = commits_set_up outcome n e f c
commit_set_up outcome (Err x) e f c same = set_up_same e f same

pub unshelving_set_up : (r : Option PerformedView) (e f : EngineView) (number : ℕ) → Unshelves r e f number → KeepsSetUp e f
unshelving_set_up None e f number is = set_up_same e f is
unshelving_set_up (Some p) e f number is = set_up_by e _ f is (window_set_up e _)

raised_gone : (bound : Option ℕ) (outputs : List (Backlog Plain)) → gones (map (raised_output bound) outputs) ≡ gones outputs
raised_gone bound [] = refl
raised_gone None (b ∷ bs) = ap (λ (ns : List ℕ). b.gone ∷ ns) (raised_gone None bs)
raised_gone (Some t) (b ∷ bs) = ap (λ (ns : List ℕ). b.gone ∷ ns) (raised_gone (Some t) bs)

pub advance_set_up : (e f : EngineView) (waits : Pending) → f ≡ advanced e waits → KeepsSetUp e f
advance_set_up e f waits is = set_up_by e _ f is (others_kept e _ e.laid e.claimed e.window e.idle (raised_gone (advance_bound e waits) e.outputs))

-- Which works are out.

-- if the window and the count of what is laid stay the same
pub window_out : (e f : EngineView) → f.node ≡ e.node → f.laid ≡ e.laid → f.window ≡ e.window → KeepsOut e f
window_out e f node laid window = record {
  stays = λ other o. record {
    node_is = o.node_is ∙ sym node;
    laid = (let low = o.laid in omega (arith, low, laid));
    entry = o.entry;
    there = ap (λ (w : List EntryView). slice_get w (other.number - f.laid)) window ∙ ap (λ (n : ℕ). slice_get e.window (other.number - n)) laid ∙ o.there;
    out = o.out;
    phase_is = o.phase_is;
  };
  only = λ place entry at none. record {
    place = place;
    number_is = omega (arith, laid);
    entry = entry;
    there = ap (λ (w : List EntryView). slice_get w place) (sym window) ∙ at;
    missing = none;
  };
}

out_same : (e f : EngineView) → f ≡ e → KeepsOut e f
out_same e f is = window_out e f (ap (λ (v : EngineView). v.node) is) (ap (λ (v : EngineView). v.laid) is) (ap (λ (v : EngineView). v.window) is)

pub advance_out : (e f : EngineView) (waits : Pending) → f ≡ advanced e waits → KeepsOut e f
advance_out e f waits is = window_out e f (ap (λ (v : EngineView). v.node) is) (ap (λ (v : EngineView). v.laid) is) (ap (λ (v : EngineView). v.window) is)

-- if there is nothing in the window, before or after
nothing_at : (window : List EntryView) (place : ℕ) (x : EntryView) → window ≡ [] → slice_get window place ≡ Some x → ⊥
nothing_at [] place x none at = none-some x at
nothing_at (y ∷ ys) place x none at = absurd (omega (arith, ap length none))

nothing_out : (e f : EngineView) → e.window ≡ [] → f.window ≡ [] → KeepsOut e f
nothing_out e f none none_now = record {
  stays = λ other o. absurd (nothing_at e.window (other.number - e.laid) o.entry none o.there);
  only = λ place entry at missing. absurd (nothing_at f.window place entry none_now at);
}

work_goes : {laws : Laws} (X : Type 0) (job : LoggedJob laws) (n : ℕ) (work : WorkView) (e f : EngineView) (i k : IntakeView) → LawfulEngine job (of_node n) e → LawfulEngine job (of_node n) f → IsOut f work
    → Claims {C = X} (Work work) e f i k → GoesOut e f work
work_goes {laws} X job n work e f i k h now out claims = elim claims [
  | inl unrun ↦ unrun_goes job n e f work h unrun.1 out
  | inr further ↦ elim further.1 [
    | inl called ↦ (let t = called.0 in further_goes job n e f (Call e.claimed) 1 t.context work h now t.hands (ap (λ (w : WorkView). w.number) t.work_is) out)
    | inr other ↦ elim other [
      | inl closes ↦ (let t = closes.0 in further_goes job n e f Close 0 t.context work h now t.hands (ap (λ (w : WorkView). w.number) t.work_is) out)
      | inr t ↦ further_goes job n e f (Process t.at) 1 t.context work h now t.hands (ap (λ (w : WorkView). w.number) t.work_is) out
    ]
  ]
]

pub claim_puts_out : {laws : Laws} {X : Type 0} (r : Claimed X) (e f : EngineView) (i k : IntakeView) → AreCell laws e i → Claims {C = X} r e f i k → PutsOut r e f
claim_puts_out {laws} {X} (Work work) e f i k cell c =
    (let r : Claimed X = Work work in
    work_goes X cell.job cell.number work e f i k cell.lawful_engine (claim_lawful {C = X} cell.job cell.number r e f i k cell.lawful_engine cell.lawful_intake cell.agree c).lawful_engine
    (claim_out {C = X} r e f i k cell c) c)
claim_puts_out {laws} Answered e f i k cell c =
    (let t = c.1 in
    let empty = (loop_cell_by cell.job cell.number e i t.held cell.lawful_engine cell.lawful_intake cell.agree t.role t.waits c.0).laid in
    nothing_out e f empty (ap (λ (v : EngineView). v.window) t.now ∙ empty))
claim_puts_out {laws} NotReady e f i k cell c = out_same e f c.2.same_engine
claim_puts_out {laws} InFlightFull e f i k cell c = out_same e f c.3.same_engine
claim_puts_out {laws} Draining e f i k cell c = out_same e f c.3.same_engine
claim_puts_out {laws} Ended e f i k cell c = out_same e f c.1.same_engine
claim_puts_out {laws} OutOfMemory e f i k cell c = out_same e f c.2.same_engine

pub commit_back : {laws : Laws} {E : Type 0} (outcome : OutcomeView) (r : Result ℕ E) (e f : EngineView) → IsOut e outcome.work → SomeJobHasEngine laws e → IfOk r (λ n. Commits outcome n e f) → OnOk r (ComesBack e f outcome.work.number)
commit_back {laws} outcome (Ok n) e f out some c = committed_back some.job some.number outcome n e f out some.lawful c
commit_back {laws} outcome (Err x) e f out some c = tt

pub commits_back : {laws : Laws} (outcome : OutcomeView) (n : ℕ) (e f : EngineView) → IsOut e outcome.work → SomeJobHasEngine laws e → Commits outcome n e f → ComesBack e f outcome.work.number
commits_back {laws} outcome n e f out some c = committed_back some.job some.number outcome n e f out some.lawful c

pub unshelve_out : {laws : Laws} (job : LoggedJob laws) (owner : ℕ) (r : Option PerformedView) (e f : EngineView) (number : ℕ) → r ≡ shelf_at e number → Unshelves r e f number → LawfulEngine job (of_node owner) e → IfSome r (λ p. GoesOut e f p.work)
unshelve_out {laws} job owner None e f number found taken h = tt
unshelve_out {laws} job owner (Some p) e f number found taken h = unshelved_out job owner e f number p h (sym found) taken

-- What is counted at the ports of the intake.

stays_by : (i k : IntakeView) → k ≡ i → (port : ℕ) → Stays (port_queue i.waits port) (port_queue k.waits port)
stays_by i k is port = subst (λ (x : IntakeView). Stays (port_queue i.waits port) (port_queue x.waits port)) (sym is) (record { count = refl; bound = refl })

work_stays : (X : Type 0) (work : WorkView) (e f : EngineView) (i k : IntakeView) → Claims {C = X} (Work work) e f i k → (port : ℕ) → Stays (port_queue i.waits port) (port_queue k.waits port)
work_stays X work e f i k claims port = elim claims [
  | inl unrun ↦ stays_by i k unrun.2 port
  | inr further ↦ elim further.1 [
    | inl called ↦ stays_by i k called.1 port
    | inr other ↦ elim other [
      | inl closes ↦ stays_by i k closes.1 port
      | inr t ↦ record { count = t.takes.counts port; bound = t.takes.bounds port }
    ]
  ]
]

pub claim_stays : {X : Type 0} (r : Claimed X) (e f : EngineView) (i k : IntakeView) → Claims {C = X} r e f i k → (port : ℕ) → Stays (port_queue i.waits port) (port_queue k.waits port)
claim_stays {X} (Work work) e f i k c = work_stays X work e f i k c
claim_stays Answered e f i k c = answer_stays e f i k c.1
claim_stays NotReady e f i k c = stays_by i k c.2.same_intake
claim_stays InFlightFull e f i k c = stays_by i k c.3.same_intake
claim_stays Draining e f i k c = stays_by i k c.3.same_intake
claim_stays Ended e f i k c = stays_by i k c.1.same_intake
claim_stays OutOfMemory e f i k c = stays_by i k c.2.same_intake

-- What is touched between two sweeps, and how the rest of a net stays at rest.
use Rattle.std.proofs.Common.{◌≡◌, ℕ, ◌+◌, ◌-◌, ◌<◌, ◌≤◌, List, length, Option, Some, None, IfSome, get_or, slice_get, slice_set, inl, inr, ap, refl, sym, subst, ◌∙◌, arith}
use Rattle.mg_value.specs.Payload.{Plain}
use Rattle.mg_settled.specs.Prefix.{StreamPrefix}
use Rattle.mg_calc.specs.Rules.{Laws}
use Rattle.mg_calc.specs.declared.inputs.Inputs.{Inputs}
use Rattle.mg_calc.specs.declared.plan.Plan.{Plan}
use Rattle.mg_node.specs.Views.{IntakeView, EngineView}
use Rattle.mg_node.proofs.Lemmas.{get_other, same_put}
use Rattle.mg_ready.specs.Ready.{ReadyNodes, IsIn}
use Rattle.mg_sched.specs.Views.{WorkQueueView, NetView}
use Rattle.mg_sched.specs.StandsFor.{StandsForSome}
use Rattle.mg_sched.specs.Extends.{MayGoOnWith}
use Rattle.mg_sched.specs.Code.Agendas.{AgendaView, IsAgendaOf}
use Rattle.mg_sched.specs.Code.Longer.{AreLonger}
use Rattle.mg_sched.specs.Code.Quiet.{RestBut, IsKeptBy, RestsButKept, WakesLast, Touches, OfKept}
use Rattle.mg_sched.proofs.Finding.{places, read_at}
use Rattle.mg_sched.proofs.Sweeping.{agenda_long}
use Rattle.mg_sched.proofs.Touching.{below_or, stays_in}

-- the parts at places that aren't touched are as they were
pub rest_moves : (plan : Plan) (engines engines_now : List EngineView) (intakes intakes_now : List IntakeView) (work_queues : List WorkQueueView) (touched touched_now : ReadyNodes) → ((place : ℕ) → IsIn touched place → IsIn touched_now place)
    → ((place : ℕ) → ¬ IsIn touched_now place → slice_get engines_now place ≡ slice_get engines place) → ((place : ℕ) → ¬ IsIn touched_now place → slice_get intakes_now place ≡ slice_get intakes place)
    → RestBut plan engines intakes work_queues touched → RestBut plan engines_now intakes_now work_queues touched_now
rest_moves plan engines engines_now intakes intakes_now work_queues touched touched_now grows same_engines same_intakes h = record {
  edges = λ number place e engine intake there upto from out_from out_to at to.
      h.edges number place e engine intake there upto from (λ is. out_from (grows place is)) (λ is. out_to (grows e.node is)) (sym (same_engines place out_from) ∙ at) (sym (same_intakes e.node out_to) ∙ to);
  nodes = λ node engine intake work_queue there out at to on.
      h.nodes node engine intake work_queue there (λ is. out (grows node is)) (sym (same_engines node out) ∙ at) (sym (same_intakes node out) ∙ to) on;
}

-- Graph inputs that go on.

pub wakes_kept : (plan : Plan) (count : ℕ) (slot slot_now : Option AgendaView) → OfKept (WakesLast count) slot slot_now → IsKeptBy plan slot → IsKeptBy plan slot_now
wakes_kept plan count None slot_now w kept = subst (IsKeptBy plan) (sym w) tt
wakes_kept plan count (Some a) None w kept = absurd w
wakes_kept plan count (Some a) (Some b) w kept = agenda_long plan a b kept w.heads w.links w.starts

longer_same : (engines engines_now : List EngineView) (from count : ℕ) (pieces : List (StreamPrefix Plain)) (a b : AgendaView) → WakesLast count a b → AreLonger from pieces count engines engines_now → from + count ≡ length a.heads
    → (place : ℕ) → ¬ IsIn b.touched place → slice_get engines_now place ≡ slice_get engines place
longer_same engines engines_now from count pieces a b w longer last place out = elim (below_or place from) [
  | inl before ↦ longer.others place (inl before)
  | inr past ↦ elim (below_or place (from + count)) [
    | inl within ↦ absurd (out (w.woken place (omega (arith, within, last)) (omega (arith, past, last))))
    | inr behind ↦ longer.others place (inr behind)
  ]
]

pub wakes_rests : (plan : Plan) (engines engines_now : List EngineView) (intakes : List IntakeView) (work_queues : List WorkQueueView) (from count : ℕ) (pieces : List (StreamPrefix Plain)) (slot slot_now : Option AgendaView)
    → OfKept (WakesLast count) slot slot_now → AreLonger from pieces count engines engines_now → from + count ≡ length plan.nodes + length plan.inputs → IsKeptBy plan slot → RestsButKept plan engines intakes work_queues slot
    → RestsButKept plan engines_now intakes work_queues slot_now
wakes_rests plan engines engines_now intakes work_queues from count pieces None slot_now w longer last kept h = absurd h
wakes_rests plan engines engines_now intakes work_queues from count pieces (Some a) None w longer last kept h = absurd w
wakes_rests plan engines engines_now intakes work_queues from count pieces (Some a) (Some b) w longer last kept h =
    (let all : from + count ≡ length a.heads = last ∙ sym kept.places in
    rest_moves plan engines engines_now intakes intakes work_queues a.touched b.touched w.grows (longer_same engines engines_now from count pieces a b w longer all) (λ place out. refl) h)

-- there is a place for each engine
pub last_fit : {laws : Laws} (shown net : NetView) (slot : Option AgendaView) (count : ℕ) → shown ≡ net → StandsForSome laws net → IsKeptBy shown.plan slot → count ≤ length net.engines → IfSome slot (λ a. count ≤ length a.heads)
last_fit {laws} shown net None count is some kept few = tt
last_fit {laws} shown net (Some a) count is some kept few =
    (let long = (places net some).0 in let heads = (subst (λ (v : NetView). IsAgendaOf v.plan a) is kept).places in omega (arith, long, heads, few))

-- a net that may go on stands for a job
pub may_stands : {laws : Laws} (more : Inputs) (net : NetView) → MayGoOnWith laws more net → StandsForSome laws net
may_stands {laws} more net may = record { job = may.first; stands = may.stands }

pub fit_all : (shown net : NetView) (engines : List EngineView) (pieces : List (StreamPrefix Plain)) (count : ℕ) → shown ≡ net → engines ≡ shown.engines → length pieces ≤ length engines → count ≡ length pieces → count ≤ length net.engines
fit_all shown net engines pieces count is are fit count_is =
    let long : length engines ≡ length net.engines = ap (λ (es : List EngineView). length es) are ∙ ap (λ (v : NetView). length v.engines) is in omega (arith, long, fit, count_is)

-- the last graph inputs of a net go on, and are touched
pub extend_rests : {laws : Laws} (shown net : NetView) (engines now items : List EngineView) (pieces : List (StreamPrefix Plain)) (count : ℕ) (slot slot_now : Option AgendaView) → shown ≡ net → StandsForSome laws net → engines ≡ shown.engines → items ≡ now
    → count ≡ length pieces → length pieces ≤ length engines → OfKept (WakesLast count) slot slot_now → AreLonger (length engines - length pieces) pieces (length pieces) engines now → IsKeptBy shown.plan slot
    → RestsButKept shown.plan shown.engines shown.intakes shown.work_queues slot → RestsButKept shown.plan items shown.intakes shown.work_queues slot_now
extend_rests {laws} shown net engines now items pieces count slot slot_now is some are same count_is fit wakes longer kept h =
    let long : length engines ≡ length net.engines = ap (λ (es : List EngineView). length es) are ∙ ap (λ (v : NetView). length v.engines) is in
    let all = (places net some).0 in
    let own : length shown.plan.nodes + length shown.plan.inputs ≡ length net.plan.nodes + length net.plan.inputs = ap (λ (v : NetView). length v.plan.nodes + length v.plan.inputs) is in
    let last : (length engines - length pieces) + count ≡ length shown.plan.nodes + length shown.plan.inputs = omega (arith, long, all, own, fit, count_is) in
    subst (λ (es : List EngineView). RestsButKept shown.plan es shown.intakes shown.work_queues slot_now) (sym same)
    (wakes_rests shown.plan engines now shown.intakes shown.work_queues (length engines - length pieces) count pieces slot slot_now wakes
    (subst (λ (n : ℕ). AreLonger (length engines - length pieces) pieces n engines now) (sym count_is) longer) last kept
    (subst (λ (es : List EngineView). RestsButKept shown.plan es shown.intakes shown.work_queues slot) (sym are) h))

-- A set that is taken from the collector.

pub touches_kept : (plan : Plan) (place : ℕ) (slot slot_now : Option AgendaView) → OfKept (Touches place) slot slot_now → IsKeptBy plan slot → IsKeptBy plan slot_now
touches_kept plan place None slot_now t kept = subst (IsKeptBy plan) (sym t) tt
touches_kept plan place (Some a) None t kept = absurd t
touches_kept plan place (Some a) (Some b) t kept = agenda_long plan a b kept t.heads t.links t.starts

pub touches_rests : (plan : Plan) (engines : List EngineView) (intakes : List IntakeView) (work_queues : List WorkQueueView) (place : ℕ) (intake : IntakeView) (slot slot_now : Option AgendaView) → OfKept (Touches place) slot slot_now
    → RestsButKept plan engines intakes work_queues slot → RestsButKept plan engines (slice_set intakes place intake) work_queues slot_now
touches_rests plan engines intakes work_queues place intake None slot_now t h = absurd h
touches_rests plan engines intakes work_queues place intake (Some a) None t h = absurd t
touches_rests plan engines intakes work_queues place intake (Some a) (Some b) t h =
    rest_moves plan engines engines intakes (slice_set intakes place intake) work_queues a.touched b.touched (λ other is. stays_in a.touched b.touched place other t.touched t.only is) (λ other out. refl)
    (λ other out. get_other intakes place other intake (λ same. out (subst (IsIn b.touched) (sym same) t.touched))) h

-- and if there is none
pub taken_none : (plan : Plan) (engines : List EngineView) (intakes : List IntakeView) (work_queues : List WorkQueueView) (place : ℕ) (old now : IntakeView) (slot : Option AgendaView) → old ≡ get_or intakes place old → now ≡ old → place < length intakes
    → RestsButKept plan engines intakes work_queues slot → RestsButKept plan engines (slice_set intakes place now) work_queues slot
taken_none plan engines intakes work_queues place old now slot value same within h =
    let is : slice_set intakes place now ≡ intakes = ap (λ (i : IntakeView). slice_set intakes place i) same ∙ same_put intakes place old (read_at intakes place old within value) in
    subst (λ (l : List IntakeView). RestsButKept plan engines l work_queues slot) (sym is) h

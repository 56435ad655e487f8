-- A net that goes on with further input of some graph inputs alone.
use Rattle.std.proofs.Common.{◌≡◌, ◌⊎◌, inl, inr, ℕ, zero, suc, ◌+◌, ◌<◌, List, [], ◌∷◌, ◌++◌, append-nil, length, map, Option, Some, None, IfSome, get_or, slice_get, ap, sym, refl, subst, ◌∙◌, arith}
use Rattle.std.proofs.lemmas.Option.{same_Some, slice_get_within}
use Rattle.std.proofs.lemmas.Bool.{cases_eq}
use Rattle.mg_value.specs.Payload.{Plain}
use Rattle.mg_value.specs.Packet.{Stamped}
use Rattle.mg_settled.specs.Prefix.{StreamPrefix, empty_prefix}
use Rattle.mg_stream.specs.Pool.{Backlog}
use Rattle.mg_calc.specs.Rules.{Laws}
use Rattle.mg_calc.specs.declared.inputs.Inputs.{Inputs}
use Rattle.mg_calc.specs.declared.plan.Plan.{Plan}
use Rattle.mg_node.specs.Views.{IntakeView, EngineView}
use Rattle.mg_node.specs.Job.{LoggedJob}
use Rattle.mg_node.specs.Lawful.{of_input, StandForAll, LawfulEngine}
use Rattle.mg_node.specs.Extending.{lengthened, extended}
use Rattle.mg_ready.specs.Ready.{IsIn}
use Rattle.mg_sched.specs.Views.{WorkQueueView, NetView}
use Rattle.mg_sched.specs.StandsFor.{StandsFor, StandsForSome}
use Rattle.mg_sched.specs.Extends.{GoesOnWith, Extends, BringsNothing, ComesAt, MayGoOnAt}
use Rattle.mg_sched.specs.Code.Agendas.{AgendaView, IsAgendaOf}
use Rattle.mg_sched.specs.Code.LongerAt.{HaveEngines, MayEachAt, AreLongerAt}
use Rattle.mg_sched.specs.Code.Quiet.{IsKeptBy, RestsButKept, WakesAt, OfKept}
use Rattle.mg_sched.proofs.ExtendedNets.{handed_in, may_extend}
use Rattle.mg_sched.proofs.Finding.{found, places}
use Rattle.mg_sched.proofs.Sweeping.{agenda_long}
use Rattle.mg_sched.proofs.TouchedOutside.{rest_moves}

-- Pieces that bring nothing.

abbrev with_outputs : EngineView → List (Backlog Plain) → EngineView
with_outputs engine outputs = record engine { outputs = outputs }

same_backlog : (a b : Backlog Plain) → a.gone ≡ b.gone → a.packets ≡ b.packets → a.bound ≡ b.bound → a ≡ b
same_backlog a b gone packets bound = λ i. record { gone = gone i; packets = packets i; bound = bound i }

nothing_more : (outputs : List (Backlog Plain)) (s piece : StreamPrefix Plain) → StandForAll outputs (s ∷ []) → BringsNothing s piece → map (λ b. lengthened b piece) outputs ≡ outputs
nothing_more [] s piece stand nothing = refl
nothing_more (b ∷ []) s piece stand nothing =
    let bound = stand.0.bound in
    let low = nothing.bound in
    ap (λ (c : Backlog Plain). c ∷ []) (same_backlog (lengthened b piece) b refl (ap (λ (ps : List (Stamped Plain)). b.packets ++ ps) nothing.packets ∙ append-nil b.packets) (omega (arith, low, bound)))
nothing_more (b ∷ c ∷ outputs) s piece stand nothing = absurd stand.1

extended_by_little : {laws : Laws} (job : LoggedJob laws) (input : ℕ) (engine : EngineView) (piece : StreamPrefix Plain) → LawfulEngine job (of_input input) engine → input < length job.job.inputs.streams
    → BringsNothing (get_or job.job.inputs.streams input empty_prefix) piece → extended engine piece ≡ engine
unfolding LawfulEngine
extended_by_little {laws} job input engine piece h less nothing =
    ap (with_outputs engine)
    (nothing_more engine.outputs (get_or h.streams input empty_prefix) piece h.kept
    (subst (λ (s : StreamPrefix Plain). BringsNothing s piece) (sym (handed_in job h.streams input h.solves less)) nothing))

-- An input is one of some numbers, or none of them.

find : (inputs : List ℕ) (input : ℕ) → ((i : ℕ) × (slice_get inputs i ≡ Some input)) ⊎ ((i : ℕ) → ¬ (slice_get inputs i ≡ Some input))
find [] input = inr (λ i e. cc)
find (n ∷ inputs) input = elim (cases_eq n input) [
  | inl same ↦ inl (0, ap (λ (k : ℕ). Some k) same)
  | inr other ↦ elim (find inputs input) [
    | inl there ↦ inl (suc there.0, there.1)
    | inr none ↦ inr (nowhere other none)
  ]
]
  where
    nowhere : ¬ (n ≡ input) → ((i : ℕ) → ¬ (slice_get inputs i ≡ Some input)) → (i : ℕ) → ¬ (slice_get (n ∷ inputs) i ≡ Some input)
    nowhere other none zero e = other (same_Some n input e)
    nowhere other none (suc i) e = none i e

-- The engines of the inputs.

-- each input is among those of the net
input_within : {laws : Laws} (more : Inputs) (first later : LoggedJob laws) (inputs : List ℕ) (pieces : List (StreamPrefix Plain)) (i input : ℕ) → ComesAt inputs pieces first.job.inputs.streams more → GoesOnWith more first later → slice_get inputs i ≡ Some input
    → input < length first.job.inputs.streams
input_within {laws} more first later inputs pieces i input comes g at =
    let many = comes.as_many in
    let within = slice_get_within inputs i input at in
    let piece = found pieces i (omega (arith, many, within)) in
    let less = slice_get_within more.streams input piece.0 (comes.given i input piece.0 at piece.1) in
    let count = g.pieces in
    omega (arith, less, count)

net_long : {laws : Laws} (first : LoggedJob laws) (net : NetView) → StandsFor first net → length net.engines ≡ length net.plan.nodes + length first.job.inputs.streams
unfolding StandsFor
net_long {laws} first net h =
    let engines = h.engines in let streams = h.is_job.inputs.streams in
    let plan : length net.plan.inputs ≡ length first.job.plan.inputs = ap (λ (p : Plan). length p.inputs) h.plan in
    omega (arith, engines, streams, plan)

input_lawful : {laws : Laws} (first : LoggedJob laws) (net : NetView) (input : ℕ) (engine : EngineView) → StandsFor first net → slice_get net.engines (length net.plan.nodes + input) ≡ Some engine → LawfulEngine first (of_input input) engine
unfolding StandsFor
input_lawful {laws} first net input engine h at = h.inputs input engine at

engines_there : {laws : Laws} (inputs : List ℕ) (pieces : List (StreamPrefix Plain)) (net : NetView) → MayGoOnAt laws inputs pieces net → HaveEngines (length net.plan.nodes) inputs net.engines
engines_there {laws} inputs pieces net may i input at =
    let less = input_within may.more may.first may.later inputs pieces i input may.comes may.goes_on at in
    let long = net_long may.first net may.stands in
    omega (arith, less, long)

each_may : {laws : Laws} (inputs : List ℕ) (pieces : List (StreamPrefix Plain)) (net : NetView) → MayGoOnAt laws inputs pieces net → MayEachAt laws (length net.plan.nodes) inputs pieces net.engines
each_may {laws} inputs pieces net may i input engine piece input_at at piece_at =
    may_extend may.more may.first may.later engine input piece may.goes_on (input_lawful may.first net input engine may.stands at) (may.comes.given i input piece input_at piece_at)

-- Nets.

extends_at : {laws : Laws} (more : Inputs) (first later : LoggedJob laws) (inputs : List ℕ) (pieces : List (StreamPrefix Plain)) (net : NetView) (now : List EngineView) → ComesAt inputs pieces first.job.inputs.streams more → GoesOnWith more first later → StandsFor first net
    → AreLongerAt (length net.plan.nodes) inputs pieces (length inputs) net.engines now → (input : ℕ) (engine : EngineView) (piece : StreamPrefix Plain) → slice_get net.engines (length net.plan.nodes + input) ≡ Some engine → slice_get more.streams input ≡ Some piece
    → slice_get now (length net.plan.nodes + input) ≡ Some (extended engine piece)
extends_at {laws} more first later inputs pieces net now comes g stands are input engine piece at piece_at = elim (find inputs input) [
  | inl there ↦
      (let many = comes.as_many in
      let within = slice_get_within inputs there.0 input there.1 in
      let own = found pieces there.0 (omega (arith, many, within)) in
      let same : own.0 ≡ piece = same_Some own.0 piece (sym (comes.given there.0 input own.0 there.1 own.1) ∙ piece_at) in
      are.longer there.0 input engine own.0 within there.1 at own.1 ∙ ap (λ (s : StreamPrefix Plain). Some (extended engine s)) same)
  | inr none ↦
      (let less = slice_get_within more.streams input piece piece_at in
      let count = g.pieces in
      are.others (length net.plan.nodes + input) (λ i other is other_at same. none i (other_at ∙ ap (λ (n : ℕ). Some n) (omega (arith, same)))) ∙ at
      ∙ ap (λ (v : EngineView). Some v) (sym (extended_by_little first input engine piece (input_lawful first net input engine stands at) (omega (arith, less, count)) (comes.others input piece piece_at none))))
]

extends_so : {laws : Laws} (more : Inputs) (first later : LoggedJob laws) (inputs : List ℕ) (pieces : List (StreamPrefix Plain)) (net : NetView) (now : List EngineView) → ComesAt inputs pieces first.job.inputs.streams more → GoesOnWith more first later → StandsFor first net
    → AreLongerAt (length net.plan.nodes) inputs pieces (length inputs) net.engines now → Extends more net (record net { engines = now })
extends_so {laws} more first later inputs pieces net now comes g stands are = record {
  parts = refl;
  places = are.places;
  nodes = λ place less. are.others place (λ i input is at same. absurd (omega (arith, less, same)));
  inputs = extends_at more first later inputs pieces net now comes g stands are;
}

-- The net as it is kept.

pub some_there : {laws : Laws} (inputs : List ℕ) (pieces : List (StreamPrefix Plain)) (shown net : NetView) (engines : List EngineView) (from : ℕ) → shown ≡ net → from ≡ length shown.plan.nodes → engines ≡ shown.engines → MayGoOnAt laws inputs pieces net
    → HaveEngines from inputs engines
some_there {laws} inputs pieces shown net engines from is from_is are may =
    subst (λ (n : ℕ). HaveEngines n inputs engines) (sym from_is)
    (subst (λ (es : List EngineView). HaveEngines (length shown.plan.nodes) inputs es) (sym are) (engines_there inputs pieces shown (subst (MayGoOnAt laws inputs pieces) (sym is) may)))

pub some_may : {laws : Laws} (inputs : List ℕ) (pieces : List (StreamPrefix Plain)) (shown net : NetView) (engines : List EngineView) (from : ℕ) → shown ≡ net → from ≡ length shown.plan.nodes → engines ≡ shown.engines → MayGoOnAt laws inputs pieces net
    → MayEachAt laws from inputs pieces engines
some_may {laws} inputs pieces shown net engines from is from_is are may =
    subst (λ (n : ℕ). MayEachAt laws n inputs pieces engines) (sym from_is)
    (subst (λ (es : List EngineView). MayEachAt laws (length shown.plan.nodes) inputs pieces es) (sym are) (each_may inputs pieces shown (subst (MayGoOnAt laws inputs pieces) (sym is) may)))

pub some_shown : {laws : Laws} (more : Inputs) (first later : LoggedJob laws) (inputs : List ℕ) (pieces : List (StreamPrefix Plain)) (shown net : NetView) (engines longer now : List EngineView) (from : ℕ) → shown ≡ net → from ≡ length shown.plan.nodes → engines ≡ shown.engines
    → AreLongerAt from inputs pieces (length inputs) engines longer → now ≡ longer → ComesAt inputs pieces first.job.inputs.streams more → GoesOnWith more first later → StandsFor first net → Extends more net (record shown { engines = now })
some_shown {laws} more first later inputs pieces shown net engines longer now from is from_is are_engines are now_is comes g stands =
    let all : AreLongerAt (length shown.plan.nodes) inputs pieces (length inputs) shown.engines longer =
    subst (λ (es : List EngineView). AreLongerAt (length shown.plan.nodes) inputs pieces (length inputs) es longer) are_engines (subst (λ (n : ℕ). AreLongerAt n inputs pieces (length inputs) engines longer) from_is are) in
    subst (λ (v : NetView). Extends more v (record shown { engines = now })) is
    (subst (λ (es : List EngineView). Extends more shown (record shown { engines = es })) (sym now_is)
    (extends_so more first later inputs pieces shown longer comes g (subst (λ (v : NetView). StandsFor first v) (sym is) stands) all))

pub may_stands_at : {laws : Laws} (inputs : List ℕ) (pieces : List (StreamPrefix Plain)) (net : NetView) → MayGoOnAt laws inputs pieces net → StandsForSome laws net
may_stands_at {laws} inputs pieces net may = record { job = may.first; stands = may.stands }

-- What is touched.

pub wakes_at_kept : (plan : Plan) (from : ℕ) (inputs : List ℕ) (slot slot_now : Option AgendaView) → OfKept (WakesAt from inputs) slot slot_now → IsKeptBy plan slot → IsKeptBy plan slot_now
wakes_at_kept plan from inputs None slot_now w kept = subst (IsKeptBy plan) (sym w) tt
wakes_at_kept plan from inputs (Some a) None w kept = absurd w
wakes_at_kept plan from inputs (Some a) (Some b) w kept = agenda_long plan a b kept w.heads w.links w.starts

wakes_at_rests : (plan : Plan) (engines engines_now : List EngineView) (intakes : List IntakeView) (work_queues : List WorkQueueView) (from : ℕ) (inputs : List ℕ) (pieces : List (StreamPrefix Plain)) (slot slot_now : Option AgendaView) → OfKept (WakesAt from inputs) slot slot_now
    → AreLongerAt from inputs pieces (length inputs) engines engines_now → RestsButKept plan engines intakes work_queues slot → RestsButKept plan engines_now intakes work_queues slot_now
wakes_at_rests plan engines engines_now intakes work_queues from inputs pieces None slot_now w longer h = absurd h
wakes_at_rests plan engines engines_now intakes work_queues from inputs pieces (Some a) None w longer h = absurd w
wakes_at_rests plan engines engines_now intakes work_queues from inputs pieces (Some a) (Some b) w longer h =
    rest_moves plan engines engines_now intakes intakes work_queues a.touched b.touched w.grows
    (λ place out. longer.others place (λ i input less at same. out (subst (λ (n : ℕ). IsIn b.touched n) (sym same) (w.woken i input at)))) (λ place out. refl) h

-- there is a place for each engine
pub some_fit : {laws : Laws} (shown net : NetView) (slot : Option AgendaView) (from : ℕ) (inputs : List ℕ) (engines : List EngineView) → shown ≡ net → StandsForSome laws net → IsKeptBy shown.plan slot → engines ≡ shown.engines → HaveEngines from inputs engines
    → IfSome slot (λ a. (i input : ℕ) → slice_get inputs i ≡ Some input → from + input < length a.heads)
some_fit {laws} shown net None from inputs engines is some kept are there = tt
some_fit {laws} shown net (Some a) from inputs engines is some kept are there = λ i input at.
    (let long = (places net some).0 in
    let heads = (subst (λ (v : NetView). IsAgendaOf v.plan a) is kept).places in
    let same : length engines ≡ length net.engines = ap (λ (es : List EngineView). length es) are ∙ ap (λ (v : NetView). length v.engines) is in
    let within = there i input at in
    omega (arith, long, heads, same, within))

pub some_rest : (plan : Plan) (engines now items were : List EngineView) (intakes : List IntakeView) (work_queues : List WorkQueueView) (from : ℕ) (inputs : List ℕ) (pieces : List (StreamPrefix Plain)) (slot slot_now : Option AgendaView) → engines ≡ were → items ≡ now
    → OfKept (WakesAt from inputs) slot slot_now → AreLongerAt from inputs pieces (length inputs) engines now → RestsButKept plan were intakes work_queues slot → RestsButKept plan items intakes work_queues slot_now
some_rest plan engines now items were intakes work_queues from inputs pieces slot slot_now are same wakes longer h =
    subst (λ (es : List EngineView). RestsButKept plan es intakes work_queues slot_now) (sym same)
    (wakes_at_rests plan engines now intakes work_queues from inputs pieces slot slot_now wakes longer (subst (λ (es : List EngineView). RestsButKept plan es intakes work_queues slot) (sym are) h))

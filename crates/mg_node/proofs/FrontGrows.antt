-- The standing of an engine only grows when what is ready at the front of its window is laid.
use Rattle.std.proofs.Common.{◌≡◌, ℕ, ℤ, ◌+◌, ◌≤◌, ◌||◌, Bool, true, false, List, [], ◌∷◌, length, length-append, map, Option, Some, None, inl, inr, Result, Ok, Err, IfOk, OnErr, refl, ap, sym, subst, ◌∙◌, arith, if◌then◌else◌}
use Rattle.std.specs.List.{AllZip, AllByRecursion}
use Rattle.std.proofs.lemmas.List.{length-map}
use Rattle.mg_time.specs.Time.{done}
use Rattle.mg_value.specs.Payload.{Plain}
use Rattle.mg_settled.specs.Prefix.{StreamPrefix, IsPrefix, closed}
use Rattle.mg_settled.specs.Extension.{IsExtendedBy, AreExtendedBy}
use Rattle.mg_stream.specs.Queue.{Waiting, StandsFor}
use Rattle.mg_stream.specs.Pool.{Backlog, queue_of}
use Rattle.mg_calc.specs.Rules.{Laws}
use Rattle.mg_calc.specs.declared.cause.Cause.{Cause}
use Rattle.mg_calc.specs.declared.emission.Laid.{Laid}
use Rattle.mg_calc.specs.declared.node_fault.Phase.{Phase}
use Rattle.mg_calc.specs.declared.node_fault.Phase.TheVariants.{Open, Call, Process, Close}
use Rattle.mg_calc.specs.declared.plan_node.PlanNode.{PlanNode}
use Rattle.mg_calc.specs.Laying.{after, laid_behind}
use Rattle.mg_route.specs.HolderView.{HolderView}
use Rattle.mg_calc.proofs.LaidBehind.{raise_extends, emission_extends}
use Rattle.mg_node.specs.Views.{PerformedView, OutcomeView, EntryView, EngineView}
use Rattle.mg_node.specs.Lawful.{StandForAll}
use Rattle.mg_node.specs.Windows.{has_ended, ready_of}
use Rattle.mg_node.specs.Fresh.{context_of, fresh_engine}
use Rattle.mg_node.specs.Begun.{opened_entry, own_contexts, HasOpened, IsUnbegun}
use Rattle.mg_node.specs.Commits.{raised_before, closed_after, laid_by, outputs_by, Front, answer_laid, has_stopped, with_ready, front_laid, front_of, fault_at, HasFront, window_with, Commits, SomeJobHasEngine}
use Rattle.mg_node.specs.Code.FrontLaying.{LaysFront}
use Rattle.mg_node.specs.IntakeStanding.{HasGrown}
use Rattle.mg_node.specs.Standing.{EngineGrows}
use Rattle.mg_node.proofs.Delivering.{counted}
use Rattle.mg_node.proofs.FrontSteps.{front_stays}
use Rattle.mg_node.proofs.EngineFronts.{is_some_map, committed_whole}
use Rattle.mg_node.proofs.EngineOpening.{opened_whole, with_begun}
use Rattle.mg_node.proofs.Growing.{by_number, engine_same, engine_further, window_grows, begun_grows}

-- a prefix has as many packets as another one or more, and a bound that is no lower
record IsLonger (s t : StreamPrefix Plain) : Type 0 where
  count : length s.packets ≤ length t.packets
  bound : s.bound ≤ t.bound

longer_further : (s t u : StreamPrefix Plain) → IsLonger s t → IsExtendedBy t u → IsLonger s u
longer_further s t u l e =
    (let a = l.count in let b = l.bound in let c = e.bound in let d = ap length e.packets in record { count = omega (arith, a, d, length-append t.packets e.further); bound = omega (arith, b, c) })

abbrev AreLonger : List (StreamPrefix Plain) → List (StreamPrefix Plain) → Type 0
AreLonger ss ts = AllZip IsLonger ss ts

as_long : (ss : List (StreamPrefix Plain)) → AreLonger ss ss
as_long [] = tt
as_long (s ∷ ss) = (record { count = omega arith; bound = omega arith }, as_long ss)

all_further : (ss ts us : List (StreamPrefix Plain)) → AreLonger ss ts → AreExtendedBy ts us → AreLonger ss us
all_further [] [] [] l e = tt
all_further [] [] (u ∷ us) l e = absurd e
all_further [] (t ∷ ts) us l e = absurd l
all_further (s ∷ ss) [] us l e = absurd l
all_further (s ∷ ss) (t ∷ ts) [] l e = absurd e
all_further (s ∷ ss) (t ∷ ts) (u ∷ us) l e = (longer_further s t u l.0 e.0, all_further ss ts us l.1 e.1)

-- closing raises to the end of all times
all_closed : (ss ts : List (StreamPrefix Plain)) → AllByRecursion IsPrefix ss → AreLonger ss ts → AreLonger ss (map closed ts)
all_closed [] [] k l = tt
all_closed [] (t ∷ ts) k l = absurd l
all_closed (s ∷ ss) [] k l = absurd l
all_closed (s ∷ ss) (t ∷ ts) k l = (record { count = l.0.count; bound = k.0.within }, all_closed ss ts k.1 l.1)

after_longer : (phase : Phase) (ss ts : List (StreamPrefix Plain)) → AllByRecursion IsPrefix ss → AreLonger ss ts → AreLonger ss (closed_after phase ts)
after_longer Open ss ts k l = l
after_longer (Call n) ss ts k l = l
after_longer (Process at) ss ts k l = l
after_longer Close ss ts k l = all_closed ss ts k l

before_longer : (offset : Option ℤ) (phase : Phase) (ss ts : List (StreamPrefix Plain)) → AreLonger ss ts → AreLonger ss (raised_before offset phase ts)
before_longer offset Open ss ts l = l
before_longer offset (Call n) ss ts l = l
before_longer offset (Process at) ss ts l = all_further ss ts (raised_before offset (Process at) ts) l (raise_extends offset at ts)
before_longer offset Close ss ts l = all_further ss ts (raised_before offset Close ts) l (raise_extends offset done ts)

emission_longer : (offset : Option ℤ) (phase : Phase) (ss ts : List (StreamPrefix Plain)) (emission : List Laid) (longer : Result (List (StreamPrefix Plain)) Cause) → AllByRecursion IsPrefix ss → AreLonger ss ts → laid_behind offset phase ts emission ≡ longer
    → AreLonger ss (outputs_by ts (after longer (λ us. Ok (closed_after phase us))))
emission_longer offset phase ss ts emission (Err cause) k l is = l
emission_longer offset phase ss ts emission (Ok us) k l is = after_longer phase ss us k (all_further ss ts us l (emission_extends offset phase ts us emission is))

answer_longer : (offset : Option ℤ) (phase : Phase) (ss ts : List (StreamPrefix Plain)) (answer : Result (List Laid) Cause) → AllByRecursion IsPrefix ss → AreLonger ss ts → AreLonger ss (outputs_by ts (laid_by offset phase ts answer))
answer_longer offset phase ss ts (Err cause) k l = l
answer_longer offset phase ss ts (Ok emission) k l = emission_longer offset phase ss ts emission (laid_behind offset phase ts emission) k l refl

ready_longer : (offset : Option ℤ) (entry : EntryView) (entries : List EntryView) (ss : List (StreamPrefix Plain)) (front : Front) (ready : Option PerformedView) → AllByRecursion IsPrefix ss → AreLonger ss front.outputs
    → ((f : Front) → AreLonger ss f.outputs → AreLonger ss (front_laid offset entries f).outputs)
    → AreLonger ss (with_ready ready front (λ p. front_laid offset entries (answer_laid offset entry.phase p.work.context p.answer entries front))).outputs
ready_longer offset entry entries ss front None k l again = l
ready_longer offset entry entries ss front (Some p) k l again =
    again (answer_laid offset entry.phase p.work.context p.answer entries front)
    (answer_longer offset entry.phase ss (raised_before offset entry.phase front.outputs) p.answer k (before_longer offset entry.phase ss front.outputs l))

stop_longer : (ss : List (StreamPrefix Plain)) (stopped : Bool) (front go : Front) → AreLonger ss front.outputs → AreLonger ss go.outputs → AreLonger ss (if stopped then front else go).outputs
stop_longer ss true front go l m = l
stop_longer ss false front go l m = m

front_longer : (offset : Option ℤ) (entries : List EntryView) (ss : List (StreamPrefix Plain)) (front : Front) → AllByRecursion IsPrefix ss → AreLonger ss front.outputs → AreLonger ss (front_laid offset entries front).outputs
front_longer offset [] ss front k l = l
front_longer offset (entry ∷ entries) ss front k l =
    stop_longer ss (has_stopped front) front (with_ready (ready_of entry) front (λ p. front_laid offset entries (answer_laid offset entry.phase p.work.context p.answer entries front))) l
    (ready_longer offset entry entries ss front (ready_of entry) k l (λ f m. front_longer offset entries ss f k m))

-- From prefixes to the outputs that stand for them.

are_prefixes : (outputs : List (Backlog Plain)) (whole : List (StreamPrefix Plain)) → StandForAll outputs whole → AllByRecursion IsPrefix whole
are_prefixes [] [] h = tt
are_prefixes [] (s ∷ whole) h = absurd h
are_prefixes (b ∷ outputs) [] h = absurd h
are_prefixes (b ∷ outputs) (s ∷ whole) h = (h.0.prefix, are_prefixes outputs whole h.1)

pub one_stands : (q r : Waiting Plain) (s t : StreamPrefix Plain) → StandsFor q s → StandsFor r t → length s.packets ≤ length t.packets → s.bound ≤ t.bound → HasGrown q r
one_stands q r s t h g long high =
    (let a = counted q s h in let b = counted r t g in let c = h.bound in let d = g.bound in record { count = omega (arith, a, b, long); bound = omega (arith, c, d, high) })

all_stand : (before now : List (Backlog Plain)) (ss ts : List (StreamPrefix Plain)) → StandForAll before ss → StandForAll now ts → AreLonger ss ts → AllZip (λ b n. HasGrown (queue_of 0 b) (queue_of 0 n)) before now
all_stand [] [] ss ts h g l = tt
all_stand [] (n ∷ now) [] [] h g l = absurd g
all_stand [] (n ∷ now) [] (t ∷ ts) h g l = absurd l
all_stand [] (n ∷ now) (s ∷ ss) ts h g l = absurd h
all_stand (b ∷ before) now [] ts h g l = absurd h
all_stand (b ∷ before) now (s ∷ ss) [] h g l = absurd l
all_stand (b ∷ before) [] (s ∷ ss) (t ∷ ts) h g l = absurd g
all_stand (b ∷ before) (n ∷ now) (s ∷ ss) (t ∷ ts) h g l = (one_stands (queue_of 0 b) (queue_of 0 n) s t h.0 g.0 l.0.count l.0.bound, all_stand before now ss ts h.1 g.1 l.1)

-- Engines.

front_grows : (before now : EngineView) (n : ℕ) (window : List EntryView) (whole : List (StreamPrefix Plain)) → now.laid ≡ before.laid + n → StandForAll before.outputs whole
    → HasFront before now (front_laid before.offset window (front_of before window whole)) → EngineGrows before now
front_grows before now n window whole laid stand h =
    let front = front_of before window whole in
    let last = front_laid before.offset window front in
    record {
      laid = omega (arith, laid);
      claimed = (let same = ap (λ (v : EngineView). v.claimed) h.others in omega (arith, same));
      ended = (λ ended.
          (let stopped : has_stopped front ≡ true = ap (λ (b : Bool). before.closed || b) (is_some_map _ before.fault) ∙ ended in
          let still : has_stopped last ≡ true = ap has_stopped (front_stays before.offset window front stopped) ∙ stopped in
          ap has_ended h.others ∙ ap (λ (b : Bool). last.closed || b) (is_some_map (fault_at before.node) last.fault) ∙ still));
      outputs = by_number before.outputs now.outputs
          (all_stand before.outputs now.outputs whole last.outputs stand h.outputs (front_longer before.offset window whole front (are_prefixes before.outputs whole stand) (as_long whole)));
    }

pub commit_grows : {laws : Laws} {E : Type 0} (outcome : OutcomeView) (result : Result ℕ E) (before now : EngineView) → SomeJobHasEngine laws before → IfOk result (λ n. Commits outcome n before now) → OnErr result (now ≡ before) → EngineGrows before now
commit_grows {laws} outcome (Ok n) before now some c same =
    (let w = committed_whole before (record before { window = window_with before outcome }) outcome refl some in
    front_grows before now n (window_with before outcome) w.whole c.counted w.stand (c.front w.whole w.stand))
commit_grows {laws} outcome (Err e) before now some c same = engine_same before now same

-- an engine that is begun: it is opened, and what that emits is laid
pub opening_grows : {laws : Laws} (node : PlanNode) (number : ℕ) (told : HolderView) (sides : List (Option Plain)) (before mid : EngineView) → IsUnbegun laws node number told sides before → HasOpened laws node number told sides mid → EngineGrows before mid
opening_grows {laws} node number told sides before mid (inl is) m =
    let fresh = fresh_engine node number told in
    subst (λ (v : EngineView). EngineGrows v mid) (sym is)
    (subst (λ (v : EngineView). EngineGrows fresh v) (sym m.is) (window_grows fresh (opened_entry number (context_of node m.now) m.answer ∷ []) (own_contexts node)))
opening_grows {laws} node number told sides before mid (inr h) m =
    let opened : EngineView = record (fresh_engine node number told) { window = opened_entry number (context_of node h.now) h.answer ∷ []; idle = own_contexts node } in
    subst (λ (v : EngineView). EngineGrows v mid) (sym h.is)
    (subst (λ (v : EngineView). EngineGrows opened v) (sym m.is) (window_grows opened (opened_entry number (context_of node m.now) m.answer ∷ []) (own_contexts node)))

pub begin_grows : {laws : Laws} (node : PlanNode) (number : ℕ) (told : HolderView) (sides : List (Option Plain)) (before mid laid now : EngineView) (n : ℕ) → IsUnbegun laws node number told sides before → HasOpened laws node number told sides mid → LaysFront n mid laid → now ≡ with_begun laid
    → EngineGrows before now
begin_grows {laws} node number told sides before mid laid now n un m lays is =
    let w = opened_whole node number told sides mid m in
    let grown = front_grows mid laid n mid.window w.whole lays.counted w.stand (lays.front w.whole w.stand) in
    engine_further before mid now (opening_grows node number told sides before mid un m)
    (subst (λ (v : EngineView). EngineGrows mid v) (sym is) (engine_further mid laid (with_begun laid) grown (begun_grows laid)))

-- In words of a commit alone.

pub commits_grow : {laws : Laws} (outcome : OutcomeView) (laid : ℕ) (before now : EngineView) → SomeJobHasEngine laws before → Commits outcome laid before now → EngineGrows before now
commits_grow {laws} outcome laid before now some c = commit_grows {E = Unit {0}} outcome (Ok laid) before now some c tt

pub commits_outputs : (outcome : OutcomeView) (laid : ℕ) (before now : EngineView) → Commits outcome laid before now → length now.outputs ≡ length before.outputs
commits_outputs outcome laid before now c =
    sym (length-map now.outputs (λ (b : Backlog Plain). b.gone)) ∙ ap length c.given_up ∙ length-map before.outputs (λ (b : Backlog Plain). b.gone)

-- How an engine is begun: its calculator is opened, and what that emits is laid.
use Rattle.std.proofs.Common.{◌≡◌, ℕ, zero, suc, ℤ, ◌+◌, ◌-◌, ◌<◌, ◌^◌, List, [], ◌∷◌, ◌++◌, length, length-append, map, drop, replicate, Option, None, option_map, Result, Ok, Err, inl, inr, refl, ap, sym, subst, ◌∙◌, arith, true}
use Rattle.std.proofs.lemmas.List.{same_from_push}
use Rattle.mg_value.specs.Payload.{Plain}
use Rattle.mg_settled.specs.Prefix.{StreamPrefix, empty_prefix}
use Rattle.mg_settled.proofs.Lemmas.{empty_is_prefix}
use Rattle.mg_stream.specs.Queue.{StandsFor}
use Rattle.mg_stream.specs.Pool.{Backlog, queue_of, empty_backlog}
use Rattle.mg_calc.specs.Rules.{Laws}
use Rattle.mg_calc.specs.declared.cause.Cause.{Cause}
use Rattle.mg_calc.specs.declared.emission.Laid.{Laid}
use Rattle.mg_calc.specs.declared.node_fault.Phase.TheVariants.{Open}
use Rattle.mg_calc.specs.declared.plan_node.PlanNode.{PlanNode}
use Rattle.mg_calc.specs.Answer.{Answer}
use Rattle.mg_calc.specs.Laying.{after, laid_behind}
use Rattle.mg_calc.specs.Outcome.{after_laying, after_call}
use Rattle.mg_route.specs.HolderView.{HolderView, held_rules}
use Rattle.mg_node.specs.Views.{ContextView, EntryView, EngineView}
use Rattle.mg_node.specs.Lawful.{StandForAll, HasAnswered}
use Rattle.mg_node.specs.Commits.{laid_by, outputs_by, failure_by, fault_at}
use Rattle.mg_node.specs.Outputs.{kept_whole}
use Rattle.mg_node.specs.Fresh.{own_told, context_of, fresh_engine}
use Rattle.mg_node.specs.Begun.{IsOpened, opened_entry, own_contexts, HasOpened, IsUnbegun, opened_node, HasBegun, SomeUnbegun, IsNew}
use Rattle.mg_node.specs.Code.FrontLaying.{counted_in, HasWhole, LaysFront}

-- The calculator is opened.

pub opened_so : {laws : Laws} (e view : EngineView) (node : PlanNode) (number : ℕ) (told : HolderView) (sides : List (Option Plain)) (answer : Result (List Laid) Cause) (context context_now : ContextView) (idle : List ContextView) → e ≡ fresh_engine node number told
    → e.idle ≡ idle ++ context ∷ [] → context_now.set ≡ context.set → IsOpened laws context.told context_now.told sides answer → view ≡ record e { window = e.window ++ opened_entry e.node context_now answer ∷ []; idle = idle } → HasOpened laws node number told sides view
opened_so {laws} e view node number told sides answer context context_now idle is idle_is set opened view_is =
    let cut = same_from_push idle (replicate (node.in_flight - 1) (context_of node (own_told node))) context (context_of node told) (sym idle_is ∙ ap (λ (v : EngineView). v.idle) is) in
    let set_is : context_now.set ≡ (context_of node told).set = set ∙ ap (λ (b : ContextView). b.set) cut.1 in
    record {
      now = context_now.told;
      answer = answer;
      opened = subst (λ (b : ContextView). IsOpened laws b.told context_now.told sides answer) cut.1 opened;
      is = view_is ∙ (λ i. record (is i) { window = (is i).window ++ opened_entry (is i).node (record { told = context_now.told; set = set_is i }) answer ∷ []; idle = cut.0 i });
    }

-- One whose window is empty wasn't opened, and has a calculator.
pub fresh_empty : {laws : Laws} (node : PlanNode) (number : ℕ) (told : HolderView) (sides : List (Option Plain)) (view : EngineView) → IsUnbegun laws node number told sides view → view.window ≡ [] → view ≡ fresh_engine node number told
fresh_empty {laws} node number told sides view (inl fresh) none = fresh
fresh_empty {laws} node number told sides view (inr opened) none = absurd (let e = sym none ∙ ap (λ (v : EngineView). v.window) opened.is in cc)

pub opened_some : {laws : Laws} (node : PlanNode) (number : ℕ) (told : HolderView) (sides : List (Option Plain)) (view : EngineView) → IsUnbegun laws node number told sides view → 0 < length view.window → HasOpened laws node number told sides view
opened_some {laws} node number told sides view (inl fresh) some = absurd (let none = ap (λ (v : EngineView). length v.window) fresh in omega (arith, some, none))
opened_some {laws} node number told sides view (inr opened) some = opened

pub context_there : {laws : Laws} (sides : List (Option Plain)) (view : EngineView) → SomeUnbegun laws sides view → view.window ≡ [] → 0 < length view.idle
context_there {laws} sides view h none =
    let fresh = fresh_empty h.node h.number h.told sides view h.unbegun none in
    let same : length view.idle ≡ length (replicate (h.node.in_flight - 1) (context_of h.node (own_told h.node)) ++ context_of h.node h.told ∷ []) = ap (λ (v : EngineView). length v.idle) fresh in
    omega (arith, same, length-append (replicate (h.node.in_flight - 1) (context_of h.node (own_told h.node))) (context_of h.node h.told ∷ []))

-- What it emitted may be laid.

fresh_stand : (k : ℕ) → StandForAll (replicate k empty_backlog) (replicate k empty_prefix)
fresh_stand zero = tt
fresh_stand (suc k) = (record { prefix = empty_is_prefix; gone = omega arith; waiting = refl; bound = refl }, fresh_stand k)

pub opened_whole : {laws : Laws} (node : PlanNode) (number : ℕ) (told : HolderView) (sides : List (Option Plain)) (view : EngineView) → HasOpened laws node number told sides view → HasWhole view
opened_whole {laws} node number told sides view h = subst HasWhole (sym h.is) (record { whole = replicate (length node.outputs) empty_prefix; stand = fresh_stand (length node.outputs); own = tt })

pub opened_few : {laws : Laws} (node : PlanNode) (number : ℕ) (told : HolderView) (sides : List (Option Plain)) (view : EngineView) → HasOpened laws node number told sides view → view.laid + counted_in view.window < 2 ^ 64
opened_few {laws} node number told sides view h = (let none : view.laid + counted_in view.window ≡ 0 = ap (λ (v : EngineView). v.laid + counted_in v.window) h.is in omega (arith, none))

-- It is laid.

by_laid : (outputs : List (StreamPrefix Plain)) (now : List Plain) (r : Result (List (StreamPrefix Plain)) Cause)
    → (let o = after_laying Open (record { state = now; outputs = outputs; taken = 0; fault = None }) r in
    (now ≡ o.state) × (outputs_by outputs (after r (λ longer. Ok longer)) ≡ o.outputs) × (failure_by Open (after r (λ longer. Ok longer)) ≡ o.fault))
by_laid outputs now (Ok longer) = (refl, refl, refl)
by_laid outputs now (Err cause) = (refl, refl, refl)

abbrev WasOpened : Option ℤ → List (StreamPrefix Plain) → Result (List Laid) Cause → List Plain → Answer → Type 0
WasOpened offset outputs answer now given = (
    let o = after_call offset Open (record { state = []; outputs = outputs; taken = 0; fault = None }) given in
    (now ≡ o.state) × (outputs_by outputs (laid_by offset Open outputs answer) ≡ o.outputs) × (failure_by Open (laid_by offset Open outputs answer) ≡ o.fault))

opened_by : (offset : Option ℤ) (outputs : List (StreamPrefix Plain)) (answer : Result (List Laid) Cause) (now : List Plain) (given : Answer) → HasAnswered answer [] now given → WasOpened offset outputs answer now given
opened_by offset outputs (Ok emission) now given h = subst (WasOpened offset outputs (Ok emission) now) (sym h) (by_laid outputs now (laid_behind offset Open outputs emission))
opened_by offset outputs (Err cause) now given h = subst (WasOpened offset outputs (Err cause) now) (sym h.0) (h.1, refl, refl)

kept_one : (b : Backlog Plain) (s : StreamPrefix Plain) → StandsFor (queue_of 0 b) s → b.gone ≡ 0 → b ≡ kept_whole s
kept_one b s h none = λ i. record { gone = none i; packets = (h.waiting ∙ ap (λ (n : ℕ). drop n s.packets) none) i; bound = h.bound i }

kept_all : (bs : List (Backlog Plain)) (ss : List (StreamPrefix Plain)) (k : ℕ) → StandForAll bs ss → map (λ b. b.gone) bs ≡ map (λ b. b.gone) (replicate k (empty_backlog {X = Plain})) → bs ≡ map kept_whole ss
kept_all [] [] k z none = refl
kept_all [] (s ∷ ss) k z none = absurd z
kept_all (b ∷ bs) [] k z none = absurd z
kept_all (b ∷ bs) (s ∷ ss) zero z none = absurd cc
kept_all (b ∷ bs) (s ∷ ss) (suc k) z none =
    let first : b.gone ≡ 0 = cc in
    let others : map (λ b. b.gone) bs ≡ map (λ b. b.gone) (replicate k (empty_backlog {X = Plain})) = cc in
    λ i. kept_one b s z.0 first i ∷ kept_all bs ss k z.1 others i

pub begun_so : {laws : Laws} (node : PlanNode) (number : ℕ) (told : HolderView) (sides : List (Option Plain)) (before mid now : EngineView) (n : ℕ) → IsNew node told → HasOpened laws node number told sides before → LaysFront n before mid → now ≡ record mid { begun = true }
    → HasBegun laws node number told sides now
begun_so {laws} node number told sides before mid now n new h lays is =
    let k = length node.outputs in
    let whole = replicate k (empty_prefix {X = Plain}) in
    let laid : LaysFront n (record (fresh_engine node number told) { window = opened_entry number (context_of node h.now) h.answer ∷ []; idle = own_contexts node }) mid = subst (λ (v : EngineView). LaysFront n v mid) h.is lays in
    let front = laid.front whole (fresh_stand k) in
    let o = opened_by node.shape.offset whole h.answer h.now.state ((held_rules laws told).opening sides) h.opened.answered in
    let outputs : mid.outputs ≡ map kept_whole (opened_node (held_rules laws told) node sides).outputs = kept_all mid.outputs _ k front.outputs front.given_up ∙ ap (map kept_whole) o.1 in
    record {
      now = h.now;
      state = o.0;
      log = h.opened.log;
      law = h.opened.law;
      shape = h.opened.shape;
      same_handed = h.opened.same_handed;
      is = is
          ∙ (λ i. record (front.others i) { begun = true })
          ∙ (λ i. record (fresh_engine node number told) { outputs = outputs i; idle = own_contexts node ++ context_of node h.now ∷ []; begun = true; fault = option_map (fault_at number) (o.2 i) });
    }

-- What the code leaves.

abbrev pub with_window_idle : EngineView → List EntryView → List ContextView → EngineView
with_window_idle engine window idle = record engine { window = window; idle = idle }

abbrev pub with_begun : EngineView → EngineView
with_begun engine = record engine { begun = true }

pub window_opened : (engine : EngineView) (items now : List EntryView) (node : ℕ) (context : ContextView) (answer : Result (List Laid) Cause) (entry : EntryView) → now ≡ items ++ entry ∷ [] → entry ≡ opened_entry node context answer → items ≡ engine.window → node ≡ engine.node
    → now ≡ engine.window ++ opened_entry engine.node context answer ∷ []
window_opened engine items now node context answer entry pushed is window node_is =
    pushed ∙ ap (λ (x : EntryView). items ++ x ∷ []) (is ∙ ap (λ (n : ℕ). opened_entry n context answer) node_is) ∙ ap (λ (es : List EntryView). es ++ opened_entry engine.node context answer ∷ []) window

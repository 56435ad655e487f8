-- The outcome of a node after a number of its works. By the answer of each work the node goes on to the next outcome. It stays as it is
-- once it has failed, and it ends with its last work.
use Rattle.std.proofs.Common.{◌≡◌, ℕ, zero, suc, ℤ, ◌+◌, ◌-◌, ◌≤◌, ◌⊎◌, inl, inr, false, List, [], ◌∷◌, ◌++◌, map, take, drop, take-append-drop, length, Option, Some, None, Result, Ok, Err, slice_get, refl, ap, ap₂, sym, subst, ◌∙◌, arith}
use Rattle.std.specs.Prelude.{⊤}
use Rattle.std.specs.List.{fold, filter_map, range_with_len}
use Rattle.std.proofs.lemmas.List.{take_more, take_all, drop_all}
use Rattle.std.proofs.lemmas.List.Sums.{fold-append}
use Rattle.std.proofs.lemmas.Option.{slice_get_within, get_or_from_slice_get}
use Rattle.mg_time.specs.Time.{done}
use Rattle.mg_value.specs.Payload.{Plain}
use Rattle.mg_value.specs.Packet.{Stamped}
use Rattle.mg_settled.specs.Prefix.{StreamPrefix, closed, empty_prefix, first_time}
use Rattle.mg_settled.specs.Settled.{TimedSet, reach}
use Rattle.mg_settled.specs.Loopback.{packet_of, replies, loopback}
use Rattle.mg_settled.proofs.Extending.{all_appended_behind, same_prefix}
use Rattle.mg_calc.specs.declared.cause.Cause.{Cause}
use Rattle.mg_calc.specs.declared.emission.Laid.{Laid}
use Rattle.mg_calc.specs.declared.law.Law.{Law}
use Rattle.mg_calc.specs.declared.law.Law.TheVariants.{Count, SideOnce, Constants, Loopback, Scripted}
use Rattle.mg_calc.specs.declared.node_fault.Phase.{Phase}
use Rattle.mg_calc.specs.declared.node_fault.Phase.TheVariants.{Open, Call as SourceCall, Process, Close}
use Rattle.mg_calc.specs.declared.plan_node.PlanNode.{PlanNode}
use Rattle.mg_calc.specs.Answer.{Answer}
use Rattle.mg_calc.specs.Law.{call, finish, rules_of}
use Rattle.mg_calc.specs.Laying.{after, laid_behind, all_raised}
use Rattle.mg_calc.specs.Outcome.{Failure, Outcome, after_laying, after_call, opened, unless_failed, shown, shown_all, after_close, closed_with, finished, with_reach, ended, called, with_last_call}
use Rattle.mg_calc.specs.Shape.{IsOuter, IsSource, IsShapeOf, calls_of, offset_of}
use Rattle.mg_calc.specs.Equations.{Job, inputs_of, sides_of, outcome_by, outcome_of, rules_at}
use Rattle.mg_calc.proofs.Outcomes.{goes_on, stays, failed_stays}
use Rattle.mg_node.specs.Job.{LoggedJob, Solves, sets_of, main_of, loop_of, count_by, count_of_all, IsOverBy, answered, stage_by, stage, IsLastWork, IsTask}
use Rattle.mg_node.specs.Lawful.{HasAnswered, answer_in, is_close}
use Rattle.mg_node.specs.Commits.{raised_before, closed_after, laid_by, outputs_by, failure_by}
use Rattle.mg_node.proofs.HeldRules.{of_node}
use Rattle.mg_calc.specs.Rules.{Rules, Laws}

-- By the kind of law: it is shown sets, or it is called, or it is a loopback.

-- a law that is called by number, perhaps never
abbrev pub IsCalled : Law → Type 0
IsCalled (Count count start apart) = ⊤
IsCalled (SideOnce at) = ⊤
IsCalled Constants = ⊤
IsCalled law = ⊥

pub kind_of : (law : Law) → IsOuter law ⊎ (IsCalled law ⊎ (law ≡ Loopback))
kind_of (Count count start apart) = inr (inl tt)
kind_of (SideOnce at) = inr (inl tt)
kind_of Constants = inr (inl tt)
kind_of Loopback = inr (inr refl)
kind_of law = inl tt

source_called : (law : Law) → IsSource law → IsCalled law
source_called (Count count start apart) is = tt
source_called (SideOnce at) is = tt
source_called law is = absurd is

pub called_offset : (law : Law) → IsCalled law → offset_of law ≡ None
called_offset (Count count start apart) is = refl
called_offset (SideOnce at) is = refl
called_offset Constants is = refl
called_offset law is = absurd is

pub outer_stage : (law : Law) (job : Job) (streams : List (StreamPrefix Plain)) (node : PlanNode) (n : ℕ) → IsOuter law
    → stage_by law job streams node n ≡ shown_all (rules_at job node) node.shape.offset (length node.outputs) (sides_of job node) (take n (sets_of streams node))
outer_stage (Count count start apart) job streams node n is = absurd is
outer_stage (SideOnce at) job streams node n is = absurd is
outer_stage Constants job streams node n is = absurd is
outer_stage Loopback job streams node n is = absurd is
outer_stage law job streams node n is = refl

pub outer_outcome : (law : Law) (job : Job) (streams : List (StreamPrefix Plain)) (node : PlanNode) → IsOuter law
    → outcome_by law job streams node ≡ ended (rules_at job node) node.shape.offset (reach node.policy (inputs_of streams node)) (shown_all (rules_at job node) node.shape.offset (length node.outputs) (sides_of job node) (sets_of streams node))
outer_outcome (Count count start apart) job streams node is = absurd is
outer_outcome (SideOnce at) job streams node is = absurd is
outer_outcome Constants job streams node is = absurd is
outer_outcome Loopback job streams node is = absurd is
outer_outcome law job streams node is = refl

pub outer_count : (law : Law) (streams : List (StreamPrefix Plain)) (node : PlanNode) → IsOuter law → count_by law streams node ≡ length (sets_of streams node)
outer_count (Count count start apart) streams node is = absurd is
outer_count (SideOnce at) streams node is = absurd is
outer_count Constants streams node is = absurd is
outer_count Loopback streams node is = absurd is
outer_count law streams node is = refl

pub outer_over : (law : Law) (streams : List (StreamPrefix Plain)) (node : PlanNode) → IsOuter law → IsOverBy law streams node → reach node.policy (inputs_of streams node) ≡ done
outer_over (Count count start apart) streams node is over = absurd is
outer_over (SideOnce at) streams node is over = absurd is
outer_over Constants streams node is over = absurd is
outer_over Loopback streams node is over = absurd is
outer_over law streams node is over = over

-- a source's calls, the first ones, a number of them
abbrev pub calls_made : Job → PlanNode → ℕ → Outcome
calls_made job node n = fold (called node.law) (opened (rules_at job node) None (length node.outputs) (sides_of job node)) (range_with_len 0 n)

pub called_stage : (law : Law) (job : Job) (streams : List (StreamPrefix Plain)) (node : PlanNode) (n : ℕ) → IsCalled law → stage_by law job streams node n ≡ calls_made job node n
called_stage (Count count start apart) job streams node n is = refl
called_stage (SideOnce at) job streams node n is = refl
called_stage Constants job streams node n is = refl
called_stage law job streams node n is = absurd is

pub called_outcome : (law : Law) (job : Job) (streams : List (StreamPrefix Plain)) (node : PlanNode) → IsCalled law → outcome_by law job streams node ≡ with_last_call (calls_made job node (calls_of node.law))
called_outcome (Count count start apart) job streams node is = refl
called_outcome (SideOnce at) job streams node is = refl
called_outcome Constants job streams node is = refl
called_outcome law job streams node is = absurd is

pub called_count : (law : Law) (streams : List (StreamPrefix Plain)) (node : PlanNode) → IsCalled law → count_by law streams node ≡ calls_of node.law
called_count (Count count start apart) streams node is = refl
called_count (SideOnce at) streams node is = refl
called_count Constants streams node is = refl
called_count law streams node is = absurd is

-- The next work.

-- numbers in two parts
pub range_parts : (a m n : ℕ) → range_with_len a (m + n) ≡ range_with_len a m ++ range_with_len (a + m) n
range_parts a zero n = ap₂ (λ (b k : ℕ). range_with_len b k) (let e : a ≡ a + 0 = omega arith in e) (let e : 0 + n ≡ n = omega arith in e)
range_parts a (suc m) n =
    ap (range_with_len a) (let e : suc m + n ≡ suc (m + n) = omega arith in e)
    ∙ ap (λ (ns : List ℕ). a ∷ ns) (range_parts (a + 1) m n ∙ ap (λ (b : ℕ). range_with_len (a + 1) m ++ range_with_len b n) (let e : a + 1 + m ≡ a + suc m = omega arith in e))

first_and_next : {X : Type 0} (xs : List X) (n : ℕ) (x : X) → slice_get xs n ≡ Some x → take (n + 1) xs ≡ take n xs ++ x ∷ []
first_and_next {X} xs n x there = take_more xs n x (slice_get_within xs n x there) ∙ ap (λ (y : X). take n xs ++ y ∷ []) (get_or_from_slice_get xs n x x there)

next_set : (rules : Rules) (offset : Option ℤ) (outputs : ℕ) (sides : List (Option Plain)) (sets : List (TimedSet Plain)) (n : ℕ) (e : TimedSet Plain) → slice_get sets n ≡ Some e
    → shown_all rules offset outputs sides (take (n + 1) sets) ≡ shown rules offset (shown_all rules offset outputs sides (take n sets)) e
next_set rules offset outputs sides sets n e there =
    ap (shown_all rules offset outputs sides) (first_and_next sets n e there) ∙ fold-append (shown rules offset) (opened rules offset outputs sides) (take n sets) (e ∷ [])

next_call : (job : Job) (node : PlanNode) (n : ℕ) → calls_made job node (n + 1) ≡ called node.law (calls_made job node n) n
next_call job node n =
    let begun = opened (rules_at job node) None (length node.outputs) (sides_of job node) in
    let numbers : range_with_len 0 (n + 1) ≡ range_with_len 0 n ++ n ∷ [] = range_parts 0 n 1 ∙ ap (λ (k : ℕ). range_with_len 0 n ++ k ∷ []) (let e : 0 + n ≡ n = omega arith in e) in
    ap (fold (called node.law) begun) numbers ∙ fold-append (called node.law) begun (range_with_len 0 n) (n ∷ [])

-- a node goes on by the answer of a work
abbrev pub next_by : Rules → PlanNode → Outcome → Phase → List (Option (Stamped Plain)) → Outcome
next_by rules node before phase set =
    unless_failed before.fault before
    (after_call node.shape.offset phase (record before { outputs = raised_before node.shape.offset phase before.outputs; taken = before.taken + 1 }) (answer_in rules node.law before.state phase set))

pub next_stage : {laws : Laws} (job : LoggedJob laws) (streams : List (StreamPrefix Plain)) (number : ℕ) (node : PlanNode) (n : ℕ) (phase : Phase) (set : List (Option (Stamped Plain))) → Solves job streams → slice_get job.job.plan.nodes number ≡ Some node
    → IsTask job.job streams node n phase set → is_close phase ≡ false → stage job.job streams node (n + 1) ≡ next_by (rules_at job.job node) node (stage job.job streams node n) phase set
next_stage {laws} job streams number node n Open set solves there task more = absurd task
next_stage {laws} job streams number node n Close set solves there task more = absurd cc
next_stage {laws} job streams number node n (Process at) set solves there task more =
    outer_stage node.law job.job streams node (n + 1) task.0
    ∙ next_set (rules_at job.job node) node.shape.offset (length node.outputs) (sides_of job.job node) (sets_of streams node) n (record { at = at; set = set }) task.1
    ∙ ap (λ (o : Outcome). shown (rules_at job.job node) node.shape.offset o (record { at = at; set = set })) (sym (outer_stage node.law job.job streams node n task.0))
next_stage {laws} job streams number node n (SourceCall call_number) set solves there task more =
    let is = source_called node.law task.0 in
    let shape : IsShapeOf node.law node.shape = of_node (λ (m : PlanNode). IsShapeOf m.law m.shape) job.job.plan.nodes number node solves.is_job.plan.shapes there in
    let offset : node.shape.offset ≡ None = shape.offset ∙ called_offset node.law is in
    let before = stage job.job streams node n in
    called_stage node.law job.job streams node (n + 1) is ∙ next_call job.job node n
    ∙ ap (λ (o : Outcome). called node.law o n) (sym (called_stage node.law job.job streams node n is))
    ∙ ap₂ (λ (k : ℕ) (off : Option ℤ). unless_failed before.fault before (after_call off (SourceCall k) (record before { taken = before.taken + 1 }) (call node.law before.state k))) (sym task.1) (sym offset)

-- A node that has failed stays as it is.
pub calls_stay : (law : Law) (outcome : Outcome) (failure : Failure) (numbers : List ℕ) → outcome.fault ≡ Some failure → fold (called law) outcome numbers ≡ outcome
calls_stay law outcome failure [] h = refl
calls_stay law outcome failure (number ∷ numbers) h =
    let same : called law outcome number ≡ outcome = stays outcome.fault outcome _ failure h in
    ap (λ o. fold (called law) o numbers) same ∙ calls_stay law outcome failure numbers h

-- the sets that are shown, and the sets after them
pub sets_in_parts : (rules : Rules) (offset : Option ℤ) (outputs : ℕ) (sides : List (Option Plain)) (sets : List (TimedSet Plain)) (n : ℕ)
    → shown_all rules offset outputs sides sets ≡ fold (shown rules offset) (shown_all rules offset outputs sides (take n sets)) (drop n sets)
sets_in_parts rules offset outputs sides sets n =
    ap (shown_all rules offset outputs sides) (sym (take-append-drop n sets)) ∙ fold-append (shown rules offset) (opened rules offset outputs sides) (take n sets) (drop n sets)

pub calls_in_parts : (job : Job) (node : PlanNode) (n calls : ℕ) → n ≤ calls → calls_made job node calls ≡ fold (called node.law) (calls_made job node n) (range_with_len n (calls - n))
calls_in_parts job node n calls le =
    let begun = opened (rules_at job node) None (length node.outputs) (sides_of job node) in
    let all : range_with_len 0 calls ≡ range_with_len 0 n ++ range_with_len n (calls - n) =
    ap (range_with_len 0) (let e : calls ≡ n + (calls - n) = omega (arith, le) in e) ∙ range_parts 0 n (calls - n) ∙ ap (λ (k : ℕ). range_with_len 0 n ++ range_with_len k (calls - n)) (let e : 0 + n ≡ n = omega arith in e) in
    ap (fold (called node.law) begun) all ∙ fold-append (called node.law) begun (range_with_len 0 n) (range_with_len n (calls - n))

pub loop_has_no_fault : (law : Law) (job : Job) (streams : List (StreamPrefix Plain)) (node : PlanNode) (n : ℕ) → law ≡ Loopback → (stage_by law job streams node n).fault ≡ None
loop_has_no_fault law job streams node n is = subst (λ (l : Law). (stage_by l job streams node n).fault ≡ None) (sym is) refl

-- if a node fails at one of its works, its outcome is the stage that it has reached there
pub failed_is_all : (job : Job) (streams : List (StreamPrefix Plain)) (node : PlanNode) (n : ℕ) (failure : Failure) → n ≤ count_of_all streams node → (stage job streams node n).fault ≡ Some failure → outcome_of job streams node ≡ stage job streams node n
failed_is_all job streams node n failure le failed =
    elim (kind_of node.law) [
      | inl outer ↦ failed_sets outer
      | inr (inl is) ↦ failed_calls is
      | inr (inr is) ↦ absurd (let none = loop_has_no_fault node.law job streams node n is in cc)
    ]
  where
    failed_sets : IsOuter node.law → outcome_of job streams node ≡ stage job streams node n
    failed_sets is =
        let offset = node.shape.offset in
        let reached = reach node.policy (inputs_of streams node) in
        let first = shown_all (rules_at job node) offset (length node.outputs) (sides_of job node) (take n (sets_of streams node)) in
        let at : stage job streams node n ≡ first = outer_stage node.law job streams node n is in
        let fault : first.fault ≡ Some failure = ap (λ (o : Outcome). o.fault) (sym at) ∙ failed in
        let all : shown_all (rules_at job node) offset (length node.outputs) (sides_of job node) (sets_of streams node) ≡ first =
        sets_in_parts (rules_at job node) offset (length node.outputs) (sides_of job node) (sets_of streams node) n ∙ failed_stays (rules_at job node) offset first failure (drop n (sets_of streams node)) fault in
        outer_outcome node.law job streams node is ∙ ap (ended (rules_at job node) offset reached) all ∙ stays first.fault first (with_reach (rules_at job node) offset reached first) failure fault ∙ sym at

    failed_calls : IsCalled node.law → outcome_of job streams node ≡ stage job streams node n
    failed_calls is =
        let first = calls_made job node n in
        let at : stage job streams node n ≡ first = called_stage node.law job streams node n is in
        let fault : first.fault ≡ Some failure = ap (λ (o : Outcome). o.fault) (sym at) ∙ failed in
        let few : n ≤ calls_of node.law = (let count = called_count node.law streams node is in omega (arith, le, count)) in
        let all : calls_made job node (calls_of node.law) ≡ first =
        calls_in_parts job node n (calls_of node.law) few ∙ calls_stay node.law first failure (range_with_len n (calls_of node.law - n)) fault in
        called_outcome node.law job streams node is ∙ ap with_last_call all ∙ stays first.fault first (record first { outputs = map closed first.outputs }) failure fault ∙ sym at

-- By an answer.

-- what an answer leaves: outputs that were raised, with what is emitted laid there if it can be; and what the calculator keeps
pub record IsLaid (phase : Phase) (raised : List (StreamPrefix Plain)) (laid : Result (List (StreamPrefix Plain)) Cause) (state : List Plain) (next : Outcome) : Type 0 where
  pub outputs : next.outputs ≡ outputs_by raised laid
  pub fault : next.fault ≡ failure_by phase laid
  pub state_is : next.state ≡ state

not_closed : (phase : Phase) (outputs : List (StreamPrefix Plain)) → is_close phase ≡ false → outputs ≡ closed_after phase outputs
not_closed Close outputs more = absurd cc
not_closed phase outputs more = refl

laid_after : (phase : Phase) (before : Outcome) (laid : Result (List (StreamPrefix Plain)) Cause) (state : List Plain) → is_close phase ≡ false → before.fault ≡ None
    → IsLaid phase before.outputs (after laid (λ longer. Ok (closed_after phase longer))) state (after_laying phase (record before { state = state }) laid)
laid_after phase before (Ok longer) state more good = record { outputs = not_closed phase longer more; fault = good; state_is = refl }
laid_after phase before (Err cause) state more good = record { outputs = refl; fault = refl; state_is = refl }

answer_laid : (offset : Option ℤ) (phase : Phase) (before : Outcome) (given : Answer) (answer : Result (List Laid) Cause) (now : List Plain) → is_close phase ≡ false → before.fault ≡ None → HasAnswered answer before.state now given
    → IsLaid phase before.outputs (laid_by offset phase before.outputs answer) now (after_call offset phase before given)
answer_laid offset phase before given (Ok emission) now more good has =
    subst (λ (g : Answer). IsLaid phase before.outputs (laid_by offset phase before.outputs (Ok emission)) now (after_call offset phase before g)) (sym has)
    (laid_after phase before (laid_behind offset phase before.outputs emission) now more good)
answer_laid offset phase before given (Err cause) now more good has =
    subst (λ (g : Answer). IsLaid phase before.outputs (laid_by offset phase before.outputs (Err cause)) now (after_call offset phase before g)) (sym has.0)
    (record { outputs = refl; fault = refl; state_is = sym has.1 })

-- the stage after a work that was answered
pub stage_laid : {laws : Laws} (job : LoggedJob laws) (streams : List (StreamPrefix Plain)) (number : ℕ) (node : PlanNode) (n : ℕ) (phase : Phase) (set : List (Option (Stamped Plain))) (answer : Result (List Laid) Cause) (now : List Plain)
    → Solves job streams → slice_get job.job.plan.nodes number ≡ Some node → IsTask job.job streams node n phase set → is_close phase ≡ false → (stage job.job streams node n).fault ≡ None
    → HasAnswered answer (stage job.job streams node n).state now (answer_in (rules_at job.job node) node.law (stage job.job streams node n).state phase set)
    → IsLaid phase (raised_before node.shape.offset phase (stage job.job streams node n).outputs)
    (laid_by node.shape.offset phase (raised_before node.shape.offset phase (stage job.job streams node n).outputs) answer) now (stage job.job streams node (n + 1))
stage_laid {laws} job streams number node n phase set answer now solves there task more good has =
    let offset = node.shape.offset in
    let before = stage job.job streams node n in
    let raised = raised_before offset phase before.outputs in
    let up : Outcome = record before { outputs = raised; taken = before.taken + 1 } in
    let given = answer_in (rules_at job.job node) node.law before.state phase set in
    subst (IsLaid phase raised (laid_by offset phase raised answer) now)
    (sym (next_stage job streams number node n phase set solves there task more ∙ goes_on before.fault before (after_call offset phase up given) good))
    (answer_laid offset phase up given answer now more good has)

-- Close of a law of the table keeps the state, and all but the one that is written down emit nothing there.
finish_keeps : (law : Law) (state : List Plain) (given : List Plain × List Laid) → finish law state ≡ Ok given → state ≡ given.0
finish_keeps (Scripted offset first steps last) state given is = cc
finish_keeps law state given is = cc

pub state_stays : (law : Law) (state now : List Plain) (answer : Result (List Laid) Cause) → HasAnswered answer state now (finish law state) → state ≡ now
state_stays law state now (Ok emission) has = finish_keeps law state (now, emission) has
state_stays law state now (Err cause) has = sym has.1

close_after : (before : Outcome) (laid : Result (List (StreamPrefix Plain)) Cause) (now : List Plain) → before.fault ≡ None
    → IsLaid Close before.outputs (after laid (λ longer. Ok (map closed longer))) now (after_close (record before { state = now }) laid)
close_after before (Ok longer) now good = record { outputs = refl; fault = good; state_is = refl }
close_after before (Err cause) now good = record { outputs = refl; fault = refl; state_is = refl }

close_laid : (offset : Option ℤ) (before : Outcome) (given : Answer) (answer : Result (List Laid) Cause) (now : List Plain) → before.fault ≡ None → HasAnswered answer before.state now given
    → IsLaid Close before.outputs (laid_by offset Close before.outputs answer) now (closed_with offset before given)
close_laid offset before given (Ok emission) now good has =
    subst (λ (g : Answer). IsLaid Close before.outputs (laid_by offset Close before.outputs (Ok emission)) now (closed_with offset before g)) (sym has)
    (close_after before (laid_behind offset Close before.outputs emission) now good)
close_laid offset before given (Err cause) now good has =
    subst (λ (g : Answer). IsLaid Close before.outputs (laid_by offset Close before.outputs (Err cause)) now (closed_with offset before g)) (sym has.0)
    (record { outputs = refl; fault = refl; state_is = sym has.1 })

-- of a node that is shown sets
pub outer_last : (job : Job) (streams : List (StreamPrefix Plain)) (node : PlanNode) (n : ℕ) → IsOuter node.law → IsLastWork job streams node n
    → outcome_of job streams node ≡ finished (rules_at job node) node.shape.offset (record (stage job streams node n) { outputs = all_raised node.shape.offset done (stage job streams node n).outputs })
outer_last job streams node n is last =
    let offset = node.shape.offset in
    let reached = reach node.policy (inputs_of streams node) in
    let sets = sets_of streams node in
    let before = stage job streams node n in
    let many : length sets ≤ n = (let all = last.all in let count = outer_count node.law streams node is in omega (arith, all, count)) in
    let at : before ≡ shown_all (rules_at job node) offset (length node.outputs) (sides_of job node) sets = outer_stage node.law job streams node n is ∙ ap (shown_all (rules_at job node) offset (length node.outputs) (sides_of job node)) (take_all n sets many) in
    outer_outcome node.law job streams node is ∙ ap (ended (rules_at job node) offset reached) (sym at) ∙ goes_on before.fault before (with_reach (rules_at job node) offset reached before) last.good
    ∙ ap (λ (r : ℕ). with_reach (rules_at job node) offset r before) (outer_over node.law streams node is last.over)

-- of a source, and of a loopback: its outputs close
abbrev closes : Outcome → Outcome
closes outcome = record outcome { outputs = map closed outcome.outputs }

called_last : (job : Job) (streams : List (StreamPrefix Plain)) (node : PlanNode) (n : ℕ) → IsCalled node.law → IsLastWork job streams node n → outcome_of job streams node ≡ closes (stage job streams node n)
called_last job streams node n is last =
    let before = stage job streams node n in
    let at : before ≡ calls_made job node (calls_of node.law) = called_stage node.law job streams node n is ∙ ap (calls_made job node) (last.all ∙ called_count node.law streams node is) in
    called_outcome node.law job streams node is ∙ ap with_last_call (sym at) ∙ goes_on before.fault before (closes before) last.good

all_answered : (n : ℕ) (main loop : StreamPrefix Plain) → n ≡ length (replies main loop) → length (replies main loop) ≡ length main.packets → main.bound ≡ done → loopback main loop ≡ closed (answered n main loop)
all_answered n main loop all each end =
    same_prefix (loopback main loop) (closed (answered n main loop))
    (sym (all_appended_behind empty_prefix (filter_map packet_of (take n (replies main loop))) ∙ ap (filter_map packet_of) (take_all n (replies main loop) (omega (arith, all)))))
    (ap (λ (ps : List (Stamped Plain)). first_time ps main.bound) (drop_all (length (replies main loop)) main.packets (omega (arith, each))) ∙ end)

loop_last : (law : Law) (job : Job) (streams : List (StreamPrefix Plain)) (node : PlanNode) (n : ℕ) → law ≡ Loopback → n ≡ count_by law streams node → IsOverBy law streams node → outcome_by law job streams node ≡ closes (stage_by law job streams node n)
loop_last law job streams node n is =
    subst (λ (l : Law). n ≡ count_by l streams node → IsOverBy l streams node → outcome_by l job streams node ≡ closes (stage_by l job streams node n)) (sym is)
    (λ all over.
    ap₂ (λ (s : StreamPrefix Plain) (k : ℕ). (let o : Outcome = record { state = []; outputs = s ∷ []; taken = k; fault = None } in o)) (all_answered n (main_of streams node) (loop_of streams node) all over.0 over.1) (sym all))

-- if nothing is emitted in Close
silent_close : (offset : Option ℤ) (before next : Outcome) (given : Answer) (answer : Result (List Laid) Cause) (now : List Plain) → offset ≡ None → given ≡ Ok (before.state, []) → next ≡ closes before → before.fault ≡ None
    → HasAnswered answer before.state now given → IsLaid Close (all_raised offset done before.outputs) (laid_by offset Close (all_raised offset done before.outputs) answer) now next
silent_close offset before next given answer now none silent is good has =
    subst (IsLaid Close (all_raised offset done before.outputs) (laid_by offset Close (all_raised offset done before.outputs) answer) now) (sym is)
    (subst (λ (off : Option ℤ). IsLaid Close (all_raised off done before.outputs) (laid_by off Close (all_raised off done before.outputs) answer) now (closes before)) (sym none)
    (close_laid None before (Ok (before.state, [])) answer now good (subst (HasAnswered answer before.state now) silent has)))

called_finish : (laws : Laws) (law : Law) (state : List Plain) → IsCalled law → (rules_of laws law).finish state ≡ Ok (state, [])
called_finish laws (Count count start apart) state is = refl
called_finish laws (SideOnce at) state is = refl
called_finish laws Constants state is = refl
called_finish laws law state is = absurd is

-- the outcome after Close that was answered
pub closed_stage : {laws : Laws} (job : LoggedJob laws) (streams : List (StreamPrefix Plain)) (number : ℕ) (node : PlanNode) (n : ℕ) (answer : Result (List Laid) Cause) (now : List Plain) → Solves job streams → slice_get job.job.plan.nodes number ≡ Some node → IsLastWork job.job streams node n
    → HasAnswered answer (stage job.job streams node n).state now ((rules_at job.job node).finish (stage job.job streams node n).state)
    → IsLaid Close (raised_before node.shape.offset Close (stage job.job streams node n).outputs)
    (laid_by node.shape.offset Close (raised_before node.shape.offset Close (stage job.job streams node n).outputs) answer) now (outcome_of job.job streams node)
closed_stage {laws} job streams number node n answer now solves there last has =
    let offset = node.shape.offset in
    let before = stage job.job streams node n in
    let shape : IsShapeOf node.law node.shape = of_node (λ (m : PlanNode). IsShapeOf m.law m.shape) job.job.plan.nodes number node solves.is_job.plan.shapes there in
    elim (kind_of node.law) [
      | inl is ↦ subst (IsLaid Close (all_raised offset done before.outputs) (laid_by offset Close (all_raised offset done before.outputs) answer) now) (sym (outer_last job.job streams node n is last))
          (close_laid offset (record before { outputs = all_raised offset done before.outputs }) ((rules_at job.job node).finish before.state) answer now last.good has)
      | inr (inl is) ↦ silent_close offset before (outcome_of job.job streams node) ((rules_at job.job node).finish before.state) answer now (shape.offset ∙ called_offset node.law is) (called_finish job.job.laws node.law before.state is) (called_last job.job streams node n is last) last.good has
      | inr (inr is) ↦ silent_close offset before (outcome_of job.job streams node) ((rules_at job.job node).finish before.state) answer now (shape.offset ∙ ap offset_of is) (ap (λ (l : Law). (rules_of job.job.laws l).finish before.state) is) (loop_last node.law job.job streams node n is last.all last.over) last.good has
    ]

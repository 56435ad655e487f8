-- What a user-supplied calculator keeps: its node's state after the sets that it was shown. After Close it keeps what Close gives of that
-- state.
use Rattle.std.proofs.Common.{◌≡◌, ℕ, ℤ, ◌+◌, Bool, true, false, List, [], length, Option, Some, None, Result, Ok, Err, slice_get, refl, ap, sym, subst, ◌∙◌}
use Rattle.mg_value.specs.Payload.{Plain}
use Rattle.mg_value.specs.Packet.{Stamped}
use Rattle.mg_settled.specs.Prefix.{StreamPrefix}
use Rattle.mg_calc.specs.declared.cause.Cause.{Cause}
use Rattle.mg_calc.specs.declared.emission.Laid.{Laid}
use Rattle.mg_calc.specs.declared.node_fault.Phase.{Phase}
use Rattle.mg_calc.specs.declared.node_fault.Phase.TheVariants.{Open, Process, Close}
use Rattle.mg_calc.specs.declared.plan_node.PlanNode.{PlanNode}
use Rattle.mg_calc.specs.Answer.{Answer}
use Rattle.mg_calc.specs.Laying.{laid_behind, all_raised}
use Rattle.mg_calc.specs.Outcome.{Outcome, after_laying, after_call, unopened, after_close, closed_with}
use Rattle.mg_calc.specs.Shape.{IsOuter}
use Rattle.mg_calc.specs.Equations.{Job, sides_of, outcome_of, rules_at}
use Rattle.mg_calc.proofs.Outcomes.{goes_on}
use Rattle.mg_time.specs.Time.{done}
use Rattle.mg_route.specs.HolderView.{HolderView, held_rules}
use Rattle.mg_node.specs.Job.{LoggedJob, Solves, stage, IsLastWork, IsTask}
use Rattle.mg_node.specs.Lawful.{HasAnswered, answer_in, come_to, kept_after}
use Rattle.mg_node.specs.Begun.{IsOpened}
use Rattle.mg_node.specs.Commits.{raised_before}
use Rattle.mg_node.proofs.Stages.{outer_stage, outer_last, next_stage}
use Rattle.mg_node.specs.Had.{state_by}
use Rattle.mg_calc.specs.Rules.{Rules, Laws}

-- Laying and closing change no state.
laying_state : (phase : Phase) (o : Outcome) (r : Result (List (StreamPrefix Plain)) Cause) → (after_laying phase o r).state ≡ o.state
laying_state phase o (Ok outputs) = refl
laying_state phase o (Err cause) = refl

close_state : (o : Outcome) (r : Result (List (StreamPrefix Plain)) Cause) → (after_close o r).state ≡ o.state
close_state o (Ok outputs) = refl
close_state o (Err cause) = refl

-- what is kept after an answer is what the node has then
call_state : (offset : Option ℤ) (phase : Phase) (o : Outcome) (answer : Result (List Laid) Cause) (now : List Plain) (given : Answer) → HasAnswered answer o.state now given → now ≡ (after_call offset phase o given).state
call_state offset phase o (Ok emission) now given h =
    subst (λ (g : Answer). now ≡ (after_call offset phase o g).state) (sym h) (sym (laying_state phase (record o { state = now }) (laid_behind offset phase o.outputs emission)))
call_state offset phase o (Err cause) now given h = subst (λ (g : Answer). now ≡ (after_call offset phase o g).state) (sym h.0) h.1

-- After a set more.
pub next_state : {laws : Laws} (job : LoggedJob laws) (streams : List (StreamPrefix Plain)) (number : ℕ) (node : PlanNode) (n : ℕ) (at : ℕ) (set : List (Option (Stamped Plain))) (answer : Result (List Laid) Cause) (now : List Plain) → Solves job streams
    → slice_get job.job.plan.nodes number ≡ Some node → IsTask job.job streams node n (Process at) set → (stage job.job streams node n).fault ≡ None
    → HasAnswered answer (stage job.job streams node n).state now (answer_in (rules_at job.job node) node.law (stage job.job streams node n).state (Process at) set) → now ≡ (stage job.job streams node (n + 1)).state
next_state {laws} job streams number node n at set answer now solves there task good h =
    let before = stage job.job streams node n in
    let given = answer_in (rules_at job.job node) node.law before.state (Process at) set in
    let raised : Outcome = record before { outputs = raised_before node.shape.offset (Process at) before.outputs; taken = before.taken + 1 } in
    call_state node.shape.offset (Process at) raised answer now given h
    ∙ ap (λ (o : Outcome). o.state) (sym (goes_on before.fault before (after_call node.shape.offset (Process at) raised given) good))
    ∙ ap (λ (o : Outcome). o.state) (sym (next_stage job streams number node n (Process at) set solves there task refl))

-- After Close.
pub answered_state : (before now : List Plain) (answer : Result (List Laid) Cause) (given : Answer) → HasAnswered answer before now given → now ≡ kept_after given before
answered_state before now (Ok emission) given h = subst (λ (g : Answer). now ≡ kept_after g before) (sym h) refl
answered_state before now (Err cause) given h = subst (λ (g : Answer). now ≡ kept_after g before) (sym h.0) h.1

closed_state : (offset : Option ℤ) (o : Outcome) (answer : Answer) → (closed_with offset o answer).state ≡ kept_after answer o.state
closed_state offset o (Err cause) = refl
closed_state offset o (Ok given) = close_state (record o { state = given.0 }) (laid_behind offset Close o.outputs given.1)

last_state : (job : Job) (streams : List (StreamPrefix Plain)) (node : PlanNode) (n : ℕ) → IsOuter node.law → IsLastWork job streams node n → (outcome_of job streams node).state ≡ state_by job streams node n true
last_state job streams node n outer last =
    let before = stage job streams node n in
    let up : Outcome = record before { outputs = all_raised node.shape.offset done before.outputs } in
    ap (λ (o : Outcome). o.state) (outer_last job streams node n outer last) ∙ closed_state node.shape.offset up ((rules_at job node).finish up.state)

pub come_state : {laws : Laws} (job : LoggedJob laws) (streams : List (StreamPrefix Plain)) (node : PlanNode) (n : ℕ) (closed : Bool) → IsOuter node.law → (closed ≡ true → IsLastWork job.job streams node n)
    → (come_to job streams node n closed).state ≡ state_by job.job streams node n closed
come_state {laws} job streams node n false outer last = refl
come_state {laws} job streams node n true outer last = last_state job.job streams node n outer (last refl)

-- After Open, which forgets what was kept before.
pub opened_state : {laws : Laws} (job : LoggedJob laws) (streams : List (StreamPrefix Plain)) (node : PlanNode) (told now : HolderView) (answer : Result (List Laid) Cause) → IsOuter node.law → held_rules laws told ≡ rules_at job.job node → IsOpened laws told now (sides_of job.job node) answer
    → now.state ≡ (stage job.job streams node 0).state
opened_state {laws} job streams node told now answer outer same o =
    let sides = sides_of job.job node in
    call_state node.shape.offset Open (unopened (length node.outputs)) answer now.state ((rules_at job.job node).opening sides)
    (subst (λ (r : Rules). HasAnswered answer [] now.state (r.opening sides)) same o.answered)
    ∙ ap (λ (o : Outcome). o.state) (sym (outer_stage node.law job.job streams node 0 outer))

-- Close is claimed once no more works come: it is the node's last.
use Rattle.std.proofs.Common.{◌≡◌, ℕ, ◌+◌, ◌≤◌, Bool, true, false, List, [], ◌∷◌, length, length-drop, map, drop, All, Option, Some, None, Result, Ok, Err, option_map, unwrap_or, slice_get, count_by as number_of, ◌||◌, is_some, ap, sym, refl, subst, ◌∙◌, arith}
use Rattle.std.specs.List.{fold, range_with_len}
use Rattle.std.proofs.lemmas.List.FromFn.{length-range_with_len}
use Rattle.std.proofs.lemmas.List.Elements.{All-from_recursion}
use Rattle.mg_time.specs.Time.{done}
use Rattle.mg_value.specs.Payload.{Plain}
use Rattle.mg_value.specs.declared.policy.Policy.{Policy}
use Rattle.mg_value.specs.declared.policy.Policy.TheVariants.{Default}
use Rattle.mg_settled.specs.Prefix.{StreamPrefix, IsPrefix, closed}
use Rattle.mg_settled.specs.Extension.{IsExtendedBy, AreExtendedBy}
use Rattle.mg_settled.specs.Loopback.{replies}
use Rattle.mg_settled.specs.Settled.{settled_sets, reach}
use Rattle.mg_settled.proofs.Lemmas.{no-sets, sets-end, reach-rises, reach-most, replies-most, ended_stays}
use Rattle.mg_stream.specs.Pool.{queues_of}
use Rattle.mg_policy.specs.Inbox.{Gathered, IsOver as IsOverInbox}
use Rattle.mg_policy.specs.declared.readiness.Readiness.TheVariants.{Close as AtEnd}
use Rattle.mg_policy.proofs.Standing.{what_is_next, what_is_the_reach}
use Rattle.mg_loopback.specs.Loopback.{Held}
use Rattle.mg_loopback.specs.Standing.{StandsAfter}
use Rattle.mg_loopback.proofs.Standing.{replies_grow}
use Rattle.mg_calc.specs.Rules.{Laws}
use Rattle.mg_calc.specs.declared.cause.Cause.{Cause}
use Rattle.mg_calc.specs.declared.law.Law.{Law}
use Rattle.mg_calc.specs.declared.law.Law.TheVariants.{Count, SideOnce, Constants, Loopback}
use Rattle.mg_calc.specs.declared.node_fault.Phase.{Phase}
use Rattle.mg_calc.specs.declared.node_fault.Phase.TheVariants.{Open, Call as SourceCall, Close}
use Rattle.mg_calc.specs.declared.node_fault.NodeFault.{NodeFault}
use Rattle.mg_calc.specs.declared.plan_node.PlanNode.{PlanNode}
use Rattle.mg_calc.specs.Answer.{Answer}
use Rattle.mg_calc.specs.Law.{call}
use Rattle.mg_calc.specs.Laying.{laid_behind}
use Rattle.mg_calc.specs.Outcome.{Failure, Outcome, after_laying, after_call, unopened, opened, unless_failed, called, source_outcome}
use Rattle.mg_calc.specs.Shape.{calls_of}
use Rattle.mg_calc.specs.Equations.{Job, inputs_of, sides_of, outcome_by, rules_at}
use Rattle.mg_calc.specs.Meaning.{count_of}
use Rattle.mg_calc.proofs.Jobs.{job_known}
use Rattle.mg_calc.proofs.Rounds.{stream_extends, streams_are_prefixes, stream_is_prefix}
use Rattle.mg_calc.proofs.Solutions.{solution_keeps, one_solution}
use Rattle.mg_calc.specs.Rules.{Rules}
use Rattle.mg_node.specs.declared.role.Role.{Role}
use Rattle.mg_node.specs.declared.role.Role.TheVariants.{Input, Source, Loop as LoopRole, Sets as SetsRole}
use Rattle.mg_node.specs.declared.pending.Pending.{Pending}
use Rattle.mg_node.specs.declared.pending.Pending.TheVariants.{Sets, Loop}
use Rattle.mg_node.specs.Views.{IntakeView, EngineView, EntryView, WorkView}
use Rattle.mg_node.specs.Ports.{IsNext}
use Rattle.mg_node.specs.Job.{LoggedJob, Solves, ports_of, streams_at, role_of, main_of, loop_of, sets_of, count_by, count_of_all, IsOverBy, stage, IsLastWork}
use Rattle.mg_node.specs.Lawful.{HoldsSets, HoldsWaits, IsIntakeOf, LawfulIntake, is_close, come_to, IsEngineOf, LawfulEngine, of_node, AgreeBy, LawfulWork}
use Rattle.mg_node.specs.Claims.{MayClaim, IsOver, TakesClose}
use Rattle.mg_node.proofs.Answering.{loop_law}
use Rattle.mg_node.proofs.Claimable.{never_input}
use Rattle.mg_node.proofs.ClaimsKeep.{hands_lawful, hands_places}

-- of sets: as many as are claimed, and their reach is the end of all times
sets_over : {laws : Laws} (job : LoggedJob laws) (streams : List (StreamPrefix Plain)) (number k : ℕ) (inbox : Gathered) → Solves job streams → HoldsSets job streams number k inbox → IsOverInbox inbox.policy (queues_of inbox.pool)
    → (length (settled_sets inbox.policy (streams_at streams (ports_of job.job.plan number))) ≡ k) × (reach inbox.policy (streams_at streams (ports_of job.job.plan number)) ≡ done)
sets_over {laws} job streams number k inbox solves h over =
    let ss = streams_at streams (ports_of job.job.plan number) in
    let prefixes : All IsPrefix ss = All-from_recursion IsPrefix ss (streams_are_prefixes streams (ports_of job.job.plan number) (solution_keeps job.job (job_known job.job solves.is_job) streams solves.solution)) in
    let rest = what_is_next inbox.policy k (queues_of inbox.pool) h.came h.stands in
    let none : drop k (settled_sets inbox.policy h.came) ≡ [] = sym rest ∙ no-sets inbox.policy _ over.empty in
    let claimed = h.stands.gone.claimed in
    let count : length (settled_sets inbox.policy h.came) ≡ k = omega (arith, claimed, ap length none, length-drop k (settled_sets inbox.policy h.came)) in
    let came : reach inbox.policy h.came ≡ done = sym (what_is_the_reach inbox.policy k (queues_of inbox.pool) h.came h.stands) ∙ over.closed in
    let same = sets-end inbox.policy h.came ss prefixes h.extended came in
    let rises = reach-rises inbox.policy h.came ss prefixes h.extended in
    let most = reach-most inbox.policy ss prefixes in
    (ap length same ∙ count, omega (arith, rises, most, came))

-- of a source: it has no more than its calls
laying_takes : (phase : Phase) (outcome : Outcome) (answer : Result (List (StreamPrefix Plain)) Cause) → (after_laying phase outcome answer).taken ≡ outcome.taken
laying_takes phase outcome (Ok outputs) = refl
laying_takes phase outcome (Err cause) = refl

call_takes : (phase : Phase) (outcome : Outcome) (answer : Answer) → (after_call None phase outcome answer).taken ≡ outcome.taken
call_takes phase outcome (Err cause) = refl
call_takes phase outcome (Ok given) = laying_takes phase (record outcome { state = given.0 }) (laid_behind None phase outcome.outputs given.1)

unless_takes : (fault : Option Failure) (outcome next : Outcome) → next.taken ≤ outcome.taken + 1 → (unless_failed fault outcome next).taken ≤ outcome.taken + 1
unless_takes (Some failure) outcome next le = omega arith
unless_takes None outcome next le = le

calls_take : (law : Law) (outcome : Outcome) (numbers : List ℕ) → (fold (called law) outcome numbers).taken ≤ outcome.taken + length numbers
calls_take law outcome [] = omega arith
calls_take law outcome (number ∷ numbers) =
    let next : Outcome = after_call None (SourceCall number) (record outcome { taken = outcome.taken + 1 }) (call law outcome.state number) in
    let one = call_takes (SourceCall number) (record outcome { taken = outcome.taken + 1 }) (call law outcome.state number) in
    let here = unless_takes outcome.fault outcome next (omega (arith, one)) in
    let later = calls_take law (called law outcome number) numbers in
    omega (arith, here, later)

last_takes : (fault : Option Failure) (outcome next : Outcome) → next.taken ≡ outcome.taken → (unless_failed fault outcome next).taken ≡ outcome.taken
last_takes (Some failure) outcome next e = refl
last_takes None outcome next e = e

source_takes : (rules : Rules) (law : Law) (calls outputs : ℕ) (sides : List (Option Plain)) → (source_outcome rules law calls outputs sides).taken ≤ calls
source_takes rules law calls outputs sides =
    let begun = opened rules None outputs sides in
    let made = fold (called law) begun (range_with_len 0 calls) in
    let first : begun.taken ≡ 0 = call_takes Open (unopened outputs) (rules.opening sides) in
    let all = calls_take law begun (range_with_len 0 calls) in
    let last = last_takes made.fault made (record made { outputs = map closed made.outputs }) refl in
    omega (arith, first, all, last, length-range_with_len 0 calls)

source_counts : (law : Law) (calls : ℕ) (job : Job) (streams : List (StreamPrefix Plain)) (node : PlanNode) → role_of law ≡ Source calls → (outcome_by law job streams node).taken ≤ calls_of node.law
source_counts (Count count start step) calls job streams node e = source_takes (rules_at job node) node.law (calls_of node.law) (length node.outputs) (sides_of job node)
source_counts (SideOnce at) calls job streams node e = source_takes (rules_at job node) node.law (calls_of node.law) (length node.outputs) (sides_of job node)
source_counts Constants calls job streams node e = source_takes (rules_at job node) node.law (calls_of node.law) (length node.outputs) (sides_of job node)
source_counts Loopback calls job streams node e = absurd cc
source_counts law calls job streams node e = absurd cc

source_calls : (law : Law) (calls : ℕ) → role_of law ≡ Source calls → calls ≡ calls_of law
source_calls (Count count start step) calls e = cc
source_calls (SideOnce at) calls e = cc
source_calls Constants calls e = cc
source_calls Loopback calls e = absurd cc
source_calls law calls e = absurd cc

source_last : (law : Law) (calls : ℕ) (streams : List (StreamPrefix Plain)) (node : PlanNode) → role_of law ≡ Source calls → (count_by law streams node ≡ calls_of node.law) × IsOverBy law streams node
source_last (Count count start step) calls streams node e = (refl, tt)
source_last (SideOnce at) calls streams node e = (refl, tt)
source_last Constants calls streams node e = (refl, tt)
source_last Loopback calls streams node e = absurd cc
source_last law calls streams node e = absurd cc

sets_last : (law : Law) (streams : List (StreamPrefix Plain)) (node : PlanNode) (k : ℕ) → role_of law ≡ SetsRole → length (sets_of streams node) ≡ k → reach node.policy (inputs_of streams node) ≡ done → (k ≡ count_by law streams node) × IsOverBy law streams node
sets_last (Count count start step) streams node k e many over = absurd cc
sets_last (SideOnce at) streams node k e many over = absurd cc
sets_last Constants streams node k e many over = absurd cc
sets_last Loopback streams node k e many over = absurd cc
sets_last law streams node k e many over = (sym many, over)

-- of a loopback: each packet of MAIN is answered, and MAIN has ended
loop_over : (k : ℕ) (held : Held Plain) (main loop wider more : StreamPrefix Plain) → IsPrefix wider → StandsAfter k held main loop → IsExtendedBy main wider → IsExtendedBy loop more → held.main.packets ≡ [] → held.main.bound ≡ done
    → (k ≡ length (replies wider more)) × (length (replies wider more) ≡ length wider.packets) × (wider.bound ≡ done)
loop_over k held main loop wider more is h e f none end =
    let ended : main ≡ wider = ended_stays main wider (sym h.at_main.bound ∙ end) is e in
    let gone = h.gone in
    let within = h.at_main.gone in
    let all : length main.packets ≡ k = omega (arith, gone, within, ap length (sym none ∙ h.at_main.waiting), length-drop held.main.gone main.packets) in
    let answered = h.answered in
    let grow = replies_grow main wider loop more e f in
    let most = replies-most wider more in
    let same = ap (λ (s : StreamPrefix Plain). length s.packets) ended in
    (omega (arith, answered, grow, most, same, all), omega (arith, answered, grow, most, same, all), ap (λ (s : StreamPrefix Plain). s.bound) (sym ended) ∙ sym h.at_main.bound ∙ end)

loop_last : (law : Law) (streams : List (StreamPrefix Plain)) (node : PlanNode) (k : ℕ) → law ≡ Loopback → k ≡ length (replies (main_of streams node) (loop_of streams node))
    → (length (replies (main_of streams node) (loop_of streams node)) ≡ length (main_of streams node).packets) × ((main_of streams node).bound ≡ done) → (k ≡ count_by law streams node) × IsOverBy law streams node
loop_last law streams node k is count over = subst (λ (l : Law). (k ≡ count_by l streams node) × IsOverBy l streams node) (sym is) (count, over)

-- By its role.

pub law_is_loop : (o : Option PlanNode) (node : PlanNode) → o ≡ Some node → option_map (λ n. n.law) o ≡ Some Loopback → node.law ≡ Loopback
law_is_loop None node is law = absurd cc
law_is_loop (Some m) node is law = (let same : m ≡ node = cc in let here : m.law ≡ Loopback = cc in ap (λ (n : PlanNode). n.law) (sym same) ∙ here)

sets_close : {laws : Laws} (job : LoggedJob laws) (number : ℕ) (streams : List (StreamPrefix Plain)) (node : PlanNode) (k : ℕ) (w : Pending) → Solves job streams → slice_get job.job.plan.nodes number ≡ Some node → role_of node.law ≡ SetsRole → HoldsWaits job streams number k w → IsNext w AtEnd
    → (k ≡ count_of_all streams node) × IsOverBy node.law streams node
sets_close {laws} job number streams node k (Sets inbox) solves there role holds next =
    let h = holds.1 in
    let ended = sets_over job streams number k inbox solves h next in
    let policy : inbox.policy ≡ node.policy = h.policy ∙ ap (λ (o : Option PlanNode). unwrap_or (option_map (λ n. n.policy) o) Default) there in
    let at : streams_at streams (ports_of job.job.plan number) ≡ inputs_of streams node = ap (λ (o : Option PlanNode). streams_at streams (unwrap_or (option_map (λ n. n.inputs) o) job.job.plan.outputs)) there in
    let count : length (sets_of streams node) ≡ k = ap (λ (p : Policy). length (settled_sets p (inputs_of streams node))) (sym policy) ∙ ap (λ (ss : List (StreamPrefix Plain)). length (settled_sets inbox.policy ss)) (sym at) ∙ ended.0 in
    let reached : reach node.policy (inputs_of streams node) ≡ done = ap (λ (p : Policy). reach p (inputs_of streams node)) (sym policy) ∙ ap (λ (ss : List (StreamPrefix Plain)). reach inbox.policy ss) (sym at) ∙ ended.1 in
    sets_last node.law streams node k role count reached
sets_close {laws} job number streams node k (Loop held) solves there role holds next =
    absurd (let role_is = subst (λ (l : Law). role_of l ≡ SetsRole) (law_is_loop (slice_get job.job.plan.nodes number) node there holds.0) role in cc)

loop_close : {laws : Laws} (job : LoggedJob laws) (number : ℕ) (streams : List (StreamPrefix Plain)) (node : PlanNode) (k : ℕ) (w : Pending) → Solves job streams → slice_get job.job.plan.nodes number ≡ Some node → role_of node.law ≡ LoopRole → HoldsWaits job streams number k w → IsNext w AtEnd
    → (k ≡ count_of_all streams node) × IsOverBy node.law streams node
loop_close {laws} job number streams node k (Sets inbox) solves there role holds next = absurd (holds.0 (ap (λ (o : Option PlanNode). option_map (λ n. n.law) o) there ∙ ap Some (loop_law node.law role)))
loop_close {laws} job number streams node k (Loop held) solves there role holds next =
    let at : streams_at streams (ports_of job.job.plan number) ≡ inputs_of streams node = ap (λ (o : Option PlanNode). streams_at streams (unwrap_or (option_map (λ n. n.inputs) o) job.job.plan.outputs)) there in
    let came : List (StreamPrefix Plain) = holds.1.loop ∷ holds.1.main ∷ [] in
    let both : AreExtendedBy came (inputs_of streams node) = subst (AreExtendedBy came) at holds.1.extended in
    let prefixes = solution_keeps job.job (job_known job.job solves.is_job) streams solves.solution in
    let wider : IsPrefix (main_of streams node) = stream_is_prefix (inputs_of streams node) 1 (streams_are_prefixes streams node.inputs prefixes) in
    let ended = loop_over k held holds.1.main holds.1.loop (main_of streams node) (loop_of streams node) wider holds.1.stands (stream_extends came (inputs_of streams node) 1 both) (stream_extends came (inputs_of streams node) 0 both) next.0 next.1 in
    loop_last node.law streams node k (loop_law node.law role) ended.0 (ended.1, ended.2)

close_by : {laws : Laws} (job : LoggedJob laws) (number : ℕ) (engine : EngineView) (intake : IntakeView) (h : IsEngineOf job number engine) (i : IsIntakeOf job number intake) (r : Role) → engine.role ≡ r → AgreeBy r engine.claimed intake.claimed → engine.laid ≡ engine.claimed → IsOver r engine.claimed intake.waits
    → (engine.claimed ≡ count_of_all h.streams h.node) × IsOverBy h.node.law h.streams h.node
close_by {laws} job number engine intake h i (Source calls) role agree laid over =
    let role_is : role_of h.node.law ≡ Source calls = sym h.set_up.role ∙ role in
    let last = source_last h.node.law calls h.streams h.node role_is in
    let taken = h.taken in
    let most : count_of job.job h.streams h.node ≤ calls_of h.node.law = source_counts h.node.law calls job.job h.streams h.node role_is in
    let calls_is = source_calls h.node.law calls role_is in
    (omega (arith, taken, most, calls_is, laid, over, last.0), last.1)
close_by {laws} job number engine intake h i LoopRole role agree laid over =
    let same : i.streams ≡ h.streams = one_solution job.job i.streams h.streams i.solves.solution h.solves.solution in
    let holds : HoldsWaits job h.streams number engine.claimed intake.waits = subst (λ (k : ℕ). HoldsWaits job h.streams number k intake.waits) (sym agree) (subst (λ (ss : List (StreamPrefix Plain)). HoldsWaits job ss number intake.claimed intake.waits) same i.holds) in
    loop_close job number h.streams h.node engine.claimed intake.waits h.solves h.there (sym h.set_up.role ∙ role) holds over
close_by {laws} job number engine intake h i SetsRole role agree laid over =
    let same : i.streams ≡ h.streams = one_solution job.job i.streams h.streams i.solves.solution h.solves.solution in
    let holds : HoldsWaits job h.streams number engine.claimed intake.waits = subst (λ (k : ℕ). HoldsWaits job h.streams number k intake.waits) (sym agree) (subst (λ (ss : List (StreamPrefix Plain)). HoldsWaits job ss number intake.claimed intake.waits) same i.holds) in
    sets_close job number h.streams h.node engine.claimed intake.waits h.solves h.there (sym h.set_up.role ∙ role) holds over
close_by {laws} job number engine intake h i Input role agree laid over = absurd (never_input h.node.law (sym h.set_up.role ∙ role))

pub no_fault : (fault : Option NodeFault) (f : Option Failure) (number : ℕ) → is_some fault ≡ false → fault ≡ option_map (λ g. record { node = number; phase = g.phase; cause = g.cause }) f → f ≡ None
no_fault fault None number none is = refl
no_fault None (Some g) number none is = absurd cc
no_fault (Some x) (Some g) number none is = absurd cc

pub second_not : (a b : Bool) → (a || b) ≡ false → (a ≡ false) × (b ≡ false)
second_not false b e = (refl, e)
second_not true b e = absurd cc

pub close_lawful : {laws : Laws} (job : LoggedJob laws) (number : ℕ) (engine engine_now : EngineView) (intake : IntakeView) (work : WorkView) → LawfulEngine job (of_node number) engine → LawfulIntake job number intake → AgreeBy engine.role engine.claimed intake.claimed → MayClaim engine
    → TakesClose engine engine_now intake.waits work → LawfulEngine job (of_node number) engine_now × LawfulWork job work
unfolding LawfulEngine LawfulIntake
close_lawful {laws} job number engine engine_now intake work h i agree may t =
    let order : engine.laid + 0 ≡ engine.claimed + 0 = subst (λ (w : List EntryView). engine.laid + length w ≡ engine.claimed + number_of (λ e. is_close e.phase) w) t.laid h.order in
    let none : number_of (λ (e : EntryView). is_close e.phase) engine.window ≡ 0 = ap (number_of (λ (e : EntryView). is_close e.phase)) t.laid in
    let laid : engine.laid ≡ engine.claimed = omega (arith, order) in
    let ended = second_not engine.closed (is_some engine.fault) may.goes in
    let stage_good : (stage job.job h.streams h.node engine.laid).fault ≡ None =
    no_fault engine.fault (stage job.job h.streams h.node engine.laid).fault number ended.1 (h.fault ∙ ap (λ (b : Bool). option_map (λ f. record { node = number; phase = f.phase; cause = f.cause }) (come_to job h.streams h.node engine.laid b).fault) ended.0) in
    let all = close_by job number engine intake h i engine.role refl agree laid t.over in
    let last : IsLastWork job.job h.streams h.node engine.claimed = record {
      all = all.0;
      good = ap (λ (k : ℕ). (stage job.job h.streams h.node k).fault) (sym laid) ∙ stage_good;
      over = all.1;
    } in
    hands_lawful job number engine engine_now Close 0 t.context t.context.set work h may t.hands last none refl (λ e. sym laid) (hands_places job number engine engine_now Close 0 t.context h t.hands) t.work_is

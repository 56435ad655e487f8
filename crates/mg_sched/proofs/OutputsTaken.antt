-- Sets that are taken from the collector. They are counted, and all that has come stays counted. At no time more sets are taken than the
-- solution has.
use Rattle.std.proofs.Common.{◌≡◌, ℕ, ◌+◌, ◌<◌, ◌≤◌, Bool, true, false, List, [], ◌∷◌, length, length-take, All, Option, Some, option_map, unwrap_or, refl, sym, ap, ap₂, subst, ◌∙◌, arith}
use Rattle.std.specs.List.{AllByRecursion}
use Rattle.std.proofs.lemmas.List.{get_or_default}
use Rattle.std.proofs.lemmas.List.Elements.{recursion_from_All}
use Rattle.std.proofs.lemmas.Option.{slice_get_past, slice_get_within}
use Rattle.mg_value.specs.Payload.{Plain}
use Rattle.mg_value.specs.Packet.{Stamped}
use Rattle.mg_value.specs.declared.policy.Policy.{Policy}
use Rattle.mg_value.specs.declared.policy.Policy.TheVariants.{Default}
use Rattle.mg_settled.specs.Prefix.{StreamPrefix, empty_prefix, closed}
use Rattle.mg_settled.specs.Extension.{IsExtendedBy, AreExtendedBy}
use Rattle.mg_settled.specs.Settled.{settled_sets, inputs_of}
use Rattle.mg_settled.proofs.Lemmas.{extended_by_itself, sets-stay}
use Rattle.mg_stream.specs.Queue.{StandsFor as IsQueueOf}
use Rattle.mg_calc.specs.Rules.{Laws}
use Rattle.mg_calc.specs.declared.law.Law.TheVariants.{Loopback}
use Rattle.mg_calc.specs.declared.plan.Plan.{Plan}
use Rattle.mg_calc.specs.declared.plan_node.PlanNode.{PlanNode}
use Rattle.mg_calc.specs.Equations.{stream_of}
use Rattle.mg_calc.proofs.Jobs.{job_known}
use Rattle.mg_calc.proofs.Rounds.{stream_extends}
use Rattle.mg_calc.proofs.Solutions.{solution_has_each}
use Rattle.mg_node.specs.declared.pending.Pending.{Pending}
use Rattle.mg_node.specs.declared.pending.Pending.TheVariants.{Sets, Loop}
use Rattle.mg_node.specs.Views.{IntakeView}
use Rattle.mg_node.specs.Claims.{Takes}
use Rattle.mg_node.specs.Job.{LoggedJob, Solves, ports_of, policy_of, law_of, streams_at}
use Rattle.mg_node.specs.Lawful.{HoldsWaits, LawfulIntake}
use Rattle.mg_node.specs.Ports.{port_queue}
use Rattle.mg_node.specs.Resting.{HasCome}
use Rattle.mg_node.proofs.Lemmas.{intake_has_reached, zip_long}
use Rattle.mg_sched.specs.Views.{NetView}
use Rattle.mg_sched.specs.StandsFor.{StandsFor, IsRunning}
use Rattle.mg_sched.specs.AtRest.{IsAtRest}
use Rattle.mg_sched.specs.Taking.{collector_of, taken_out, TakesNext, TakesOut, settled_outputs, HasAllOutputs, LeavesNodes}
use Rattle.mg_sched.proofs.Finding.{found, places, put_here}
use Rattle.mg_sched.proofs.LeftToTake.{collector_holds, collector_comes, all_claimed}
use Rattle.mg_sched.proofs.PlanEdges.{ports_of_collector}
use Rattle.mg_sched.proofs.RestingStreams.{same_came}
use Rattle.mg_sched.proofs.Taking.{collector_lawful}

-- Counts.

taken_by : (net : NetView) (intake : IntakeView) → collector_of net ≡ Some intake → taken_out net ≡ intake.claimed
taken_by net intake there = ap (λ (o : Option IntakeView). unwrap_or (option_map (λ (i : IntakeView). i.claimed) o) 0) there

-- the collector's intake once a set was taken
collector_now : (before now : NetView) (set_now : List (Option (Stamped Plain))) (t : TakesNext before now set_now) → collector_of now ≡ Some t.intake_now
collector_now before now set_now t =
    ap collector_of t.now_is ∙ put_here before.intakes (length before.plan.nodes) t.intake_now (slice_get_within before.intakes (length before.plan.nodes) t.intake t.there)

pub one_more_taken : (set_old set_now : List (Option (Stamped Plain))) (before now : NetView) → TakesOut true set_old set_now before now → taken_out now ≡ taken_out before + 1
one_more_taken set_old set_now before now t =
    taken_by now t.intake_now (collector_now before now set_now t) ∙ t.takes.counted ∙ ap (λ (n : ℕ). n + 1) (sym (taken_by before t.intake t.there))

pub nothing_changes : (set_old set_now : List (Option (Stamped Plain))) (before now : NetView) → TakesOut false set_old set_now before now → (now ≡ before) × (set_now ≡ set_old)
nothing_changes set_old set_now before now t = (t.same, t.same_set)

pub taking_leaves_nodes : (taken : Bool) (set_old set_now : List (Option (Stamped Plain))) (before now : NetView) → TakesOut taken set_old set_now before now → LeavesNodes before now
taking_leaves_nodes true set_old set_now before now t = subst (LeavesNodes before) (sym t.now_is) refl
taking_leaves_nodes false set_old set_now before now t = subst (LeavesNodes before) (sym t.same) refl

-- What has come stays so when a set is taken.

came_kept : {laws : Laws} (job : LoggedJob laws) (consumer : ℕ) (solution : List (StreamPrefix Plain)) (intake now : IntakeView) (set_now : List (Option (Stamped Plain))) → Solves job solution → LawfulIntake job consumer intake → Takes intake now set_now
    → HasCome intake (streams_at solution (ports_of job.job.plan consumer)) → HasCome now (streams_at solution (ports_of job.job.plan consumer))
came_kept {laws} job consumer solution intake now set_now solves lawful takes came =
    let streams = streams_at solution (ports_of job.job.plan consumer) in
    let reached = intake_has_reached job consumer now solution solves (takes.stays_lawful job consumer lawful) in
    let long = zip_long IsExtendedBy reached.came streams reached.extended in
    record {
      ports = came.ports ∙ sym takes.ports;
      stands = λ port within.
          let own = reached.stands.stands port (omega (arith, long, within)) in
          let same : stream_of streams port ≡ stream_of reached.came port =
          same_came (port_queue intake.waits port) (port_queue now.waits port) (stream_of streams port) (stream_of reached.came port) (stream_of streams port)
          (record { count = takes.counts port; bound = takes.bounds port }) (came.stands port within) own (extended_by_itself (stream_of streams port)) (stream_extends reached.came streams port reached.extended) in
          subst (IsQueueOf (port_queue now.waits port)) (sym same) own;
    }

take_keeps : {laws : Laws} (job : LoggedJob laws) (solution : List (StreamPrefix Plain)) (set_now : List (Option (Stamped Plain))) (before now : NetView) → StandsFor job before → Solves job solution → HasAllOutputs solution before → TakesNext before now set_now
    → HasAllOutputs solution now
unfolding StandsFor
take_keeps {laws} job solution set_now before now h solves all t =
    let last = length before.plan.nodes in
    let same : t.intake ≡ all.intake = (let e : Some t.intake ≡ Some all.intake = sym t.there ∙ all.there in cc) in
    let came : HasCome t.intake (streams_at solution (ports_of job.job.plan last)) = subst (λ (p : Plan). HasCome t.intake (streams_at solution (ports_of p last))) h.plan (subst (λ (i : IntakeView). HasCome i (streams_at solution (ports_of before.plan last))) (sym same) all.came) in
    let kept = came_kept job last solution t.intake t.intake_now set_now solves (collector_lawful job before t.intake h t.there) t.takes came in
    let plan : job.job.plan ≡ now.plan = sym h.plan ∙ sym (ap (λ (v : NetView). v.plan) t.now_is) in
    record {
      intake = t.intake_now;
      there = collector_now before now set_now t;
      came = subst (λ (p : Plan). HasCome t.intake_now (streams_at solution (ports_of p (length p.nodes)))) plan
          (subst (λ (p : Plan). HasCome t.intake_now (streams_at solution (ports_of job.job.plan (length p.nodes)))) h.plan kept);
    }

pub taking_keeps : {laws : Laws} (job : LoggedJob laws) (solution : List (StreamPrefix Plain)) (taken : Bool) (set_old set_now : List (Option (Stamped Plain))) (before now : NetView) → StandsFor job before → Solves job solution → HasAllOutputs solution before
    → TakesOut taken set_old set_now before now → HasAllOutputs solution now
taking_keeps {laws} job solution true set_old set_now before now h solves all t = take_keeps job solution set_now before now h solves all t
taking_keeps {laws} job solution false set_old set_now before now h solves all t = subst (HasAllOutputs solution) (sym t.same) all

pub all_come_at_rest : {laws : Laws} (job : LoggedJob laws) (solution : List (StreamPrefix Plain)) (net : NetView) → StandsFor job net → IsRunning net → IsAtRest laws net → Solves job solution → HasAllOutputs solution net
all_come_at_rest {laws} job solution net h running rest solves =
    let long = (places net (record { job = job; stands = h })).1 in
    let it = found net.intakes (length net.plan.nodes) (omega (arith, long)) in
    record { intake = it.0; there = it.1; came = collector_comes job net solution it.0 h running rest solves it.1 }

-- And if there is no set to take any more, all sets were taken.
pub all_were_taken : {laws : Laws} (job : LoggedJob laws) (solution : List (StreamPrefix Plain)) (set_old set_now : List (Option (Stamped Plain))) (net now : NetView) → StandsFor job net → Solves job solution → HasAllOutputs solution net
    → TakesOut false set_old set_now net now → taken_out net ≡ length (settled_outputs net.plan solution)
all_were_taken {laws} job solution set_old set_now net now h solves all t =
    let same : all.intake ≡ t.intake = (let e : Some all.intake ≡ Some t.intake = sym all.there ∙ t.there in cc) in
    taken_by net t.intake t.there
    ∙ all_claimed job net solution t.intake h solves t.there (subst (λ (i : IntakeView). HasCome i (streams_at solution (ports_of net.plan (length net.plan.nodes)))) same all.came) t.none

-- At no time more are taken than the solution has.

sets_grow : (policy : Policy) (ss ts : List (StreamPrefix Plain)) → AreExtendedBy ss ts → length (settled_sets policy ss) ≤ length (settled_sets policy ts)
sets_grow policy ss ts e =
    let same = ap length (sets-stay policy ss ts e) in
    let cut = length-take (length (settled_sets policy ss)) (settled_sets policy ts) in
    omega (arith, same, cut)

few_claimed : {laws : Laws} (job : LoggedJob laws) (streams : List (StreamPrefix Plain)) (consumer claimed : ℕ) (waits : Pending) → HoldsWaits job streams consumer claimed waits → ¬ (law_of job.job.plan consumer ≡ Some Loopback)
    → claimed ≤ length (settled_sets (policy_of job.job.plan consumer) (streams_at streams (ports_of job.job.plan consumer)))
few_claimed {laws} job streams consumer claimed (Sets inbox) holds other =
    let h = holds.1 in
    let most = h.stands.gone.claimed in
    let grow = sets_grow inbox.policy h.came (streams_at streams (ports_of job.job.plan consumer)) h.extended in
    subst (λ (p : Policy). claimed ≤ length (settled_sets p (streams_at streams (ports_of job.job.plan consumer)))) h.policy (omega (arith, most, grow))
few_claimed {laws} job streams consumer claimed (Loop held) holds other = absurd (other holds.0)

pub few_taken : {laws : Laws} (job : LoggedJob laws) (solution : List (StreamPrefix Plain)) (net : NetView) → StandsFor job net → Solves job solution → taken_out net ≤ length (settled_outputs net.plan solution)
unfolding StandsFor
few_taken {laws} job solution net h solves =
    let last = length net.plan.nodes in
    let long = (places net (record { job = job; stands = h })).1 in
    let it = found net.intakes last (omega (arith, long)) in
    let holds = collector_holds job net solution it.0 h solves it.1 in
    let few = few_claimed job solution last it.0.claimed it.0.waits holds.0 holds.1 in
    let count = taken_by net it.0 it.1 in
    subst (λ (p : Plan). taken_out net ≤ length (settled_sets (policy_of p last) (streams_at solution (ports_of p last)))) (sym h.plan) (omega (arith, few, count))

-- The settled sets of the graph's outputs are those of the default policy.

same_streams : (streams : List (StreamPrefix Plain)) (numbers : List ℕ) → AllByRecursion (λ s. s < length streams) numbers → streams_at streams numbers ≡ inputs_of streams numbers
same_streams streams [] within = refl
same_streams streams (n ∷ numbers) within =
    ap₂ (λ (s : StreamPrefix Plain) (ss : List (StreamPrefix Plain)). s ∷ ss) (get_or_default streams n empty_prefix (closed empty_prefix) within.0) (same_streams streams numbers within.1)

pub outputs_by_default : {laws : Laws} (job : LoggedJob laws) (solution : List (StreamPrefix Plain)) → Solves job solution → settled_outputs job.job.plan solution ≡ settled_sets Default (inputs_of solution job.job.plan.outputs)
outputs_by_default {laws} job solution solves =
    let plan = job.job.plan in
    let last = length plan.nodes in
    let count : length solution ≡ length plan.streams = solution_has_each job.job (job_known job.job solves.is_job) solution solves.solution in
    let policy : policy_of plan last ≡ Default = ap (λ (o : Option PlanNode). unwrap_or (option_map (λ n. n.policy) o) Default) (slice_get_past plan.nodes last (omega arith)) in
    let shown : All (λ s. s < length solution) plan.outputs = subst (λ (n : ℕ). All (λ s. s < n) plan.outputs) (sym count) solves.is_job.plan.ranges.shown in
    ap₂ (λ (p : Policy) (ns : List ℕ). settled_sets p (streams_at solution ns)) policy (ports_of_collector plan)
    ∙ ap (settled_sets Default) (same_streams solution plan.outputs (recursion_from_All (λ s. s < length solution) plan.outputs shown))

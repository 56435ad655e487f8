-- What the collector of a net has still to give once it has got everything, as in a net at rest.
use Rattle.std.proofs.Common.{◌≡◌, ℕ, zero, suc, ◌+◌, ◌≤◌, List, [], ◌∷◌, length, Option, Some, None, option_map, slice_get, sym, ap, subst, ◌∙◌, arith}
use Rattle.std.specs.List.{AllZip}
use Rattle.std.proofs.lemmas.Option.{none-some, slice_get_past}
use Rattle.mg_value.specs.Payload.{Plain}
use Rattle.mg_value.specs.declared.policy.Policy.{Policy}
use Rattle.mg_settled.specs.Prefix.{StreamPrefix}
use Rattle.mg_settled.specs.Settled.{TimedSet, settled_sets}
use Rattle.mg_settled.proofs.Lemmas.{all_by_themselves}
use Rattle.mg_stream.specs.Queue.{Waiting, StandsFor as IsQueueOf}
use Rattle.mg_stream.specs.Pool.{queues_of}
use Rattle.mg_policy.specs.Inbox.{next_set, StandAfter}
use Rattle.mg_policy.proofs.Standing.{what_is_next}
use Rattle.mg_calc.specs.Rules.{Laws}
use Rattle.mg_calc.specs.declared.law.Law.TheVariants.{Loopback}
use Rattle.mg_calc.specs.declared.plan.Plan.{Plan}
use Rattle.mg_calc.specs.declared.plan_node.PlanNode.{PlanNode}
use Rattle.mg_calc.proofs.Solutions.{one_solution}
use Rattle.mg_node.specs.declared.pending.Pending.{Pending}
use Rattle.mg_node.specs.declared.pending.Pending.TheVariants.{Sets, Loop}
use Rattle.mg_node.specs.Views.{IntakeView}
use Rattle.mg_node.specs.Intakes.{next_set_of}
use Rattle.mg_node.specs.Job.{LoggedJob, Solves, ports_of, policy_of, law_of, streams_at}
use Rattle.mg_node.specs.Lawful.{HoldsWaits, LawfulIntake}
use Rattle.mg_node.specs.Resting.{HasCome}
use Rattle.mg_node.proofs.Lemmas.{all_stood_same, each_stands, get_drop}
use Rattle.mg_sched.specs.Views.{NetView}
use Rattle.mg_sched.specs.StandsFor.{StandsFor, IsRunning}
use Rattle.mg_sched.specs.AtRest.{IsAtRest}
use Rattle.mg_sched.specs.Taking.{collector_of, settled_outputs}
use Rattle.mg_sched.proofs.RestingNets.{rests_with_inputs}

-- what waits has the sets from a number on
record HasLeft (k : ℕ) (waits : Pending) (sets : List (TimedSet Plain)) : Type 0 where
  next : next_set_of waits ≡ slice_get sets k
  claimed : k ≤ length sets

next_after : (policy : Policy) (k : ℕ) (qs : List (Waiting Plain)) (ss : List (StreamPrefix Plain)) → StandAfter policy k qs ss → next_set policy qs ≡ slice_get (settled_sets policy ss) k
next_after policy k qs ss h =
    let none : k + 0 ≡ k = omega arith in
    ap (λ (es : List (TimedSet Plain)). slice_get es 0) (what_is_next policy k qs ss h) ∙ get_drop k (settled_sets policy ss) 0 ∙ ap (slice_get (settled_sets policy ss)) none

-- so it is if the streams came in whole
sets_left : {laws : Laws} (job : LoggedJob laws) (streams : List (StreamPrefix Plain)) (consumer claimed : ℕ) (waits : Pending) → HoldsWaits job streams consumer claimed waits → ¬ (law_of job.job.plan consumer ≡ Some Loopback)
    → HasCome (record { claimed = claimed; waits = waits }) (streams_at streams (ports_of job.job.plan consumer)) → HasLeft claimed waits (settled_sets (policy_of job.job.plan consumer) (streams_at streams (ports_of job.job.plan consumer)))
sets_left {laws} job streams consumer claimed (Sets inbox) holds other came =
    let h = holds.1 in
    let qs = queues_of inbox.pool in
    let ss = streams_at streams (ports_of job.job.plan consumer) in
    let each : AllZip IsQueueOf qs ss = each_stands inbox.pool.spare inbox.pool.ports ss came.ports came.stands in
    let same : h.came ≡ ss = all_stood_same (λ (q : Waiting Plain). q) qs h.came ss ss h.stands.each each h.extended (all_by_themselves ss) in
    let stands : StandAfter inbox.policy claimed qs ss = subst (StandAfter inbox.policy claimed qs) same h.stands in
    subst (λ (p : Policy). HasLeft claimed (Sets inbox) (settled_sets p ss)) h.policy (record { next = next_after inbox.policy claimed qs ss stands; claimed = stands.gone.claimed })
sets_left {laws} job streams consumer claimed (Loop held) holds other came = absurd (other holds.0)

-- the collector is no loopback
no_loop : (plan : Plan) → law_of plan (length plan.nodes) ≡ Some Loopback → ⊥
no_loop plan is = none-some Loopback (sym (ap (λ (o : Option PlanNode). option_map (λ n. n.law) o) (slice_get_past plan.nodes (length plan.nodes) (omega arith))) ∙ is)

-- if a list has nothing at a number, the number is no less than its length
none_past : {X : Type 0} (xs : List X) (k : ℕ) → slice_get xs k ≡ None → length xs ≤ k
none_past [] k none = omega arith
none_past (x ∷ xs) zero none = absurd (none-some x (sym none))
none_past (x ∷ xs) (suc k) none = (let rest = none_past xs k none in omega (arith, rest))

-- of a net's collector
pub collector_holds : {laws : Laws} (job : LoggedJob laws) (net : NetView) (solution : List (StreamPrefix Plain)) (intake : IntakeView) → StandsFor job net → Solves job solution → collector_of net ≡ Some intake
    → HoldsWaits job solution (length net.plan.nodes) intake.claimed intake.waits × ¬ (law_of job.job.plan (length net.plan.nodes) ≡ Some Loopback)
unfolding StandsFor LawfulIntake
collector_holds {laws} job net solution intake h solves there =
    let last : ℕ = length net.plan.nodes in
    let lawful = h.collector intake there in
    let same : lawful.streams ≡ solution = one_solution job.job lawful.streams solution lawful.solves.solution solves.solution in (
      subst (λ (ss : List (StreamPrefix Plain)). HoldsWaits job ss last intake.claimed intake.waits) same lawful.holds,
      subst (λ (p : Plan). ¬ (law_of p last ≡ Some Loopback)) h.plan (no_loop net.plan),
    )

collector_left : {laws : Laws} (job : LoggedJob laws) (net : NetView) (solution : List (StreamPrefix Plain)) (intake : IntakeView) → StandsFor job net → Solves job solution → collector_of net ≡ Some intake
    → HasCome intake (streams_at solution (ports_of net.plan (length net.plan.nodes))) → HasLeft intake.claimed intake.waits (settled_outputs net.plan solution)
unfolding StandsFor
collector_left {laws} job net solution intake h solves there came =
    let last : ℕ = length net.plan.nodes in
    let holds = collector_holds job net solution intake h solves there in
    subst (λ (p : Plan). HasLeft intake.claimed intake.waits (settled_sets (policy_of p last) (streams_at solution (ports_of p last)))) (sym h.plan)
    (sets_left job solution last intake.claimed intake.waits holds.0 holds.1
    (subst (λ (p : Plan). HasCome intake (streams_at solution (ports_of p last))) h.plan came))

-- if all has come and there is no next set, all sets are claimed
pub all_claimed : {laws : Laws} (job : LoggedJob laws) (net : NetView) (solution : List (StreamPrefix Plain)) (intake : IntakeView) → StandsFor job net → Solves job solution → collector_of net ≡ Some intake
    → HasCome intake (streams_at solution (ports_of net.plan (length net.plan.nodes))) → next_set_of intake.waits ≡ None → intake.claimed ≡ length (settled_outputs net.plan solution)
all_claimed {laws} job net solution intake h solves there came none =
    let left = collector_left job net solution intake h solves there came in
    let most = left.claimed in
    let past = none_past (settled_outputs net.plan solution) intake.claimed (sym left.next ∙ none) in
    omega (arith, most, past)

-- In a net at rest all has come.
pub collector_comes : {laws : Laws} (job : LoggedJob laws) (net : NetView) (solution : List (StreamPrefix Plain)) (intake : IntakeView) → StandsFor job net → IsRunning net → IsAtRest laws net → Solves job solution → collector_of net ≡ Some intake
    → HasCome intake (streams_at solution (ports_of net.plan (length net.plan.nodes)))
collector_comes {laws} job net solution intake h running rest solves there = rests_with_inputs job net solution (length net.plan.nodes) intake h running rest solves (omega arith) there

pub left_next : {laws : Laws} (job : LoggedJob laws) (net : NetView) (solution : List (StreamPrefix Plain)) (intake : IntakeView) → StandsFor job net → IsRunning net → IsAtRest laws net → Solves job solution → collector_of net ≡ Some intake
    → next_set_of intake.waits ≡ slice_get (settled_outputs net.plan solution) intake.claimed
left_next {laws} job net solution intake h running rest solves there = (collector_left job net solution intake h solves there (collector_comes job net solution intake h running rest solves there)).next

pub left_all : {laws : Laws} (job : LoggedJob laws) (net : NetView) (solution : List (StreamPrefix Plain)) (intake : IntakeView) → StandsFor job net → IsRunning net → IsAtRest laws net → Solves job solution → collector_of net ≡ Some intake
    → next_set_of intake.waits ≡ None → intake.claimed ≡ length (settled_outputs net.plan solution)
left_all {laws} job net solution intake h running rest solves there none = all_claimed job net solution intake h solves there (collector_comes job net solution intake h running rest solves there) none

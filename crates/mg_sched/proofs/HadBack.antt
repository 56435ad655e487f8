-- What a net that came to rest and was wound up gives back. The calculator of a node has had all its calls. A calculator that no node uses
-- is as it lay.
use Rattle.std.proofs.Common.{◌≡◌, ℕ, ◌<◌, is_some, List, length, All, Option, Some, None, slice_get, ap, sym, refl, subst, ◌∙◌, arith}
use Rattle.std.proofs.lemmas.List.{map-id}
use Rattle.std.proofs.lemmas.Option.{slice_get_within}
use Rattle.mg_value.specs.Payload.{Plain}
use Rattle.mg_settled.specs.Prefix.{StreamPrefix}
use Rattle.mg_calc.specs.Rules.{Laws}
use Rattle.mg_calc.specs.declared.plan.Plan.{Plan}
use Rattle.mg_calc.specs.declared.plan_node.PlanNode.{PlanNode}
use Rattle.mg_calc.specs.Shape.{IsOuter}
use Rattle.mg_calc.specs.Told.{BoxTold}
use Rattle.mg_node.specs.Views.{EngineView}
use Rattle.mg_node.specs.Job.{LoggedJob, Solves}
use Rattle.mg_node.specs.Had.{HadCalls}
use Rattle.mg_node.specs.Leaving.{first_handed}
use Rattle.mg_node.proofs.Lemmas.{at_each as at_node, had_calls}
use Rattle.mg_sched.specs.Views.{WorkQueueView, NetView}
use Rattle.mg_sched.specs.StandsFor.{StandsFor, IsRunning}
use Rattle.mg_sched.specs.AtRest.{IsAtRest}
use Rattle.mg_sched.specs.Taking.{LeavesNodes}
use Rattle.mg_sched.specs.Reports.{report_of}
use Rattle.mg_sched.specs.WindsUp.{WindsUpNet}
use Rattle.mg_sched.specs.GivesBack.{on_work_queue, or_else, cell_told, given_back, StoodFor}
use Rattle.mg_sched.proofs.Finding.{found, read_at}
use Rattle.mg_sched.proofs.RestingNets.{has_node}
use Rattle.mg_sched.proofs.CountedBack.{KnowsBack, knows_standing, knows_wound, knows_back, counted, own_back, unused_back}

-- Nets whose nodes are left as they are.

pub left_itself : (net : NetView) → LeavesNodes net net
left_itself net = refl

pub left_further : (before between now : NetView) → LeavesNodes before between → LeavesNodes between now → LeavesNodes before now
left_further before between now first second = second ∙ ap (λ (v : NetView). (let w : NetView = record v { intakes = now.intakes; limits = now.limits } in w)) first

pub left_report : (before now : NetView) → LeavesNodes before now → report_of now ≡ report_of before
left_report before now left = ap report_of left

knows_left : {laws : Laws} (job : LoggedJob laws) (before now : NetView) → LeavesNodes before now → KnowsBack job before → KnowsBack job now
knows_left {laws} job before now left k = subst (KnowsBack job) (sym left) (record {
  is_job = k.is_job;
  plan = k.plan;
  spare = k.spare;
  gives = λ number node there boxed.
      let g = k.gives number node there boxed in
      (g.0, g.1, record { at = g.2.at; on = g.2.on; gives = g.2.gives });
})

-- The calculator of a node.

-- what the node's cell has is what lies in its place
in_place : {laws : Laws} (job : LoggedJob laws) (solution : List (StreamPrefix Plain)) (node : PlanNode) (engine : EngineView) (work_queue : WorkQueueView) (found_there : Option BoxTold)
    → (told : BoxTold) × (first_handed engine ≡ Some told) × HadCalls job solution node told → found_there ≡ cell_told engine work_queue → (told : BoxTold) × (found_there ≡ Some told) × HadCalls job solution node told
in_place {laws} job solution node engine work_queue found_there had is = (had.0, is ∙ ap (λ (o : Option BoxTold). or_else o (on_work_queue work_queue)) had.1, had.2)

pub used_back : {laws : Laws} (job : LoggedJob laws) (rested net wound : NetView) (solution : List (StreamPrefix Plain)) (number place : ℕ) (node : PlanNode) → StandsFor job rested → IsRunning rested → IsAtRest laws rested → Solves job solution
    → LeavesNodes rested net → WindsUpNet laws net wound → wound.wound ≡ length net.plan.nodes → slice_get net.plan.nodes number ≡ Some node → node.box_number ≡ Some place → IsOuter node.law
    → (told : BoxTold) × (slice_get (given_back wound) place ≡ Some told) × HadCalls job solution node told
unfolding StandsFor
used_back {laws} job rested net wound solution number place node h running rest solves left w all there boxed outer =
    let plan_is : net.plan ≡ rested.plan = ap (λ (v : NetView). v.plan) left in
    let there_too : slice_get rested.plan.nodes number ≡ Some node = subst (λ (p : Plan). slice_get p.nodes number ≡ Some node) plan_is there in
    let within = slice_get_within rested.plan.nodes number node there_too in
    let below = slice_get_within net.plan.nodes number node there in
    let engines = h.engines in
    let work_queues = h.work_queues in
    let g = found rested.engines number (omega (arith, within, engines)) in
    let d = found rested.work_queues number (omega (arith, within, work_queues)) in
    let n = has_node job rested solution number node g.0 h running rest solves there_too g.1 in
    let at : slice_get net.engines number ≡ Some g.0 = subst (λ (es : List EngineView). slice_get es number ≡ Some g.0) (sym (ap (λ (v : NetView). v.engines) left)) g.1 in
    let long = slice_get_within net.engines number g.0 at in
    let wound_engines = w.places in
    let e = found wound.engines number (omega (arith, long, wound_engines)) in
    let none : net.wound ≡ 0 = ap (λ (v : NetView). v.wound) left ∙ h.not_wound in
    let winds = w.wound_up number g.0 e.0 (omega (arith, none)) (omega (arith, below, all)) at e.1 in
    let had : (told : BoxTold) × (first_handed e.0 ≡ Some told) × HadCalls job solution node told = had_calls job number node g.0 e.0 n.intake solution solves n.there (ap is_some boxed) outer n.lawful_engine n.lawful_intake n.agree n.rests n.came winds in
    let knows = knows_wound job net wound (knows_left job rested net left (knows_standing job rested h)) w in
    let there_wound : slice_get wound.plan.nodes number ≡ Some node = subst (λ (p : Plan). slice_get p.nodes number ≡ Some node) (sym (ap (λ (v : NetView). v.plan) w.parts)) there in
    let same_work_queues : wound.work_queues ≡ rested.work_queues = ap (λ (v : NetView). v.work_queues) w.parts ∙ ap (λ (v : NetView). v.work_queues) left in
    let on : slice_get wound.work_queues number ≡ Some d.0 = subst (λ (ds : List WorkQueueView). slice_get ds number ≡ Some d.0) (sym same_work_queues) d.1 in
    in_place job solution node e.0 d.0 (slice_get (given_back wound) place) had (own_back (given_back wound) job wound number place node e.0 d.0 refl knows there_wound boxed e.1 on).0

-- All user-supplied calculators come back.
pub count_back : {laws : Laws} (job : LoggedJob laws) (net : NetView) → StoodFor job net → length (given_back net) ≡ length job.boxes
count_back {laws} job net stood = counted (λ (t : BoxTold). t) (given_back net) job net (map-id (given_back net)) (knows_back job net stood)

-- A calculator that no node uses is as it lay, and it lies there.
pub unused_is_back : {laws : Laws} (job : LoggedJob laws) (net : NetView) (place : ℕ) (told : BoxTold) → StoodFor job net → slice_get net.spare place ≡ Some (Some told) → slice_get (given_back net) place ≡ Some told
unused_is_back {laws} job net place told stood lies = unused_back (given_back net) job net place told refl (knows_back job net stood) lies

pub unused_lies : {laws : Laws} (job : LoggedJob laws) (net : NetView) (place : ℕ) → StandsFor job net → place < length job.boxes → All (λ n. ¬ (n.box_number ≡ Some place)) net.plan.nodes → (told : BoxTold) × (slice_get net.spare place ≡ Some (Some told))
unfolding StandsFor
unused_lies {laws} job net place h less unused =
    let count = h.spare.count in
    let it = found net.spare place (omega (arith, less, count)) in
    lies it.0 it.1
  where
    lies : (o : Option BoxTold) → slice_get net.spare place ≡ Some o → (told : BoxTold) × (slice_get net.spare place ≡ Some (Some told))
    lies None at =
        let u = h.spare.used place at in
        let theirs : slice_get job.job.plan.nodes u.0 ≡ Some u.1 = read_at job.job.plan.nodes u.0 u.1 u.2 (sym u.3) in
        let there : slice_get net.plan.nodes u.0 ≡ Some u.1 = subst (λ (plan : Plan). slice_get plan.nodes u.0 ≡ Some u.1) (sym h.plan) theirs in
        absurd (at_node (λ (n : PlanNode). ¬ (n.box_number ≡ Some place)) net.plan.nodes u.0 u.1 unused there u.4)
    lies (Some told) at = (told, at)

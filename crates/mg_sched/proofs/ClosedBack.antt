-- What a net gives back that was wound up with no work in a work queue: no calculator is left open.
use Rattle.std.proofs.Common.{◌≡◌, ℕ, is_some, List, [], length, map, Option, Some, None, slice_get, ap, sym, refl, subst, ◌∙◌, arith}
use Rattle.std.specs.List.{filter_map}
use Rattle.std.proofs.lemmas.Option.{slice_get_within}
use Rattle.mg_value.specs.Payload.{Plain}
use Rattle.mg_settled.specs.Prefix.{StreamPrefix}
use Rattle.mg_calc.specs.Rules.{Laws}
use Rattle.mg_calc.specs.declared.plan.Plan.{Plan}
use Rattle.mg_calc.specs.declared.plan_node.PlanNode.{PlanNode}
use Rattle.mg_calc.specs.Shape.{IsOuter}
use Rattle.mg_calc.specs.Told.{BoxTold}
use Rattle.mg_node.specs.Views.{WorkView, EngineView}
use Rattle.mg_node.specs.Job.{LoggedJob, Solves}
use Rattle.mg_node.specs.Lawful.{of_node, LawfulEngine}
use Rattle.mg_node.specs.Leaving.{handed_told, first_handed}
use Rattle.mg_node.specs.WindingUp.{WindsUp}
use Rattle.mg_node.specs.Had.{HadClose}
use Rattle.mg_node.proofs.Lemmas.{wound_closed}
use Rattle.mg_sched.specs.Views.{WorkQueueView, NetView}
use Rattle.mg_sched.specs.StandsFor.{StandsFor, IsRunning}
use Rattle.mg_sched.specs.ComesApart.{NoneOnWorkQueues}
use Rattle.mg_sched.specs.WindsUp.{WindsUpNet}
use Rattle.mg_sched.specs.GivesBack.{on_work_queue, or_else, cell_told, given_back}
use Rattle.mg_sched.proofs.Finding.{cell_at, found}
use Rattle.mg_sched.proofs.FrontsBack.{given_at}
use Rattle.mg_sched.proofs.CountedBack.{knows_standing, knows_wound, own_back}

-- the calculator of a cell stands in the cell's engine, if nothing lies in the cell's work queue
in_engine : (engine : EngineView) (work_queue : WorkQueueView) (told : BoxTold) (o : Option BoxTold) → work_queue.works ≡ [] → first_handed engine ≡ o → or_else o (on_work_queue work_queue) ≡ Some told → first_handed engine ≡ Some told
in_engine engine work_queue told None none is has =
    absurd (let clash : None ≡ Some told = sym (ap (λ (ws : List WorkView). slice_get (filter_map handed_told (map (λ (w : WorkView). w.context.told) ws)) 0) none) ∙ has in cc)
in_engine engine work_queue told (Some t) none is has = is ∙ has

pub closed_back : {laws : Laws} (job : LoggedJob laws) (net wound : NetView) (solution : List (StreamPrefix Plain)) (number place : ℕ) (node : PlanNode) → StandsFor job net → IsRunning net → NoneOnWorkQueues net → WindsUpNet laws net wound → wound.wound ≡ length net.plan.nodes
    → Solves job solution → slice_get net.plan.nodes number ≡ Some node → node.box_number ≡ Some place → IsOuter node.law → (told : BoxTold) × (slice_get (given_back wound) place ≡ Some told) × HadClose job solution node told
unfolding StandsFor
closed_back {laws} job net wound solution number place node h running none w all solves there boxed outer =
    let within = slice_get_within net.plan.nodes number node there in
    let engines = h.engines in
    let intakes = h.intakes in
    let work_queues = h.work_queues in
    let places = w.places in
    let g = found net.engines number (omega (arith, within, engines)) in
    let i = found net.intakes number (omega (arith, within, intakes)) in
    let d = found net.work_queues number (omega (arith, within, work_queues)) in
    let e = found wound.engines number (omega (arith, within, engines, places)) in
    let not_wound = h.not_wound in
    let winds : WindsUp laws g.0 e.0 = w.wound_up number g.0 e.0 (omega (arith, not_wound)) (omega (arith, within, all)) g.1 e.1 in
    let lawful : LawfulEngine job (of_node number) g.0 = (cell_at job net number g.0 i.0 d.0 h running within g.1 i.1 d.1).lawful_engine in
    let plan : wound.plan ≡ net.plan = ap (λ (v : NetView). v.plan) w.parts in
    let on : slice_get wound.work_queues number ≡ Some d.0 = ap (λ (ds : List WorkQueueView). slice_get ds number) (ap (λ (v : NetView). v.work_queues) w.parts) ∙ d.1 in
    let there_wound : slice_get wound.plan.nodes number ≡ Some node = ap (λ (p : Plan). slice_get p.nodes number) plan ∙ there in
    let theirs : slice_get job.job.plan.nodes number ≡ Some node = subst (λ (p : Plan). slice_get p.nodes number ≡ Some node) h.plan there in
    let back = own_back (given_back wound) job wound number place node e.0 d.0 refl (knows_wound job net wound (knows_standing job net h) w) there_wound boxed e.1 on in
    given_at (HadClose job solution node) (slice_get (given_back wound) place) (cell_told e.0 d.0) back.0 back.1
    (λ told has. wound_closed job number node g.0 e.0 solution told solves theirs (ap is_some boxed) outer lawful winds (in_engine e.0 d.0 told (first_handed e.0) (none number d.0 d.1) refl has))

-- What a net gives back whenever its run ends: the calculator of a node with a prefix of its calls.
use Rattle.std.proofs.Common.{◌≡◌, ◌⊎◌, inl, inr, ℕ, zero, suc, ◌<◌, ◌≤◌, Bool, true, false, nat_lt, is_some, List, [], ◌∷◌, length, map, Option, Some, None, slice_get, ap, sym, refl, subst, ◌∙◌, arith}
use Rattle.std.specs.List.{filter_map, cons_option}
use Rattle.std.proofs.lemmas.Option.{same_Some, slice_get_within}
use Rattle.mg_value.specs.Payload.{Plain}
use Rattle.mg_settled.specs.Prefix.{StreamPrefix}
use Rattle.mg_calc.specs.Rules.{Laws}
use Rattle.mg_calc.specs.Told.{BoxTold}
use Rattle.mg_calc.specs.Shape.{IsOuter}
use Rattle.mg_calc.specs.Equations.{sides_of}
use Rattle.mg_calc.specs.declared.plan.Plan.{Plan}
use Rattle.mg_calc.specs.declared.plan_node.PlanNode.{PlanNode}
use Rattle.mg_route.specs.HolderView.{told_by}
use Rattle.mg_node.specs.Views.{IntakeView, WorkView, EngineView}
use Rattle.mg_node.specs.Job.{LoggedJob, Solves}
use Rattle.mg_node.specs.Lawful.{of_node, LawfulWork, LawfulEngine}
use Rattle.mg_node.specs.Begun.{IsUnbegun, IsUnbegunOf, LawfulUnbegun}
use Rattle.mg_node.specs.Batches.{Grows}
use Rattle.mg_node.specs.Shelves.{IsOut}
use Rattle.mg_node.specs.Leaving.{handed_told, first_handed, HasHanded}
use Rattle.mg_node.specs.WindingUp.{lacks_close, WindsUp}
use Rattle.mg_node.specs.Had.{HadFront}
use Rattle.mg_node.proofs.Lemmas.{at_each as at_node, engine_front, engine_known, engine_stays, handed_there, unbegun_front, unbegun_stays, work_out_front, work_stays, wound_front}
use Rattle.mg_sched.specs.Views.{WorkQueueView, NetView}
use Rattle.mg_sched.specs.StandsFor.{IsCell, StandsFor}
use Rattle.mg_sched.specs.WindsUp.{WindsUpNet}
use Rattle.mg_sched.specs.GivesBack.{on_work_queue, or_else, cell_told, given_back, StoodFor}
use Rattle.mg_sched.proofs.Finding.{found}
use Rattle.mg_sched.proofs.WoundNets.{order_of}
use Rattle.mg_sched.proofs.CountedBack.{knows_back, own_back}

-- What is lawful for a job is so for that of more lines.

abbrev IsLater : {laws : Laws} → LoggedJob laws → LoggedJob laws → Type 0
IsLater {laws} job later = (later ≡ job) ⊎ Grows job later

engine_later : {laws : Laws} (job later : LoggedJob laws) (number : ℕ) (engine : EngineView) → IsLater job later → LawfulEngine job (of_node number) engine → LawfulEngine later (of_node number) engine
engine_later {laws} job later number engine (inl same) h = subst (λ (j : LoggedJob laws). LawfulEngine j (of_node number) engine) (sym same) h
engine_later {laws} job later number engine (inr grows) h = engine_stays job later number engine grows h

unbegun_later : {laws : Laws} (job later : LoggedJob laws) (number : ℕ) (engine : EngineView) → IsLater job later → LawfulUnbegun job number engine → LawfulUnbegun later number engine
unbegun_later {laws} job later number engine (inl same) h = subst (λ (j : LoggedJob laws). LawfulUnbegun j number engine) (sym same) h
unbegun_later {laws} job later number engine (inr grows) h = unbegun_stays job later number engine grows h

work_later : {laws : Laws} (job later : LoggedJob laws) (work : WorkView) → IsLater job later → LawfulWork job work → LawfulWork later work
work_later {laws} job later work (inl same) h = subst (λ (j : LoggedJob laws). LawfulWork j work) (sym same) h
work_later {laws} job later work (inr grows) h = work_stays job later work grows h

plan_later : {laws : Laws} (job later : LoggedJob laws) → IsLater job later → later.job.plan ≡ job.job.plan
plan_later {laws} job later (inl same) = ap (λ (j : LoggedJob laws). j.job.plan) same
plan_later {laws} job later (inr grows) = grows.plan

-- The one that lies first in a work queue is there with a work.

record LiesWith (works : List WorkView) (told : BoxTold) : Type 0 where
  place : ℕ
  work : WorkView
  at : slice_get works place ≡ Some work
  handed : handed_told work.context.told ≡ Some told

abbrev first_on : List WorkView → Option BoxTold
first_on works = slice_get (filter_map handed_told (map (λ (w : WorkView). w.context.told) works)) 0

lies_first : (w : WorkView) (works : List WorkView) (told : BoxTold) (o : Option BoxTold) → handed_told w.context.told ≡ o → (first_on works ≡ Some told → LiesWith works told)
    → slice_get (cons_option o (filter_map handed_told (map (λ (v : WorkView). v.context.told) works))) 0 ≡ Some told → LiesWith (w ∷ works) told
lies_first w works told None is rest found = (let r = rest found in record { place = suc r.place; work = r.work; at = r.at; handed = r.handed })
lies_first w works told (Some t) is rest found = record { place = zero; work = w; at = refl; handed = is ∙ found }

lies_with : (works : List WorkView) (told : BoxTold) → first_on works ≡ Some told → LiesWith works told
lies_with [] told found = absurd cc
lies_with (w ∷ works) told found = lies_first w works told (handed_told w.context.told) refl (lies_with works told) found

-- The calculator of a cell.

-- a node that isn't begun isn't wound up
not_wound : {laws : Laws} (job : LoggedJob laws) (number : ℕ) (engine : EngineView) → LawfulUnbegun job number engine → lacks_close engine ≡ false
unfolding LawfulUnbegun
not_wound {laws} job number engine lawful =
    let h : IsUnbegunOf job number engine = lawful in
    let unbegun : IsUnbegun laws h.node number h.told (sides_of job.job h.node) engine = h.unbegun in
    elim unbegun [
      | inl fresh ↦ ap lacks_close fresh
      | inr o ↦ ap lacks_close o.is
    ]

unbegun_front_of : {laws : Laws} (later : LoggedJob laws) (number : ℕ) (node : PlanNode) (engine now : EngineView) (work_queue : WorkQueueView) (solution : List (StreamPrefix Plain)) (told : BoxTold) → Solves later solution → slice_get later.job.plan.nodes number ≡ Some node
    → is_some node.box_number ≡ true → IsOuter node.law → LawfulUnbegun later number engine → now ≡ engine → cell_told now work_queue ≡ Some told → HadFront later solution node told
unbegun_front_of {laws} later number node engine now work_queue solution told solves there boxed outer lawful same has =
    let h : HasHanded later number node engine = handed_there later number node engine lawful there boxed in
    let here : first_handed engine ≡ Some (told_by h.held) = ap (λ (ts : List BoxTold). slice_get ts 0) h.found in
    let is : Some (told_by h.held) ≡ Some told =
    ap (λ (o : Option BoxTold). or_else o (on_work_queue work_queue)) (sym here) ∙ ap (λ (v : EngineView). cell_told v work_queue) (sym same) ∙ has in
    unbegun_front later number node engine solution told solves there boxed outer lawful (here ∙ is)

begun_front_of : {laws : Laws} (later : LoggedJob laws) (number : ℕ) (node : PlanNode) (engine now : EngineView) (work_queue : WorkQueueView) (solution : List (StreamPrefix Plain)) (told : BoxTold) (o : Option BoxTold) → Solves later solution
    → slice_get later.job.plan.nodes number ≡ Some node → is_some node.box_number ≡ true → IsOuter node.law → LawfulEngine later (of_node number) engine
    → ((place : ℕ) (work : WorkView) → slice_get work_queue.works place ≡ Some work → LawfulWork later work × IsOut engine work) → (now ≡ engine) ⊎ WindsUp laws engine now
    → first_handed now ≡ o → or_else o (on_work_queue work_queue) ≡ Some told → HadFront later solution node told
begun_front_of {laws} later number node engine now work_queue solution told None solves there boxed outer lawful works wound is has =
    let lies = lies_with work_queue.works told has in
    let work = works lies.place lies.work lies.at in
    let known = (engine_known later number engine node lawful there).set_up.number_is in
    work_out_front later number node engine lies.work solution told solves there boxed outer lawful work.0 (work.1.node_is ∙ known) work.1 lies.handed
begun_front_of {laws} later number node engine now work_queue solution told (Some t) solves there boxed outer lawful works (inl same) is has =
    engine_front later number node engine solution told solves there boxed outer lawful (ap first_handed (sym same) ∙ is ∙ has)
begun_front_of {laws} later number node engine now work_queue solution told (Some t) solves there boxed outer lawful works (inr winds) is has =
    wound_front later number node engine now solution told solves there boxed outer lawful winds (is ∙ has)

cell_front : {laws : Laws} (job later : LoggedJob laws) (begun : Bool) (number : ℕ) (node : PlanNode) (engine now : EngineView) (intake : IntakeView) (work_queue : WorkQueueView) (solution : List (StreamPrefix Plain)) (told : BoxTold) → IsLater job later → Solves later solution
    → slice_get later.job.plan.nodes number ≡ Some node → is_some node.box_number ≡ true → IsOuter node.law → IsCell job begun number engine intake work_queue → (now ≡ engine) ⊎ WindsUp laws engine now → cell_told now work_queue ≡ Some told → HadFront later solution node told
cell_front {laws} job later false number node engine now intake work_queue solution told since solves there boxed outer c wound has =
    let lawful = unbegun_later job later number engine since c.lawful_engine in
    let same : now ≡ engine = elim wound [ inl is ↦ is | inr w ↦ w.had_close (not_wound job number engine c.lawful_engine) ] in
    unbegun_front_of later number node engine now work_queue solution told solves there boxed outer lawful same has
cell_front {laws} job later true number node engine now intake work_queue solution told since solves there boxed outer c wound has =
    begun_front_of later number node engine now work_queue solution told (first_handed now) solves there boxed outer (engine_later job later number engine since c.lawful_engine)
    (λ place work at. (work_later job later work since (at_node (LawfulWork job) work_queue.works place work c.works.lawful at), at_node (IsOut engine) work_queue.works place work c.works.out at)) wound refl has

-- Nets.

-- the parts of a node in a net that stands for a job
record HasCell {laws : Laws} (job : LoggedJob laws) (net : NetView) (number : ℕ) : Type 0 where
  begun : Bool
  engine : EngineView
  intake : IntakeView
  work_queue : WorkQueueView
  is_cell : IsCell job begun number engine intake work_queue
  at : slice_get net.engines number ≡ Some engine
  on : slice_get net.work_queues number ≡ Some work_queue

has_cell : {laws : Laws} (job : LoggedJob laws) (net : NetView) (number : ℕ) → StandsFor job net → number < length net.plan.nodes → HasCell job net number
unfolding StandsFor
has_cell {laws} job net number h within =
    let engines = h.engines in let intakes = h.intakes in let work_queues = h.work_queues in
    let e = found net.engines number (omega (arith, within, engines)) in
    let i = found net.intakes number (omega (arith, within, intakes)) in
    let d = found net.work_queues number (omega (arith, within, work_queues)) in
    record { begun = nat_lt number net.begun; engine = e.0; intake = i.0; work_queue = d.0; is_cell = h.cells number e.0 i.0 d.0 e.1 i.1 d.1; at = e.1; on = d.1 }

-- its engine, and what became of it since
record HasSince (laws : Laws) (net : NetView) (number : ℕ) (engine : EngineView) : Type 0 where
  now : EngineView
  at : slice_get net.engines number ≡ Some now
  since : (now ≡ engine) ⊎ WindsUp laws engine now

engine_since : {laws : Laws} (before net : NetView) (number : ℕ) (engine now : EngineView) → WindsUpNet laws before net → slice_get before.engines number ≡ Some engine → slice_get net.engines number ≡ Some now → (number < before.wound) ⊎ (before.wound ≤ number)
    → (number < net.wound) ⊎ (net.wound ≤ number) → (now ≡ engine) ⊎ WindsUp laws engine now
engine_since {laws} before net number engine now w at now_at (inl early) upto = inl (same_Some now engine (sym now_at ∙ w.had_been number early ∙ at))
engine_since {laws} before net number engine now w at now_at (inr from) (inl upto) = inr (w.wound_up number engine now from upto at now_at)
engine_since {laws} before net number engine now w at now_at (inr from) (inr past) = inl (same_Some now engine (sym now_at ∙ w.others number past ∙ at))

since_then : {laws : Laws} (before net : NetView) (number : ℕ) (engine : EngineView) → (net ≡ before) ⊎ WindsUpNet laws before net → slice_get before.engines number ≡ Some engine → HasSince laws net number engine
since_then {laws} before net number engine (inl same) at = record { now = engine; at = subst (λ (v : NetView). slice_get v.engines number ≡ Some engine) (sym same) at; since = inl refl }
since_then {laws} before net number engine (inr w) at =
    let within = slice_get_within before.engines number engine at in
    let places = w.places in
    let e = found net.engines number (omega (arith, within, places)) in
    record { now = e.0; at = e.1; since = engine_since before net number engine e.0 w at e.1 (order_of number before.wound) (order_of number net.wound) }

plan_since : {laws : Laws} (before net : NetView) → (net ≡ before) ⊎ WindsUpNet laws before net → net.plan ≡ before.plan
plan_since {laws} before net (inl same) = ap (λ (v : NetView). v.plan) same
plan_since {laws} before net (inr w) = ap (λ (v : NetView). v.plan) w.parts

work_queues_since : {laws : Laws} (before net : NetView) → (net ≡ before) ⊎ WindsUpNet laws before net → net.work_queues ≡ before.work_queues
work_queues_since {laws} before net (inl same) = ap (λ (v : NetView). v.work_queues) same
work_queues_since {laws} before net (inr w) = ap (λ (v : NetView). v.work_queues) w.parts

pub given_at : (P : BoxTold → Type 0) (there o : Option BoxTold) → there ≡ o → is_some o ≡ true → ((told : BoxTold) → o ≡ Some told → P told) → (told : BoxTold) × (there ≡ Some told) × P told
given_at P there None is some front = absurd cc
given_at P there (Some told) is some front = (told, is, front told refl)

pub front_back : {laws : Laws} (job later : LoggedJob laws) (net : NetView) (solution : List (StreamPrefix Plain)) (number place : ℕ) (node : PlanNode) → StoodFor job net → (later ≡ job) ⊎ Grows job later → Solves later solution
    → slice_get net.plan.nodes number ≡ Some node → node.box_number ≡ Some place → IsOuter node.law → (told : BoxTold) × (slice_get (given_back net) place ≡ Some told) × HadFront later solution node told
front_back {laws} job later net solution number place node stood more solves there boxed outer =
    let knows = knows_back job net stood in
    let there_before : slice_get stood.before.plan.nodes number ≡ Some node = subst (λ (p : Plan). slice_get p.nodes number ≡ Some node) (plan_since stood.before net stood.since) there in
    let c = has_cell job stood.before number stood.stands (slice_get_within stood.before.plan.nodes number node there_before) in
    let e = since_then stood.before net number c.engine stood.since c.at in
    let on : slice_get net.work_queues number ≡ Some c.work_queue = subst (λ (ds : List WorkQueueView). slice_get ds number ≡ Some c.work_queue) (sym (work_queues_since stood.before net stood.since)) c.on in
    let back = own_back (given_back net) job net number place node e.now c.work_queue refl knows there boxed e.at on in
    let theirs : slice_get later.job.plan.nodes number ≡ Some node = subst (λ (p : Plan). slice_get p.nodes number ≡ Some node) (knows.plan ∙ sym (plan_later job later more)) there in
    given_at (HadFront later solution node) (slice_get (given_back net) place) (cell_told e.now c.work_queue) back.0 back.1
    (λ told has. cell_front job later c.begun number node c.engine e.now c.intake c.work_queue solution told more solves theirs (ap is_some boxed) outer c.is_cell e.since has)

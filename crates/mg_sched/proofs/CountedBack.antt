-- A net that stands for a job gives back all user-supplied calculators.
use Rattle.std.proofs.Common.{◌≡◌, ◌⊎◌, inl, inr, ℕ, zero, suc, ◌<◌, ◌≤◌, Bool, true, false, nat_lt, is_some, if◌then◌else◌, List, [], ◌∷◌, ◌++◌, length, map, set, get_or, All, Option, Some, None, IfSome, slice_get, ap, sym, refl, subst, ◌∙◌, arith}
use Rattle.std.specs.List.{filter_map, cons_option}
use Rattle.std.proofs.lemmas.Option.{same_Some, slice_get_within}
use Rattle.std.proofs.lemmas.List.{length-map}
use Rattle.mg_calc.specs.Rules.{Laws}
use Rattle.mg_calc.specs.Told.{BoxTold}
use Rattle.mg_calc.specs.declared.plan.Plan.{Plan}
use Rattle.mg_calc.specs.Plan.{IsValid}
use Rattle.mg_calc.specs.Equations.{IsJob}
use Rattle.mg_calc.specs.declared.plan_node.PlanNode.{PlanNode}
use Rattle.mg_route.specs.HolderView.{HolderView, told_by}
use Rattle.mg_calc.specs.declared.node_fault.Phase.{Phase}
use Rattle.mg_node.specs.Views.{IntakeView, ContextView, WorkView, EntryView, OutcomeView, EngineView}
use Rattle.mg_node.specs.Job.{LoggedJob}
use Rattle.mg_node.specs.Lawful.{LawfulWork}
use Rattle.mg_node.specs.Leaving.{calculator_in, handed_told, handed_in, first_handed}
use Rattle.mg_node.specs.WindingUp.{lacks_close, FinishesLast, FinishesBack, FinishesEntry, FinishesFirst, FinishesFront, WindsUp}
use Rattle.mg_node.proofs.Lemmas.{at_each as at_node, calculator_there, engine_known, get_other, handed_there, held_after}
use Rattle.mg_sched.specs.Views.{WorkQueueView, NetView}
use Rattle.mg_sched.specs.StandsFor.{IsCell, HasSpare, StandsFor}
use Rattle.mg_sched.specs.WindsUp.{WindsUpNet}
use Rattle.mg_sched.specs.GivesBack.{on_work_queue, or_else, cell_told, with_told, with_cells, given_back, StoodFor}
use Rattle.mg_sched.proofs.Finding.{found, read_at, put_here}
use Rattle.mg_sched.proofs.HandedOut.{none_twice}
use Rattle.mg_sched.proofs.WoundNets.{order_of}
use Rattle.mg_sched.proofs.GivenBack.{told_long, cells_long}

-- Cells.

-- the work of a node that is handed a calculator has it
work_handed : {laws : Laws} (job : LoggedJob laws) (number : ℕ) (node : PlanNode) (w : WorkView) → LawfulWork job w → w.node ≡ number → slice_get job.job.plan.nodes number ≡ Some node → is_some node.box_number ≡ true → w.context.told.handed ≡ true
unfolding LawfulWork
work_handed {laws} job number node w h same there boxed =
    let is : h.node ≡ node = same_Some h.node node (sym h.there ∙ ap (λ (k : ℕ). slice_get job.job.plan.nodes k) same ∙ there) in
    h.fits.same_handed ∙ ap (λ (n : PlanNode). is_some n.box_number) is ∙ boxed

first_handed_on : (works : List WorkView) → 0 < length works → All (λ (w : WorkView). w.context.told.handed ≡ true) works → is_some (slice_get (filter_map handed_told (map (λ (w : WorkView). w.context.told) works)) 0) ≡ true
first_handed_on [] some all = absurd (omega (arith, some))
first_handed_on (w ∷ works) some all =
    ap (λ (b : Bool). is_some (slice_get (cons_option (if b then Some (told_by w.context.told) else None) (filter_map handed_told (map (λ (v : WorkView). v.context.told) works))) 0)) (all 0 w (omega arith))

-- no entry is out, or one is
record SomeOut (window : List EntryView) : Type 0 where
  place : ℕ
  entry : EntryView
  at : slice_get window place ≡ Some entry
  out : entry.outcome ≡ None

abbrev NoneOutIn : List EntryView → Type 0
NoneOutIn window = (k : ℕ) (d : EntryView) → k < length window → is_some (get_or window k d).outcome ≡ true

none_first : (e : EntryView) (window : List EntryView) → is_some e.outcome ≡ true → NoneOutIn window → NoneOutIn (e ∷ window)
none_first e window first none zero d less = first
none_first e window first none (suc k) d less = none k d (omega (arith, less))

out_first : (e : EntryView) (window : List EntryView) (o : Option OutcomeView) → e.outcome ≡ o → SomeOut window ⊎ NoneOutIn window → SomeOut (e ∷ window) ⊎ NoneOutIn (e ∷ window)
out_first e window None is rest = inl (record { place = zero; entry = e; at = refl; out = is })
out_first e window (Some o) is (inl some) = inl (record { place = suc some.place; entry = some.entry; at = some.at; out = some.out })
out_first e window (Some o) is (inr none) = inr (none_first e window (ap is_some is) none)

out_or_not : (window : List EntryView) → SomeOut window ⊎ NoneOutIn window
out_or_not [] = inr (λ k d less. absurd (omega (arith, less)))
out_or_not (e ∷ window) = out_first e window e.outcome refl (out_or_not window)

-- so the calculator stands in the engine, or lies in the work queue with a work
from_engine : (engine : EngineView) (work_queue : WorkQueueView) (t : BoxTold) → handed_in engine ≡ t ∷ [] → is_some (cell_told engine work_queue) ≡ true
from_engine engine work_queue t found_it = ap (λ (ts : List BoxTold). is_some (or_else (slice_get ts 0) (on_work_queue work_queue))) found_it

from_either : (a b : Option BoxTold) → is_some b ≡ true → is_some (or_else a b) ≡ true
from_either None b some = some
from_either (Some t) b some = refl

from_cell : {laws : Laws} (job : LoggedJob laws) (number : ℕ) (node : PlanNode) (engine : EngineView) (intake : IntakeView) (work_queue : WorkQueueView) → IsCell job true number engine intake work_queue → slice_get job.job.plan.nodes number ≡ Some node → is_some node.box_number ≡ true
    → SomeOut engine.window ⊎ NoneOutIn engine.window → is_some (cell_told engine work_queue) ≡ true
from_cell {laws} job number node engine intake work_queue c there boxed (inr none) = from_engine engine work_queue _ (calculator_there job number node engine c.lawful_engine there boxed none).found
from_cell {laws} job number node engine intake work_queue c there boxed (inl out) =
    let within = (c.works.complete out.place out.entry out.at out.out).2 in
    let known = (engine_known job number engine node c.lawful_engine there).set_up.number_is in
    from_either (first_handed engine) (on_work_queue work_queue)
    (first_handed_on work_queue.works (omega (arith, within)) (λ k d less. work_handed job number node (get_or work_queue.works k d) (c.works.lawful k d less) ((c.works.out k d less).node_is ∙ known) there boxed))

cell_gives : {laws : Laws} (job : LoggedJob laws) (begun : Bool) (number : ℕ) (node : PlanNode) (engine : EngineView) (intake : IntakeView) (work_queue : WorkQueueView) → IsCell job begun number engine intake work_queue → slice_get job.job.plan.nodes number ≡ Some node
    → is_some node.box_number ≡ true → is_some (cell_told engine work_queue) ≡ true
cell_gives {laws} job false number node engine intake work_queue c there boxed = from_engine engine work_queue _ (handed_there job number node engine c.lawful_engine there boxed).found
cell_gives {laws} job true number node engine intake work_queue c there boxed = from_cell job number node engine intake work_queue c there boxed (out_or_not engine.window)

-- Places.

abbrev Has : List (Option BoxTold) → ℕ → Type 0
Has places p = (t : BoxTold) × (slice_get places p ≡ Some (Some t))

has_set : (places : List (Option BoxTold)) (i p : ℕ) (t : BoxTold) → Has places p → Has (set places i (Some t)) p
has_set [] i p t h = absurd (let none = h.1 in cc)
has_set (o ∷ places) zero zero t h = (t, refl)
has_set (o ∷ places) zero (suc p) t h = h
has_set (o ∷ places) (suc i) zero t h = h
has_set (o ∷ places) (suc i) (suc p) t h = has_set places i p t h

has_told : (places : List (Option BoxTold)) (number : Option ℕ) (told : Option BoxTold) (p : ℕ) → Has places p → Has (with_told places number told) p
has_told places None told p h = h
has_told places (Some n) None p h = h
has_told places (Some n) (Some t) p h = has_set places n p t h

-- a calculator that lies in a place stays there, or another calculator lies there
has_cells : (places : List (Option BoxTold)) (nodes : List PlanNode) (engines : List EngineView) (work_queues : List WorkQueueView) (p : ℕ) → Has places p → Has (with_cells places nodes engines work_queues) p
has_cells places [] engines work_queues p h = h
has_cells places (node ∷ nodes) [] work_queues p h = h
has_cells places (node ∷ nodes) (engine ∷ engines) [] p h = h
has_cells places (node ∷ nodes) (engine ∷ engines) (work_queue ∷ work_queues) p h =
    has_cells (with_told places node.box_number (cell_told engine work_queue)) nodes engines work_queues p (has_told places node.box_number (cell_told engine work_queue) p h)

-- and it is the same calculator if no node has the place's number
kept_told : (places : List (Option BoxTold)) (number : Option ℕ) (told : Option BoxTold) (p : ℕ) → ¬ (number ≡ Some p) → slice_get (with_told places number told) p ≡ slice_get places p
kept_told places None told p other = refl
kept_told places (Some n) None p other = refl
kept_told places (Some n) (Some t) p other = get_other places n p (Some t) (λ same. other (ap Some (sym same)))

kept_cells : (places : List (Option BoxTold)) (nodes : List PlanNode) (engines : List EngineView) (work_queues : List WorkQueueView) (p : ℕ) → ((j : ℕ) (m : PlanNode) → slice_get nodes j ≡ Some m → ¬ (m.box_number ≡ Some p))
    → slice_get (with_cells places nodes engines work_queues) p ≡ slice_get places p
kept_cells places [] engines work_queues p others = refl
kept_cells places (node ∷ nodes) [] work_queues p others = refl
kept_cells places (node ∷ nodes) (engine ∷ engines) [] p others = refl
kept_cells places (node ∷ nodes) (engine ∷ engines) (work_queue ∷ work_queues) p others =
    kept_cells (with_told places node.box_number (cell_told engine work_queue)) nodes engines work_queues p (λ j m at. others (suc j) m at)
    ∙ kept_told places node.box_number (cell_told engine work_queue) p (others zero node refl)

-- that of a node lies in the node's place
put_told : (places : List (Option BoxTold)) (number : Option ℕ) (told : Option BoxTold) (p : ℕ) → number ≡ Some p → is_some told ≡ true → p < length places → slice_get (with_told places number told) p ≡ Some told
put_told places None told p is some less = absurd cc
put_told places (Some n) None p is some less = absurd cc
put_told places (Some n) (Some t) p is some less =
    let same : n ≡ p = cc in
    subst (λ (k : ℕ). slice_get (set places n (Some t)) k ≡ Some (Some t)) same (put_here places n (Some t) (omega (arith, less, same)))

own_cells : (places : List (Option BoxTold)) (nodes : List PlanNode) (engines : List EngineView) (work_queues : List WorkQueueView) (k p : ℕ) (node : PlanNode) (engine : EngineView) (work_queue : WorkQueueView) → slice_get nodes k ≡ Some node → slice_get engines k ≡ Some engine
    → slice_get work_queues k ≡ Some work_queue → node.box_number ≡ Some p → is_some (cell_told engine work_queue) ≡ true → p < length places → ((j : ℕ) (m : PlanNode) → k < j → slice_get nodes j ≡ Some m → ¬ (m.box_number ≡ Some p))
    → slice_get (with_cells places nodes engines work_queues) p ≡ Some (cell_told engine work_queue)
own_cells places [] engines work_queues k p node engine work_queue there at on boxed gives less others = absurd cc
own_cells places (n ∷ nodes) [] work_queues k p node engine work_queue there at on boxed gives less others = absurd cc
own_cells places (n ∷ nodes) (e ∷ engines) [] k p node engine work_queue there at on boxed gives less others = absurd cc
own_cells places (n ∷ nodes) (e ∷ engines) (d ∷ work_queues) zero p node engine work_queue there at on boxed gives less others =
    let n_is : n ≡ node = same_Some n node there in
    let e_is : e ≡ engine = same_Some e engine at in
    let d_is : d ≡ work_queue = same_Some d work_queue on in
    let told_is : cell_told e d ≡ cell_told engine work_queue = ap (λ (v : EngineView). cell_told v d) e_is ∙ ap (λ (v : WorkQueueView). cell_told engine v) d_is in
    kept_cells (with_told places n.box_number (cell_told e d)) nodes engines work_queues p (λ j m m_at. others (suc j) m (omega arith) m_at)
    ∙ put_told places n.box_number (cell_told e d) p (ap (λ (m : PlanNode). m.box_number) n_is ∙ boxed) (ap is_some told_is ∙ gives) less
    ∙ ap Some told_is
own_cells places (n ∷ nodes) (e ∷ engines) (d ∷ work_queues) (suc k) p node engine work_queue there at on boxed gives less others =
    own_cells (with_told places n.box_number (cell_told e d)) nodes engines work_queues k p node engine work_queue there at on boxed gives
    (let same = told_long places n.box_number (cell_told e d) in omega (arith, less, same)) (λ j m after m_at. others (suc j) m (omega (arith, after)) m_at)

-- if each place has a calculator, as many come back, each at its place
all_count : (places : List (Option BoxTold)) → ((p : ℕ) → p < length places → Has places p) → length (filter_map (λ (o : Option BoxTold). o) places) ≡ length places
all_count [] all = refl
all_count (None ∷ places) all = absurd (let none = (all 0 (omega arith)).1 in cc)
all_count (Some t ∷ places) all = ap suc (all_count places (λ p less. all (suc p) (omega (arith, less))))

all_at : (places : List (Option BoxTold)) (p : ℕ) (t : BoxTold) → ((q : ℕ) → q < length places → Has places q) → slice_get places p ≡ Some (Some t) → slice_get (filter_map (λ (o : Option BoxTold). o) places) p ≡ Some t
all_at [] p t all at = absurd cc
all_at (None ∷ places) p t all at = absurd (let none = (all 0 (omega arith)).1 in cc)
all_at (Some u ∷ places) zero t all at = same_Some (Some u) (Some t) at
all_at (Some u ∷ places) (suc p) t all at = all_at places p t (λ q less. all (suc q) (omega (arith, less))) at

-- Nets.

abbrev cells_of : NetView → List (Option BoxTold)
cells_of net = with_cells net.spare net.plan.nodes net.engines net.work_queues

-- the cell of a node of the job's plan gives the node's
pub record HandsBack (net : NetView) (number : ℕ) (engine : EngineView) (work_queue : WorkQueueView) : Type 0 where
  pub at : slice_get net.engines number ≡ Some engine
  pub on : slice_get net.work_queues number ≡ Some work_queue
  pub gives : is_some (cell_told engine work_queue) ≡ true

node_gives : {laws : Laws} (job : LoggedJob laws) (net : NetView) (number : ℕ) (node : PlanNode) → StandsFor job net → slice_get net.plan.nodes number ≡ Some node → is_some node.box_number ≡ true → (engine : EngineView) × (work_queue : WorkQueueView) × HandsBack net number engine work_queue
unfolding StandsFor
node_gives {laws} job net number node h there boxed =
    let within = slice_get_within net.plan.nodes number node there in
    let engines = h.engines in let intakes = h.intakes in let work_queues = h.work_queues in
    let e = found net.engines number (omega (arith, within, engines)) in
    let i = found net.intakes number (omega (arith, within, intakes)) in
    let d = found net.work_queues number (omega (arith, within, work_queues)) in
    let theirs : slice_get job.job.plan.nodes number ≡ Some node = subst (λ (plan : Plan). slice_get plan.nodes number ≡ Some node) h.plan there in
    (e.0, d.0, record { at = e.1; on = d.1; gives = cell_gives job (nat_lt number net.begun) number node e.0 i.0 d.0 (h.cells number e.0 i.0 d.0 e.1 i.1 d.1) theirs boxed })

-- what has to be known of a net that gives back
pub record KnowsBack {laws : Laws} (job : LoggedJob laws) (net : NetView) : Type 0 where
  pub is_job : IsJob job.job
  pub plan : net.plan ≡ job.job.plan
  pub spare : HasSpare job net.spare
  pub gives : (number : ℕ) (node : PlanNode) → slice_get net.plan.nodes number ≡ Some node → is_some node.box_number ≡ true → (engine : EngineView) × (work_queue : WorkQueueView) × HandsBack net number engine work_queue

pub knows_standing : {laws : Laws} (job : LoggedJob laws) (net : NetView) → StandsFor job net → KnowsBack job net
unfolding StandsFor
knows_standing {laws} job net h = record { is_job = h.is_job; plan = h.plan; spare = h.spare; gives = (λ number node there boxed. node_gives job net number node h there boxed) }

-- Nets that were wound up: whether a calculator is user-supplied stays the same.

first_same : (a b : Bool) (t u : BoxTold) (ts : List BoxTold) (o : Option BoxTold) → b ≡ a → is_some (or_else (slice_get (cons_option (if a then Some t else None) ts) 0) o) ≡ true
    → is_some (or_else (slice_get (cons_option (if b then Some u else None) ts) 0) o) ≡ true
first_same true true t u ts o same h = refl
first_same true false t u ts o same h = absurd cc
first_same false true t u ts o same h = absurd cc
first_same false false t u ts o same h = h

behind_first : (q : Option BoxTold) (ts us : List BoxTold) (o : Option BoxTold) → (is_some (or_else (slice_get ts 0) o) ≡ true → is_some (or_else (slice_get us 0) o) ≡ true)
    → is_some (or_else (slice_get (cons_option q ts) 0) o) ≡ true → is_some (or_else (slice_get (cons_option q us) 0) o) ≡ true
behind_first None ts us o rest h = rest h
behind_first (Some t) ts us o rest h = refl

last_finished : (others : List ContextView) (a b : ContextView) (helds : List HolderView) (o : Option BoxTold) → b.told.handed ≡ a.told.handed
    → is_some (or_else (slice_get (filter_map handed_told (map (λ (v : ContextView). v.told) (others ++ a ∷ []) ++ helds)) 0) o) ≡ true
    → is_some (or_else (slice_get (filter_map handed_told (map (λ (v : ContextView). v.told) (others ++ b ∷ []) ++ helds)) 0) o) ≡ true
last_finished [] a b helds o same h = first_same a.told.handed b.told.handed (told_by a.told) (told_by b.told) (filter_map handed_told helds) o same h
last_finished (x ∷ others) a b helds o same h =
    behind_first (handed_told x.told) (filter_map handed_told (map (λ (v : ContextView). v.told) (others ++ a ∷ []) ++ helds)) (filter_map handed_told (map (λ (v : ContextView). v.told) (others ++ b ∷ []) ++ helds)) o
    (last_finished others a b helds o same) h

abbrev some_in : EngineView → List ContextView → WorkQueueView → Type 0
some_in engine idle work_queue = is_some (or_else (slice_get (filter_map handed_told (map (λ (v : ContextView). v.told) idle ++ filter_map calculator_in engine.window)) 0) (on_work_queue work_queue)) ≡ true

finished_gives : {laws : Laws} (engine now : EngineView) (work_queue : WorkQueueView) → FinishesLast laws engine now → is_some (cell_told engine work_queue) ≡ true → is_some (cell_told now work_queue) ≡ true
finished_gives {laws} engine now work_queue f h =
    subst (λ (v : EngineView). is_some (cell_told v work_queue) ≡ true) (sym f.is)
    (last_finished f.others f.context f.finished (filter_map calculator_in engine.window) (on_work_queue work_queue) f.is_finished.same_handed
    (subst (λ (bs : List ContextView). some_in engine bs work_queue) f.idle h))

-- if the first work in a window was closed, its calculator stays there

back_finished : (laws : Laws) (before now : Option OutcomeView) (phase : Phase) (a b : Bool) (es : List EntryView) (o : Option BoxTold) → FinishesBack laws before now
    → is_some (or_else (slice_get (filter_map handed_told (filter_map calculator_in (record { phase = phase; outcome = before; committed = a } ∷ es))) 0) o) ≡ true
    → is_some (or_else (slice_get (filter_map handed_told (filter_map calculator_in (record { phase = phase; outcome = now; committed = b } ∷ es))) 0) o) ≡ true
back_finished laws None now phase a b es o f h =
    subst (λ (n : Option OutcomeView). is_some (or_else (slice_get (filter_map handed_told (filter_map calculator_in (record { phase = phase; outcome = n; committed = b } ∷ es))) 0) o) ≡ true) (sym f) h
back_finished laws (Some x) now phase a b es o f h =
    let y : OutcomeView = f.0 in
    subst (λ (n : Option OutcomeView). is_some (or_else (slice_get (filter_map handed_told (filter_map calculator_in (record { phase = phase; outcome = n; committed = b } ∷ es))) 0) o) ≡ true) (sym f.2)
    (first_same x.work.context.told.handed y.work.context.told.handed (told_by x.work.context.told) (told_by y.work.context.told) (filter_map handed_told (filter_map calculator_in es)) o (held_after x y f.1) h)

abbrev some_at : List ContextView → List EntryView → WorkQueueView → Type 0
some_at idle window work_queue = is_some (or_else (slice_get (filter_map handed_told (map (λ (v : ContextView). v.told) idle ++ filter_map calculator_in window)) 0) (on_work_queue work_queue)) ≡ true

first_finished : (laws : Laws) (window now : List EntryView) (work_queue : WorkQueueView) → FinishesFirst laws window now → some_at [] window work_queue → some_at [] now work_queue
first_finished laws [] now work_queue f h = subst (λ (es : List EntryView). some_at [] es work_queue) (sym f) h
first_finished laws (entry ∷ es) now work_queue f h =
    let e : FinishesEntry laws entry f.0 = f.1 in
    subst (λ (xs : List EntryView). some_at [] xs work_queue) (sym f.2)
    (subst (λ (x : EntryView). some_at [] (x ∷ es) work_queue) (sym e.is) (back_finished laws entry.outcome e.outcome entry.phase entry.committed entry.committed es (on_work_queue work_queue) e.finishes h))

front_gives : {laws : Laws} (engine now : EngineView) (work_queue : WorkQueueView) → engine.idle ≡ [] → FinishesFront laws engine now → is_some (cell_told engine work_queue) ≡ true → is_some (cell_told now work_queue) ≡ true
front_gives {laws} engine now work_queue none f h =
    subst (λ (v : EngineView). is_some (cell_told v work_queue) ≡ true) (sym f.is)
    (subst (λ (bs : List ContextView). some_at bs f.window work_queue) (sym none) (first_finished laws engine.window f.window work_queue f.finishes (subst (λ (bs : List ContextView). some_at bs engine.window work_queue) none h)))

wound_gives : {laws : Laws} (engine now : EngineView) (work_queue : WorkQueueView) (lacks : Bool) (idle : List ContextView) → WindsUp laws engine now → lacks_close engine ≡ lacks → engine.idle ≡ idle → is_some (cell_told engine work_queue) ≡ true → is_some (cell_told now work_queue) ≡ true
wound_gives {laws} engine now work_queue false idle w is are h = subst (λ (v : EngineView). is_some (cell_told v work_queue) ≡ true) (sym (w.had_close is)) h
wound_gives {laws} engine now work_queue true [] w is are h = front_gives engine now work_queue are (w.none_idle is are) h
wound_gives {laws} engine now work_queue true (b ∷ idle) w is are h = finished_gives engine now work_queue (w.finishes is (let long = ap length are in omega (arith, long))) h

-- an engine of a net that was wound up
engine_gives : {laws : Laws} (before net : NetView) (number : ℕ) (engine now : EngineView) (work_queue : WorkQueueView) → WindsUpNet laws before net → slice_get before.engines number ≡ Some engine → slice_get net.engines number ≡ Some now
    → (number < before.wound) ⊎ (before.wound ≤ number) → (number < net.wound) ⊎ (net.wound ≤ number) → is_some (cell_told engine work_queue) ≡ true → is_some (cell_told now work_queue) ≡ true
engine_gives {laws} before net number engine now work_queue w at now_at (inl early) upto h =
    subst (λ (v : EngineView). is_some (cell_told v work_queue) ≡ true) (same_Some engine now (sym at ∙ sym (w.had_been number early) ∙ now_at)) h
engine_gives {laws} before net number engine now work_queue w at now_at (inr from) (inl upto) h = wound_gives engine now work_queue (lacks_close engine) engine.idle (w.wound_up number engine now from upto at now_at) refl refl h
engine_gives {laws} before net number engine now work_queue w at now_at (inr from) (inr past) h =
    subst (λ (v : EngineView). is_some (cell_told v work_queue) ≡ true) (same_Some engine now (sym at ∙ sym (w.others number past) ∙ now_at)) h

pub knows_wound : {laws : Laws} (job : LoggedJob laws) (before net : NetView) → KnowsBack job before → WindsUpNet laws before net → KnowsBack job net
knows_wound {laws} job before net h w = record {
  is_job = h.is_job;
  plan = ap (λ (v : NetView). v.plan) w.parts ∙ h.plan;
  spare = subst (λ (ps : List (Option BoxTold)). HasSpare job ps) (sym (ap (λ (v : NetView). v.spare) w.parts)) h.spare;
  gives = λ number node there boxed.
      (let g = h.gives number node (subst (λ (p : Plan). slice_get p.nodes number ≡ Some node) (ap (λ (v : NetView). v.plan) w.parts) there) boxed in
      let within = slice_get_within before.engines number g.0 g.2.at in
      let places = w.places in
      let e = found net.engines number (omega (arith, within, places)) in (
        e.0,
        g.1,
        record {
          at = e.1;
          on = subst (λ (ds : List WorkQueueView). slice_get ds number ≡ Some g.1) (sym (ap (λ (v : NetView). v.work_queues) w.parts)) g.2.on;
          gives = engine_gives before net number g.0 e.0 g.1 w g.2.at e.1 (order_of number before.wound) (order_of number net.wound) g.2.gives;
        },
      ));
}

knows_since : {laws : Laws} (job : LoggedJob laws) (before net : NetView) → StandsFor job before → (net ≡ before) ⊎ WindsUpNet laws before net → KnowsBack job net
knows_since {laws} job before net h (inl is) = subst (λ (v : NetView). KnowsBack job v) (sym is) (knows_standing job before h)
knows_since {laws} job before net h (inr w) = knows_wound job before net (knows_standing job before h) w

pub knows_back : {laws : Laws} (job : LoggedJob laws) (net : NetView) → StoodFor job net → KnowsBack job net
knows_back {laws} job net s = knows_since job s.before net s.stands s.since

own_place : {laws : Laws} (job : LoggedJob laws) (net : NetView) (number place : ℕ) (node : PlanNode) (engine : EngineView) (work_queue : WorkQueueView) → KnowsBack job net → slice_get net.plan.nodes number ≡ Some node → node.box_number ≡ Some place → place < length net.spare
    → HandsBack net number engine work_queue → slice_get (cells_of net) place ≡ Some (cell_told engine work_queue)
own_place {laws} job net number place node engine work_queue h there boxed less g =
    own_cells net.spare net.plan.nodes net.engines net.work_queues number place node engine work_queue there g.at g.on boxed g.gives less
    (λ j m after m_at boxed_too. none_twice net.plan.nodes number j place node m (subst IsValid (sym h.plan) h.is_job.plan).boxes after there m_at boxed boxed_too)

-- each place has a calculator
place_full : {laws : Laws} (job : LoggedJob laws) (net : NetView) (p : ℕ) (o : Option BoxTold) → KnowsBack job net → p < length net.spare → slice_get net.spare p ≡ Some o → Has (cells_of net) p
place_full {laws} job net p (Some t) h less at = has_cells net.spare net.plan.nodes net.engines net.work_queues p (t, at)
place_full {laws} job net p None h less at =
    let u = h.spare.used p at in
    let theirs : slice_get job.job.plan.nodes u.0 ≡ Some u.1 = read_at job.job.plan.nodes u.0 u.1 u.2 (sym u.3) in
    let there : slice_get net.plan.nodes u.0 ≡ Some u.1 = subst (λ (plan : Plan). slice_get plan.nodes u.0 ≡ Some u.1) (sym h.plan) theirs in
    let g = h.gives u.0 u.1 there (ap is_some u.4) in
    has_told_of (cell_told g.0 g.1) (own_place job net u.0 p u.1 g.0 g.1 h there u.4 less g.2) g.2.gives
  where
    has_told_of : (q : Option BoxTold) → slice_get (cells_of net) p ≡ Some q → is_some q ≡ true → Has (cells_of net) p
    has_told_of None is some = absurd cc
    has_told_of (Some t) is some = (t, is)

full : {laws : Laws} (job : LoggedJob laws) (net : NetView) → KnowsBack job net → (p : ℕ) → p < length (cells_of net) → Has (cells_of net) p
full {laws} job net h p less =
    let same = cells_long net.spare net.plan.nodes net.engines net.work_queues in
    let within : p < length net.spare = omega (arith, less, same) in
    let it = found net.spare p within in
    place_full job net p it.0 h within it.1

pub counted : {laws : Laws} {X : Type 0} (told : X → BoxTold) (result : List X) (job : LoggedJob laws) (net : NetView) → map told result ≡ given_back net → KnowsBack job net → length result ≡ length job.boxes
counted {laws} {X} told result job net is h =
    sym (length-map result told) ∙ ap length is ∙ all_count (cells_of net) (full job net h) ∙ cells_long net.spare net.plan.nodes net.engines net.work_queues ∙ h.spare.count

-- a node's calculator is the one in its place
told_at : (places : List (Option BoxTold)) (p : ℕ) (o : Option BoxTold) → ((q : ℕ) → q < length places → Has places q) → slice_get places p ≡ Some o → is_some o ≡ true → slice_get (filter_map (λ (o : Option BoxTold). o) places) p ≡ o
told_at places p None all at some = absurd cc
told_at places p (Some t) all at some = all_at places p t all at

pub own_back : {laws : Laws} (told : List BoxTold) (job : LoggedJob laws) (net : NetView) (number place : ℕ) (node : PlanNode) (engine : EngineView) (work_queue : WorkQueueView) → told ≡ given_back net → KnowsBack job net → slice_get net.plan.nodes number ≡ Some node
    → node.box_number ≡ Some place → slice_get net.engines number ≡ Some engine → slice_get net.work_queues number ≡ Some work_queue → (slice_get told place ≡ cell_told engine work_queue) × (is_some (cell_told engine work_queue) ≡ true)
own_back {laws} told job net number place node engine work_queue is h there boxed at on =
    let g = h.gives number node there (ap is_some boxed) in
    let e_is : g.0 ≡ engine = same_Some g.0 engine (sym g.2.at ∙ at) in
    let d_is : g.1 ≡ work_queue = same_Some g.1 work_queue (sym g.2.on ∙ on) in
    let told_is : cell_told g.0 g.1 ≡ cell_told engine work_queue = ap (λ (v : EngineView). cell_told v g.1) e_is ∙ ap (λ (v : WorkQueueView). cell_told engine v) d_is in
    let mine : HandsBack net number engine work_queue = record { at = at; on = on; gives = sym (ap is_some told_is) ∙ g.2.gives } in
    let theirs : slice_get job.job.plan.nodes number ≡ Some node = subst (λ (plan : Plan). slice_get plan.nodes number ≡ Some node) h.plan there in
    let less : place < length net.spare = subst (λ (o : Option ℕ). IfSome o (λ q. q < length net.spare)) boxed (at_node (λ (n : PlanNode). IfSome n.box_number (λ q. q < length net.spare)) job.job.plan.nodes number node h.spare.numbers theirs) in
    (ap (λ (ts : List BoxTold). slice_get ts place) is ∙ told_at (cells_of net) place (cell_told engine work_queue) (full job net h) (own_place job net number place node engine work_queue h there boxed less mine) mine.gives, mine.gives)

-- a calculator that no node uses is as it lay
pub unused_back : {laws : Laws} (told : List BoxTold) (job : LoggedJob laws) (net : NetView) (place : ℕ) (t : BoxTold) → told ≡ given_back net → KnowsBack job net → slice_get net.spare place ≡ Some (Some t) → slice_get told place ≡ Some t
unused_back {laws} told job net place t is h lies =
    let none = (h.spare.unused place t lies).0 in
    ap (λ (ts : List BoxTold). slice_get ts place) is
    ∙ all_at (cells_of net) place t (full job net h)
    (kept_cells net.spare net.plan.nodes net.engines net.work_queues place
    (λ j m m_at. at_node (λ (n : PlanNode). ¬ (n.box_number ≡ Some place)) job.job.plan.nodes j m none (subst (λ (plan : Plan). slice_get plan.nodes j ≡ Some m) h.plan m_at)) ∙ lies)

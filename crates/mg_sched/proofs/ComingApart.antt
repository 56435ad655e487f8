-- A net comes apart: works come back from work queues into their windows, and then its parts are those of one net.
use Rattle.std.proofs.Common.{◌≡◌, ◌≢◌, ℕ, ◌+◌, ◌<◌, true, not, List, [], ◌∷◌, ◌++◌, length, length-set, set, get_or, All, Option, Some, None, is_some, slice_get, inl, inr, ap, sym, refl, subst, ◌∙◌, arith, append_assoc, append-nil}
use Rattle.std.specs.Prelude.{AllPairs}
use Rattle.std.proofs.lemmas.Bool.{cases_eq}
use Rattle.std.proofs.lemmas.Option.{slice_get_within, slice_get-get_or}
use Rattle.mg_calc.specs.Rules.{Laws}
use Rattle.mg_calc.specs.declared.plan.Plan.{Plan}
use Rattle.mg_node.specs.Views.{IntakeView, WorkView, OutcomeView, EngineView}
use Rattle.mg_node.specs.Job.{LoggedJob}
use Rattle.mg_node.specs.Ports.{port_queue}
use Rattle.mg_node.specs.Outputs.{laid_at}
use Rattle.mg_node.specs.Lawful.{LawfulWork}
use Rattle.mg_node.specs.Leaving.{NoneOut}
use Rattle.mg_node.specs.Shelves.{IsOut, shelved}
use Rattle.mg_node.specs.Windows.{has_ended}
use Rattle.mg_node.specs.Out.{ComesBack}
use Rattle.mg_node.proofs.Lemmas.{engine_known, get_other, grown_by_itself, shelved_back, shelved_lawful, some_same, unrun_outcome}
use Rattle.mg_sched.specs.Views.{WorkQueueView, NetView}
use Rattle.mg_sched.specs.Places.{with_engine, with_work_queue}
use Rattle.mg_sched.specs.StandsFor.{HasWorks, IsCell, IsNetOf, StandsFor, StandsForSome, IsRunning}
use Rattle.mg_sched.specs.ComesApart.{parts_in, unrun_of, all_shelved, PutsBack, NoneOnWorkQueues, ArePartsOf}
use Rattle.mg_sched.specs.Code.Telling.{PutsBackAt}
use Rattle.mg_sched.proofs.Carrying.{intake_of}
use Rattle.mg_sched.proofs.CellForms.{engine_and_work_queue, stays_so}
use Rattle.mg_sched.proofs.Changed.{CellStep, cell_stands}
use Rattle.mg_sched.proofs.Finding.{cell_at, found, places, put_here, engine_read, work_queue_read}
use Rattle.mg_sched.proofs.LimitsKnow.{cell_knows}
use Rattle.mg_sched.proofs.Middles.{all_middle, pairs_middle, pairs_with, all_both}
use Rattle.mg_sched.proofs.Works.{works_fewer}

-- Works come back from one work queue, the last one first.

pub shelved_last : (engine : EngineView) (works : List WorkView) (work : WorkView) → all_shelved engine (works ++ work ∷ []) ≡ all_shelved (shelved engine (unrun_of work)) works
shelved_last engine [] work = refl
shelved_last engine (w ∷ ws) work = ap (λ (e : EngineView). shelved e (unrun_of w)) (shelved_last engine ws work)

-- some of the works have come back, and the others are out
pub record BackSoFar (start engine : EngineView) (on work_queue : WorkQueueView) : Type 0 where
  pub same : all_shelved engine work_queue.works ≡ all_shelved start on.works
  pub room : work_queue.room ≡ on.room
  pub out : All (IsOut engine) work_queue.works
  pub apart : AllPairs (λ (a b : WorkView). a.number ≢ b.number) work_queue.works

not_turned : (a b : WorkView) → a.number ≢ b.number → b.number ≢ a.number
not_turned a b other = λ e. other (sym e)

pub one_more_back : (start engine engine_now : EngineView) (on work_queue work_queue_now : WorkQueueView) (work : WorkView) → BackSoFar start engine on work_queue → work_queue.works ≡ work_queue_now.works ++ work ∷ [] → work_queue_now.room ≡ work_queue.room
    → engine_now ≡ shelved engine (unrun_of work) → ComesBack engine engine_now work.number → BackSoFar start engine_now on work_queue_now
one_more_back start engine engine_now on work_queue work_queue_now work h works room now back =
    let front = work_queue_now.works in
    let all = all_middle (IsOut engine) front [] work (subst (All (IsOut engine)) works h.out) in
    let pairs = subst (AllPairs (λ (a b : WorkView). a.number ≢ b.number)) works h.apart in
    let others = pairs_with (λ (a b : WorkView). a.number ≢ b.number) not_turned front [] work pairs in
    record {
      same = ap (λ (e : EngineView). all_shelved e front) now ∙ sym (shelved_last engine front work) ∙ ap (all_shelved engine) (sym works) ∙ h.same;
      room = room ∙ h.room;
      out = subst (All (IsOut engine_now)) (append-nil front) (all_both (IsOut engine) (λ (w : WorkView). w.number ≢ work.number) (IsOut engine_now) (front ++ []) back.stays all.0 others);
      apart = subst (AllPairs (λ (a b : WorkView). a.number ≢ b.number)) (append-nil front) (pairs_middle (λ (a b : WorkView). a.number ≢ b.number) not_turned front [] work pairs).0;
    }

-- A cell whose works come back stays a cell.

one_back : {laws : Laws} (job : LoggedJob laws) (node : ℕ) (engine mid : EngineView) (intake : IntakeView) (work_queue : WorkQueueView) (front : List WorkView) (work : WorkView) → CellStep job node engine mid intake intake (record work_queue { works = front ++ work ∷ [] })
    → CellStep job node engine (shelved mid (unrun_of work)) intake intake (record work_queue { works = front })
one_back {laws} job node engine mid intake work_queue front work s =
    let o = unrun_of work in
    let on : WorkQueueView = record work_queue { works = front ++ work ∷ [] } in
    let works = s.cell.works in
    let out = (all_middle (IsOut mid) front [] work works.out).1 in
    let lawful = (all_middle (LawfulWork job) front [] work works.lawful).1 in
    let fewer = works_fewer job mid (shelved mid o) on front [] work refl (shelved_back mid o out) refl works in
    record {
      cell = record {
        lawful_engine = shelved_lawful job node mid o out s.cell.lawful_engine (unrun_outcome job work o refl lawful);
        lawful_intake = s.cell.lawful_intake;
        agree = s.cell.agree;
        works = subst (λ (ws : List WorkView). HasWorks job (shelved mid o) (record work_queue { works = ws })) (append-nil front) fewer;
      };
      first = s.first;
      outputs = s.outputs;
      gone = s.gone;
      ports = s.ports;
    }

back_step : {laws : Laws} (job : LoggedJob laws) (node : ℕ) (engine : EngineView) (intake : IntakeView) (work_queue : WorkQueueView) (back front : List WorkView) → IsCell job true node engine intake (record work_queue { works = front ++ back })
    → CellStep job node engine (all_shelved engine back) intake intake (record work_queue { works = front })
back_step {laws} job node engine intake work_queue [] front cell = record {
  cell = subst (λ (ws : List WorkView). IsCell job true node engine intake (record work_queue { works = ws })) (append-nil front) cell;
  first = refl;
  outputs = λ output. grown_by_itself (laid_at engine output);
  gone = λ output. omega arith;
  ports = λ port. stays_so (port_queue intake.waits port);
}
back_step {laws} job node engine intake work_queue (work ∷ back) front cell =
    one_back job node engine (all_shelved engine back) intake work_queue front work
    (back_step job node engine intake work_queue back (front ++ work ∷ []) (subst (λ (ws : List WorkView). IsCell job true node engine intake (record work_queue { works = ws })) (sym (append_assoc front (work ∷ []) back)) cell))

back_ended : (engine : EngineView) (works : List WorkView) → has_ended (all_shelved engine works) ≡ has_ended engine
back_ended engine [] = refl
back_ended engine (work ∷ works) = back_ended engine works

pub back_stands : {laws : Laws} (job : LoggedJob laws) (node : ℕ) (before now : NetView) → node < length before.plan.nodes → IsRunning before → StandsFor job before → PutsBackAt node before now → StandsFor job now
unfolding StandsFor
back_stands {laws} job node before now within running h p =
    let long = h.intakes in
    let intake = found before.intakes node (omega (arith, within, long)) in
    let cell = cell_at job before node p.engine intake.0 p.work_queue h running within p.at intake.1 p.on in
    let engine_now = all_shelved p.engine p.work_queue.works in
    let work_queue_now : WorkQueueView = record p.work_queue { works = [] } in
    let step = back_step job node p.engine intake.0 p.work_queue p.work_queue.works [] cell in
    subst (λ (v : NetView). IsNetOf job v) (engine_and_work_queue before node engine_now intake.0 work_queue_now intake.1 ∙ sym p.now_is)
    (cell_stands job before node p.engine engine_now intake.0 intake.0 work_queue_now before.limits h running within p.at intake.1 step
    (cell_knows before node p.engine engine_now intake.0 work_queue_now within h.limits p.at intake.1 (back_ended p.engine p.work_queue.works)))

-- what becomes of a node, read of a net as it is kept
pub puts_back_at : {laws : Laws} (shown net : NetView) (node : ℕ) (engine engine_now : EngineView) (work_queue work_queue_now : WorkQueueView) → shown ≡ net → StandsForSome laws net → node < length net.plan.nodes → engine ≡ get_or shown.engines node engine → work_queue ≡ get_or shown.work_queues node work_queue
    → engine_now ≡ all_shelved engine work_queue.works → work_queue_now ≡ record work_queue { works = [] } → PutsBackAt node net (with_work_queue (with_engine shown node engine_now) node work_queue_now)
puts_back_at {laws} shown net node engine engine_now work_queue work_queue_now is h less value lies now empty = record {
  engine = engine;
  at = engine_read shown net node engine is h less value;
  work_queue = work_queue;
  on = work_queue_read shown net node work_queue is h less lies;
  now_is = ap (λ (e : EngineView). with_work_queue (with_engine shown node e) node work_queue_now) now
      ∙ ap (λ (d : WorkQueueView). with_work_queue (with_engine shown node (all_shelved engine work_queue.works)) node d) empty
      ∙ ap (λ (v : NetView). with_work_queue (with_engine v node (all_shelved engine work_queue.works)) node (record work_queue { works = [] })) is;
}

-- Works come back from all work queues, one after the other.

pub record BackTo (laws : Laws) (before now : NetView) (count : ℕ) : Type 0 where
  pub puts_back : PutsBack count before.engines now.engines before.work_queues now.work_queues
  pub others : now ≡ record before { engines = now.engines; work_queues = now.work_queues }
  pub stands : (job : LoggedJob laws) → StandsFor job before → StandsFor job now

pub back_none : {laws : Laws} (net : NetView) → BackTo laws net net 0
back_none {laws} net = record {
  puts_back = record {
    engine_count = refl;
    work_queue_count = refl;
    shelves = λ node engine work_queue less at on. absurd (omega (arith, less));
    empties = λ node work_queue less on. absurd (omega (arith, less));
    others = λ place le. refl;
    other_work_queues = λ place le. refl;
  };
  others = refl;
  stands = λ job h. h;
}

lists_more : (count : ℕ) (engines now : List EngineView) (work_queues work_queues_now : List WorkQueueView) (engine : EngineView) (work_queue : WorkQueueView) → PutsBack count engines now work_queues work_queues_now → slice_get now count ≡ Some engine → slice_get work_queues_now count ≡ Some work_queue
    → PutsBack (count + 1) engines (set now count (all_shelved engine work_queue.works)) work_queues (set work_queues_now count (record work_queue { works = [] }))
lists_more count engines now work_queues work_queues_now engine work_queue h there on_it =
    let engine_now = all_shelved engine work_queue.works in
    let work_queue_now : WorkQueueView = record work_queue { works = [] } in
    let old_engine : slice_get engines count ≡ Some engine = sym (h.others count (omega arith)) ∙ there in
    let old_work_queue : slice_get work_queues count ≡ Some work_queue = sym (h.other_work_queues count (omega arith)) ∙ on_it in
    record {
      engine_count = length-set now count engine_now ∙ h.engine_count;
      work_queue_count = length-set work_queues_now count work_queue_now ∙ h.work_queue_count;
      shelves = λ node e d less at on. elim (cases_eq node count) [
        | inl here ↦
            (let e_is : engine ≡ e = some_same (slice_get engines count) engine e old_engine (ap (slice_get engines) (sym here) ∙ at) in
            let d_is : work_queue ≡ d = some_same (slice_get work_queues count) work_queue d old_work_queue (ap (slice_get work_queues) (sym here) ∙ on) in
            ap (slice_get (set now count engine_now)) here ∙ put_here now count engine_now (slice_get_within now count engine there)
            ∙ ap (λ (x : EngineView). Some (all_shelved x work_queue.works)) e_is ∙ ap (λ (x : WorkQueueView). Some (all_shelved e x.works)) d_is)
        | inr other ↦ get_other now count node engine_now other ∙ h.shelves node e d (omega (arith, less, other)) at on
      ];
      empties = λ node d less on. elim (cases_eq node count) [
        | inl here ↦
            (let d_is : work_queue ≡ d = some_same (slice_get work_queues count) work_queue d old_work_queue (ap (slice_get work_queues) (sym here) ∙ on) in
            ap (slice_get (set work_queues_now count work_queue_now)) here ∙ put_here work_queues_now count work_queue_now (slice_get_within work_queues_now count work_queue on_it) ∙ ap (λ (x : WorkQueueView). (let y : Option WorkQueueView = Some (record x { works = [] }) in y)) d_is)
        | inr other ↦ get_other work_queues_now count node work_queue_now other ∙ h.empties node d (omega (arith, less, other)) on
      ];
      others = λ place le. get_other now count place engine_now (λ s. omega (arith, s, le)) ∙ h.others place (omega (arith, le));
      other_work_queues = λ place le. get_other work_queues_now count place work_queue_now (λ s. omega (arith, s, le)) ∙ h.other_work_queues place (omega (arith, le));
    }

pub back_runs : {laws : Laws} (before now : NetView) (count : ℕ) → BackTo laws before now count → IsRunning before → IsRunning now
back_runs {laws} before now count b running = ap (λ (v : NetView). v.begun) b.others ∙ running ∙ sym (ap (λ (v : NetView). length v.plan.nodes) b.others)

pub back_some : {laws : Laws} (before now : NetView) (count : ℕ) → BackTo laws before now count → StandsForSome laws before → StandsForSome laws now
back_some {laws} before now count b h = record { job = h.job; stands = b.stands h.job h.stands }

pub back_there : {laws : Laws} (before now : NetView) (count node : ℕ) → BackTo laws before now count → node < length before.plan.nodes → node < length now.plan.nodes
back_there {laws} before now count node b less = (let same = ap (λ (v : NetView). length v.plan.nodes) b.others in omega (arith, less, same))

-- a net with other engines and work queues is told by these
told_by_parts : (mid after : NetView) (engines : List EngineView) (work_queues : List WorkQueueView) → after ≡ record mid { engines = engines; work_queues = work_queues } → after ≡ record mid { engines = after.engines; work_queues = after.work_queues }
told_by_parts mid after engines work_queues is =
    is ∙ (λ i. record mid { engines = sym (ap (λ (v : NetView). v.engines) is) i; work_queues = sym (ap (λ (v : NetView). v.work_queues) is) i })

pub back_more : {laws : Laws} (before now next : NetView) (node : ℕ) → BackTo laws before now node → node < length before.plan.nodes → IsRunning before → PutsBackAt node now next → BackTo laws before next (node + 1)
back_more {laws} before now next node b less running p =
    let engines : next.engines ≡ set now.engines node (all_shelved p.engine p.work_queue.works) = ap (λ (v : NetView). v.engines) p.now_is in
    let work_queues : next.work_queues ≡ set now.work_queues node (record p.work_queue { works = [] }) = ap (λ (v : NetView). v.work_queues) p.now_is in
    record {
      puts_back = subst (λ (es : List EngineView). PutsBack (node + 1) before.engines es before.work_queues next.work_queues) (sym engines)
          (subst (λ (ds : List WorkQueueView). PutsBack (node + 1) before.engines (set now.engines node (all_shelved p.engine p.work_queue.works)) before.work_queues ds) (sym work_queues)
          (lists_more node before.engines now.engines before.work_queues now.work_queues p.engine p.work_queue b.puts_back p.at p.on));
      others = told_by_parts now next _ _ p.now_is ∙ ap (λ (v : NetView). (let x : NetView = record v { engines = next.engines; work_queues = next.work_queues } in x)) b.others;
      stands = λ job h. back_stands job node now next (back_there before now node node b less) (back_runs before now node b running) (b.stands job h) p;
    }

pub back_end : {laws : Laws} (before now : NetView) (count last : ℕ) → BackTo laws before now count → count ≡ last → BackTo laws before now last
back_end {laws} before now count last b is = subst (λ (n : ℕ). BackTo laws before now n) is b

-- The parts of a net are those of one net, if nothing lies in its work queues.

is_there : (o : Option OutcomeView) → (o ≡ None → ⊥) → is_some o ≡ true
is_there None not_none = absurd (not_none refl)
is_there (Some x) not_none = refl

nothing_on : {laws : Laws} (job : LoggedJob laws) (engine : EngineView) (work_queue : WorkQueueView) → HasWorks job engine work_queue → work_queue.works ≡ [] → NoneOut engine
nothing_on {laws} job engine work_queue h none = λ k d less.
    let entry = get_or engine.window k d in
    is_there entry.outcome (λ missing.
    let any = h.complete k entry (slice_get-get_or engine.window k d less) missing in
    let within = any.2 in
    absurd (omega (arith, within, ap (λ (ws : List WorkView). length ws) none)))

pub parts_of_net : {laws : Laws} (job : LoggedJob laws) (before now : NetView) → IsRunning before → BackTo laws before now (length before.plan.nodes) → StandsFor job before → ArePartsOf job (parts_in now)
unfolding StandsFor
parts_of_net {laws} job before now running b stands =
    let h : StandsFor job now = b.stands job stands in
    let runs = back_runs before now (length before.plan.nodes) b running in
    let nodes = ap (λ (v : NetView). length v.plan.nodes) b.others in
    let intakes = h.intakes in
    let work_queues = h.work_queues in
    let work_queues_before = b.puts_back.work_queue_count in
    let empty : (node : ℕ) (work_queue : WorkQueueView) → node < length now.plan.nodes → slice_get now.work_queues node ≡ Some work_queue → work_queue.works ≡ [] = λ node work_queue less on.
    let old = found before.work_queues node (omega (arith, less, work_queues, work_queues_before)) in
    ap (λ (d : WorkQueueView). d.works) (some_same (slice_get now.work_queues node) work_queue (record old.0 { works = [] }) on (b.puts_back.empties node old.0 (omega (arith, less, nodes)) old.1)) in
    record {
      is_job = h.is_job;
      plan = h.plan;
      engine_count = h.engines;
      intake_count = h.intakes;
      engines = λ node engine less at.
          let i = found now.intakes node (omega (arith, less, intakes)) in
          let d = found now.work_queues node (omega (arith, less, work_queues)) in
          (cell_at job now node engine i.0 d.0 h runs less at i.1 d.1).lawful_engine;
      inputs = h.inputs;
      intakes = λ consumer intake at. let within = slice_get_within now.intakes consumer intake at in intake_of job now consumer intake h (omega (arith, within, intakes)) at;
      agree = λ node engine intake less at to.
          let d = found now.work_queues node (omega (arith, less, work_queues)) in
          (cell_at job now node engine intake d.0 h runs less at to d.1).agree;
      none_out = λ node engine less at.
          let i = found now.intakes node (omega (arith, less, intakes)) in
          let d = found now.work_queues node (omega (arith, less, work_queues)) in
          nothing_on job engine d.0 (cell_at job now node engine i.0 d.0 h runs less at i.1 d.1).works (empty node d.0 less d.1);
      edges = h.edges;
      rest = record {
        given = h.given;
        work_queues = h.work_queues;
        empty = λ node work_queue planned on at.
            let less = slice_get_within now.plan.nodes node planned at in
            let engines = h.engines in
            let e = found now.engines node (omega (arith, less, engines)) in
            let i = found now.intakes node (omega (arith, less, intakes)) in
            let cell = cell_at job now node e.0 i.0 work_queue h runs less e.1 i.1 on in
            let known = engine_known job node e.0 planned cell.lawful_engine (subst (λ (plan : Plan). slice_get plan.nodes node ≡ Some planned) h.plan at) in
            let room = cell.works.room ∙ known.set_up.in_flight in
            let none = empty node work_queue less on in
            λ k. record { room = room k; works = none k };
        limits = h.limits.of_plan;
        counts = λ number e q engine at_e at_q low at going. (h.limits.queues number e q at_e at_q).counts engine low at ∙ ap not going;
        spare = h.spare;
        kept = h.kept;
      };
    }

pub parts_come_apart : {laws : Laws} (job : LoggedJob laws) (before after shown : NetView) → shown ≡ after → IsRunning before → PutsBack (length before.plan.nodes) before.engines after.engines before.work_queues after.work_queues
    → after ≡ record before { engines = after.engines; work_queues = after.work_queues } → ((other : LoggedJob laws) → StandsFor other before → StandsFor other after) → StandsFor job before → ArePartsOf job (parts_in shown)
parts_come_apart {laws} job before after shown is running puts_back others stands h =
    subst (λ (v : NetView). ArePartsOf job (parts_in v)) (sym is) (parts_of_net job before after running (record { puts_back = puts_back; others = others; stands = stands }) h)

-- nothing lies in its work queues
pub none_on_work_queues : {laws : Laws} (before now : NetView) → StandsForSome laws before → PutsBack (length before.plan.nodes) before.engines now.engines before.work_queues now.work_queues → NoneOnWorkQueues now
none_on_work_queues {laws} before now some b = λ node work_queue on.
    let within = slice_get_within now.work_queues node work_queue on in
    let count = b.work_queue_count in
    let long = (places before some).2 in
    let old = found before.work_queues node (omega (arith, within, count)) in
    ap (λ (d : WorkQueueView). d.works) (some_same (slice_get now.work_queues node) work_queue (record old.0 { works = [] }) on (b.empties node old.0 (omega (arith, within, count, long)) old.1))

-- A trim gives up what all edges have got, and keeps what a net stands for.
use Rattle.std.proofs.Common.{◌≡◌, ℕ, zero, suc, ◌+◌, ◌-◌, ◌≤◌, Bool, true, false, not, if◌then◌else◌, List, length, min, max, fold, drop, replicate, get_or, length-drop, Some, slice_get, nat_lt, ap, sym, refl, subst, ◌∙◌, arith}
use Rattle.std.proofs.lemmas.List.{ext_get_or}
use Rattle.std.proofs.lemmas.Option.{same_Some, none-some, slice_get_within, get_or_from_slice_get}
use Rattle.mg_value.specs.Payload.{Plain}
use Rattle.mg_stream.specs.Queue.{count_of}
use Rattle.mg_stream.specs.Pool.{Backlog, empty_backlog}
use Rattle.mg_calc.specs.Rules.{Laws}
use Rattle.mg_calc.specs.declared.edge.Edge.{Edge}
use Rattle.mg_calc.specs.declared.plan.Plan.{Plan}
use Rattle.mg_calc.specs.declared.plan_node.PlanNode.{PlanNode}
use Rattle.mg_node.specs.Views.{IntakeView, EngineView}
use Rattle.mg_node.specs.Job.{LoggedJob}
use Rattle.mg_node.specs.Lawful.{Owner, of_node, of_input, LawfulEngine, Agree}
use Rattle.mg_node.specs.Begun.{LawfulUnbegun}
use Rattle.mg_node.specs.Claims.{has_ended}
use Rattle.mg_node.specs.Outputs.{without_first}
use Rattle.mg_node.specs.Ports.{port_queue}
use Rattle.mg_sched.specs.Views.{WorkQueueView, NetView}
use Rattle.mg_sched.specs.StandsFor.{IsEngine, IsCell, IsJoined, IsNetOf, StandsFor, StandsForSome}
use Rattle.mg_sched.specs.Trims.{came_of, got_by_all, is_kept, goes_of, TrimsEngine, Trims}
use Rattle.mg_sched.specs.Code.Outputs.{HasOutput, HaveOutputs, AreLaid, AreWithin, AllGiven}
use Rattle.mg_sched.proofs.Finding.{found, valid}
use Rattle.mg_sched.proofs.StreamOutputs.{IsBare, bare, have_outputs, laid_below, edge_laid}
use Rattle.mg_sched.proofs.Trimming.{came_there, least_low, least_came, given_yes}
use Rattle.mg_node.proofs.Lemmas.{window_out}
use Rattle.mg_sched.proofs.Works.{works_kept}

-- a number that is set to 0 if its stream is kept is no greater
kept_low : (b : Bool) (n m : ℕ) → n ≤ m → (if b then 0 else n) ≤ m
kept_low true n m low = omega arith
kept_low false n m low = low

-- the numbers of a net: what is laid, lowered, and 0 if the stream is kept
abbrev pub AreGot : NetView → List ℕ → List ℕ → Type 0
AreGot net laid got = (s : ℕ) → get_or got s 0 ≡ (if is_kept net s then 0 else fold min (get_or laid s 0) (came_of net.intakes net.plan.edges s))

goes_low : (net : NetView) (s : ℕ) (o : Backlog Plain) → goes_of net s o ≤ o.gone + length o.packets
goes_low net s o = kept_low (is_kept net s) (got_by_all net s o) (o.gone + length o.packets) (least_low (o.gone + length o.packets) (came_of net.intakes net.plan.edges s))

-- numbers that are what is laid and were lowered are within what is laid
pub lowered_within : (net : NetView) (laid got : List ℕ) → HaveOutputs net.plan net.engines → AreLaid net.engines (length net.plan.streams) laid → AreGot net laid got → AreWithin net.engines got
lowered_within net laid got have are lowered place port engine at within =
    let s : ℕ = engine.first + port in
    let own = are place port engine at within (laid_below net.plan s place port (have.each place port engine at within)) in
    let low = kept_low (is_kept net s) (fold min (get_or laid s 0) (came_of net.intakes net.plan.edges s)) (get_or laid s 0) (least_low (get_or laid s 0) (came_of net.intakes net.plan.edges s)) in
    let is = lowered s in
    omega (arith, own, low, is)

-- so each engine gives up what all have got
pub trims : {laws : Laws} (before now : NetView) (laid got : List ℕ) → now ≡ record before { engines = now.engines } → HaveOutputs before.plan before.engines → AreLaid before.engines (length before.plan.streams) laid
    → AreGot before laid got → AllGiven laws got (length before.plan.streams) before.engines now.engines → Trims before now
trims {laws} before now laid got parts have are lowered all = record {
  parts = parts;
  places = all.count;
  engines = λ place e e_now at at_now.
      (let g = all.engines place e e_now at at_now in
      record {
        rest = g.rest;
        count = g.count;
        outputs = λ port o o_now in_it in_it_now.
            (let s : ℕ = e.first + port in
            let within = slice_get_within e.outputs port o in_it in
            let below = laid_below before.plan s place port (have.each place port e at within) in
            let count = are place port e at within below ∙ ap (λ (b : Backlog Plain). b.gone + length b.packets) (get_or_from_slice_get e.outputs port o empty_backlog in_it) in
            let number = lowered s ∙ ap (λ (n : ℕ). if is_kept before s then 0 else fold min n (came_of before.intakes before.plan.edges s)) count in
            g.outputs port o o_now in_it in_it_now ∙ given_yes got (length before.plan.streams) s o below ∙ ap (λ (n : ℕ). without_first n o) number);
      });
}

-- an engine that isn't begun has nothing to give up
all_copies : {X : Type 0} (n i : ℕ) (x y : X) → slice_get (replicate n x) i ≡ Some y → y ≡ x
all_copies zero i x y at = absurd (none-some y at)
all_copies (suc n) zero x y at = sym (same_Some x y at)
all_copies (suc n) (suc i) x y at = all_copies n i x y at

none_kept : (n : ℕ) (o : Backlog Plain) → n ≤ 0 → o ≡ empty_backlog → without_first n o ≡ o
none_kept zero o low is = subst (λ (b : Backlog Plain). without_first zero b ≡ b) (sym is) refl
none_kept (suc n) o low is = absurd (omega (arith, low))

bare_stays : (net : NetView) (node : PlanNode) (e e_now : EngineView) → IsBare node e → TrimsEngine net e e_now → e_now ≡ e
bare_stays net node e e_now b t =
    let same : e_now.outputs ≡ e.outputs = ext_get_or empty_backlog e_now.outputs e.outputs t.count (λ i less.
    (let count = t.count in
    let o = found e.outputs i (omega (arith, less, count)) in
    let o_now = found e_now.outputs i less in
    let is : o.0 ≡ empty_backlog = all_copies (length node.outputs) i empty_backlog o.0 (ap (λ (bs : List (Backlog Plain)). slice_get bs i) (sym b.outputs) ∙ o.1) in
    let none : o.0.gone + length o.0.packets ≡ 0 = ap (λ (x : Backlog Plain). x.gone + length x.packets) is in
    let low = goes_low net (e.first + i) o.0 in
    get_or_from_slice_get e_now.outputs i o_now.0 empty_backlog o_now.1 ∙ t.outputs i o.0 o_now.0 o.1 o_now.1
    ∙ none_kept (goes_of net (e.first + i) o.0) o.0 (omega (arith, low, none)) is ∙ sym (get_or_from_slice_get e.outputs i o.0 empty_backlog o.1))) in
    t.rest ∙ ap (λ (bs : List (Backlog Plain)). (let v : EngineView = record e { outputs = bs } in v)) same

-- it stays lawful, begun or not
engine_stays : {laws : Laws} (job : LoggedJob laws) (net : NetView) (b : Bool) (n : ℕ) (node : PlanNode) (e e_now : EngineView) → slice_get job.job.plan.nodes n ≡ Some node → TrimsEngine net e e_now
    → (LawfulEngine job (of_node n) e → LawfulEngine job (of_node n) e_now) → IsEngine job b n e → IsEngine job b n e_now
engine_stays {laws} job net true n node e e_now there t lawful h = lawful h
engine_stays {laws} job net false n node e e_now there t lawful h = subst (LawfulUnbegun job n) (sym (bare_stays net node e e_now (bare job n node e there h) t)) h

cell_stays : {laws : Laws} (job : LoggedJob laws) (net : NetView) (b : Bool) (n : ℕ) (e e_now : EngineView) (i : IntakeView) (d : WorkQueueView) → TrimsEngine net e e_now → IsEngine job b n e_now → IsCell job b n e i d → IsCell job b n e_now i d
cell_stays {laws} job net b n e e_now i d t lawful cell = record {
  lawful_engine = lawful;
  lawful_intake = cell.lawful_intake;
  agree = subst (λ (v : EngineView). Agree v i) (sym t.rest) cell.agree;
  works = works_kept job e e_now d (ap (λ (v : EngineView). v.in_flight) t.rest)
      (window_out e e_now (ap (λ (v : EngineView). v.node) t.rest) (ap (λ (v : EngineView). v.laid) t.rest) (ap (λ (v : EngineView). v.window) t.rest)) cell.works;
}

-- an output that gives up no more than is laid has as many packets in all
same_count : (n : ℕ) (o : Backlog Plain) → n ≤ o.gone + length o.packets → max o.gone n + length (drop (n - o.gone) o.packets) ≡ o.gone + length o.packets
same_count n o low = omega (arith, low, length-drop (n - o.gone) o.packets)

-- an edge stays joined
joined_stays : (net : NetView) (number port : ℕ) (edge : Edge) (e e_now : EngineView) (i : IntakeView) → slice_get net.plan.edges number ≡ Some edge → HasOutput edge.stream port e → slice_get net.intakes edge.node ≡ Some i → TrimsEngine net e e_now → IsJoined e edge i
    → IsJoined e_now edge i
joined_stays net number port edge e e_now i at has to t joined =
    let first = ap (λ (v : EngineView). v.first) t.rest in
    let is = has.stream_is in let less = has.within in let count = t.count in
    let o = found e.outputs port less in
    let o_now = found e_now.outputs port (omega (arith, less, count)) in
    let place : edge.stream - e.first ≡ port = omega (arith, is) in
    let place_now : edge.stream - e_now.first ≡ port = omega (arith, is, first) in
    let was : get_or e.outputs (edge.stream - e.first) empty_backlog ≡ o.0 = ap (λ (k : ℕ). get_or e.outputs k empty_backlog) place ∙ get_or_from_slice_get e.outputs port o.0 empty_backlog o.1 in
    let n : ℕ = goes_of net (e.first + port) o.0 in
    let now_is : get_or e_now.outputs (edge.stream - e_now.first) empty_backlog ≡ without_first n o.0 =
    ap (λ (k : ℕ). get_or e_now.outputs k empty_backlog) place_now ∙ get_or_from_slice_get e_now.outputs port o_now.0 empty_backlog o_now.1 ∙ t.outputs port o.0 o_now.0 o.1 o_now.1 in
    let low : n ≤ o.0.gone + length o.0.packets = goes_low net (e.first + port) o.0 in
    let came : n ≤ count_of (port_queue i.waits edge.port) =
    kept_low (is_kept net (e.first + port)) (got_by_all net (e.first + port) o.0) (count_of (port_queue i.waits edge.port))
    (let c = least_came net.intakes net.plan.edges number (o.0.gone + length o.0.packets) (e.first + port) edge at (sym is) in let there = came_there net.intakes edge i to in omega (arith, c, there)) in
    let all = same_count n o.0 low in
    let more = joined.came.count in
    let bound = joined.came.bound in
    let kept = joined.kept in
    let was_gone = ap (λ (b : Backlog Plain). b.gone) was in
    let was_all = ap (λ (b : Backlog Plain). b.gone + length b.packets) was in
    let was_bound = ap (λ (b : Backlog Plain). b.bound) was in
    let now_gone = ap (λ (b : Backlog Plain). b.gone) now_is in
    let now_all = ap (λ (b : Backlog Plain). b.gone + length b.packets) now_is in
    let now_bound = ap (λ (b : Backlog Plain). b.bound) now_is in
    record {
      came = record { count = omega (arith, more, was_all, now_all, all); bound = omega (arith, bound, was_bound, now_bound) };
      kept = omega (arith, kept, was_gone, now_gone, came);
    }

pub trim_stands : {laws : Laws} (job : LoggedJob laws) (before now : NetView) → StandsFor job before → Trims before now
    → ((place : ℕ) (e e_now : EngineView) (owner : Owner) → slice_get before.engines place ≡ Some e → slice_get now.engines place ≡ Some e_now → LawfulEngine job owner e → LawfulEngine job owner e_now) → StandsFor job now
unfolding StandsFor
trim_stands {laws} job before now h t lawful =
    let old : (place : ℕ) (e_now : EngineView) → slice_get now.engines place ≡ Some e_now → (e : EngineView) × (slice_get before.engines place ≡ Some e) =
    λ place e_now at. found before.engines place (let less = slice_get_within now.engines place e_now at in let count = t.places in omega (arith, less, count)) in
    let ok = valid before (record { job = job; stands = h }) in
    let have = have_outputs job before h in
    subst (λ (v : NetView). IsNetOf job v) (sym t.parts) (record {
      is_job = h.is_job;
      plan = h.plan;
      given = h.given;
      engines = t.places ∙ h.engines;
      intakes = h.intakes;
      work_queues = h.work_queues;
      cells = λ n e_now i d at to on.
          (let e = old n e_now at in
          let s = t.engines n e.0 e_now e.1 at in
          let cell = h.cells n e.0 i d e.1 to on in
          let work_queues = h.work_queues in
          let less = slice_get_within before.work_queues n d on in
          let node = found before.plan.nodes n (omega (arith, less, work_queues)) in
          cell_stays job before (nat_lt n before.begun) n e.0 e_now i d s
          (engine_stays job before (nat_lt n before.begun) n node.0 e.0 e_now (subst (λ (plan : Plan). slice_get plan.nodes n ≡ Some node.0) h.plan node.1) s (lawful n e.0 e_now (of_node n) e.1 at) cell.lawful_engine) cell);
      inputs = λ input e_now at.
          (let e = old (length before.plan.nodes + input) e_now at in
          lawful (length before.plan.nodes + input) e.0 e_now (of_input input) e.1 at (h.inputs input e.0 e.1));
      collector = h.collector;
      edges = λ edge number place e_now i at from at_e to.
          (let e = old place e_now at_e in
          let laid = edge_laid before.plan number place edge ok at from in
          joined_stays before number laid.0 edge e.0 e_now i at (have.output edge.stream place laid.0 e.0 laid.1 e.1) to (t.engines place e.0 e_now e.1 at_e) (h.edges edge number place e.0 i at from e.1 to));
      limits = record {
        of_plan = h.limits.of_plan;
        queues = λ number edge q at_edge at_q.
            (let knows = h.limits.queues number edge q at_edge at_q in
            record {
              waiting = knows.waiting;
              counts = λ e_now less at.
                  (let e = old edge.node e_now at in
                  knows.counts e.0 less e.1 ∙ sym (ap (λ (v : EngineView). not (has_ended v)) (t.engines edge.node e.0 e_now e.1 at).rest));
            });
      };
      spare = h.spare;
      kept = h.kept;
      begun = h.begun;
      not_wound = h.not_wound;
    })

-- The same of a net as it is kept.

pub net_within : {laws : Laws} (shown net : NetView) (laid got : List ℕ) → shown ≡ net → StandsForSome laws net → AreLaid shown.engines (length shown.plan.streams) laid → AreGot shown laid got → AreWithin shown.engines got
net_within {laws} shown net laid got is h are lowered = lowered_within shown laid got (subst (λ (v : NetView). HaveOutputs v.plan v.engines) (sym is) (have_outputs h.job net h.stands)) are lowered

pub net_trims : {laws : Laws} (shown before now : NetView) (laid got : List ℕ) → shown ≡ before → StandsForSome laws before → now ≡ record shown { engines = now.engines } → AreLaid shown.engines (length shown.plan.streams) laid
    → AreGot shown laid got → AllGiven laws got (length shown.plan.streams) shown.engines now.engines → Trims before now
net_trims {laws} shown before now laid got is h parts are lowered all = subst (λ (v : NetView). Trims v now) is (trims shown now laid got parts (subst (λ (v : NetView). HaveOutputs v.plan v.engines) (sym is) (have_outputs h.job before h.stands)) are lowered all)

pub net_stands : {laws : Laws} (shown before now : NetView) (got : List ℕ) → shown ≡ before → Trims before now → AllGiven laws got (length shown.plan.streams) shown.engines now.engines → (job : LoggedJob laws) → StandsFor job before → StandsFor job now
net_stands {laws} shown before now got is t all job h =
    let own = subst (λ (v : NetView). AllGiven laws got (length v.plan.streams) v.engines now.engines) is all in
    trim_stands job before now h t (λ place e e_now owner at at_now lawful. (own.engines place e e_now at at_now).lawful job owner lawful)

-- The parts of one net can be shared.
use Rattle.std.proofs.Common.{◌≡◌, ℕ, ◌+◌, ◌-◌, ◌*◌, ◌<◌, ◌≤◌, true, List, length, Option, Some, option_map, is_some, slice_get, slice_index_or, slice_index, inl, inr, refl, ap, sym, subst, ◌∙◌, arith}
use Rattle.std.proofs.lemmas.Bool.{false≢true}
use Rattle.std.proofs.lemmas.List.{length-map}
use Rattle.std.proofs.lemmas.Option.{slice_get_within}
use Rattle.mg_value.specs.Payload.{Plain}
use Rattle.mg_stream.specs.Pool.{Backlog}
use Rattle.mg_calc.specs.Rules.{Laws}
use Rattle.mg_calc.specs.declared.edge.Edge.{Edge}
use Rattle.mg_calc.specs.declared.plan_stream.PlanStream.{PlanStream}
use Rattle.mg_calc.specs.declared.plan_stream.Producer.{Producer}
use Rattle.mg_calc.specs.declared.plan_stream.Producer.TheVariants.{Input, Node}
use Rattle.mg_node.specs.Views.{IntakeView, EntryView, EngineView}
use Rattle.mg_node.specs.Job.{LoggedJob}
use Rattle.mg_node.specs.Lawful.{Owner, of_node, of_input, LawfulEngine, LawfulIntake, Agree}
use Rattle.mg_node.specs.Leaving.{NoneOut}
use Rattle.mg_node.proofs.Making.{some_same}
use Rattle.mg_sched.specs.Places.{place_of}
use Rattle.mg_sched.specs.ComesApart.{PartsView, ArePartsOf, IsInPlace}
use Rattle.mg_calc.specs.Plan.{IsValid}
use Rattle.mg_node.specs.IntakeStanding.{HasGrown}
use Rattle.mg_node.specs.Leading.{output_at}
use Rattle.mg_node.specs.Ports.{port_queue}
use Rattle.mg_sched.specs.StandsFor.{IsJoined}
use Rattle.mg_sched.proofs.EdgesInPlace.{in_place}
use Rattle.mg_sched.proofs.PlanEdges.{edge_stream, all_at}
use Rattle.mg_sched.proofs.PlanStreams.{WrittenBy, producer_there}
use Rattle.mg_sched.proofs.Finding.{found}
use Rattle.mg_turns.specs.Words.{Whose, intake_of, engine_of, word_at}
use Rattle.mg_turns.specs.Parts.{PartView, LayoutView, blank_part, at, owner_in, an_engine, an_intake, IsKind, LawfulPart, Fits, FitsSome, first_in, gone_in, arrived_in, AgreeParts, IsMissingIn, writer_by, source_at, JoinedParts, EdgesFit}
use Rattle.mg_turns.specs.Rule.{Ready}
use Rattle.mg_turns.proofs.Words.{intake_at, engine_at, input_at}
use Rattle.mg_turns.proofs.Appends.{gone_get}
use Rattle.mg_workers.specs.Woven.{woven, layout_of}
use Rattle.mg_workers.proofs.Places.{woven_long, intake_slot, engine_slot, input_slot, word_kind}

module _ {laws : Laws} (job : LoggedJob laws) (ps : PartsView) (h : ArePartsOf job ps) where
  abbrev n : ℕ
  n = length ps.plan.nodes

  abbrev key : LayoutView
  key = layout_of ps

  engines_long : n ≤ length ps.engines
  engines_long = (let c = h.engine_count in omega (arith, c))

  intakes_long : n < length ps.intakes
  intakes_long = (let c = h.intake_count in omega (arith, c))

  pub parts_long : length key.parts ≡ 2 * n + 1 + length ps.plan.inputs
  parts_long = (let e = h.engine_count in let i = h.intake_count in omega (arith, woven_long n ps.engines ps.intakes, e, i))

  intake_there : (m : ℕ) → m ≤ n → (i : IntakeView) × (slice_get ps.intakes m ≡ Some i) × (at key (2 * m) ≡ an_intake i)
  intake_there m few =
      let long = intakes_long in
      let i = found ps.intakes m (omega (arith, few, long)) in
      (i.0, i.1, intake_slot n m ps.engines ps.intakes i.0 few engines_long intakes_long i.1)

  engine_there : (m : ℕ) → m < n → (e : EngineView) × (slice_get ps.engines m ≡ Some e) × (at key (2 * m + 1) ≡ an_engine e)
  engine_there m few =
      let long = engines_long in
      let e = found ps.engines m (omega (arith, few, long)) in
      (e.0, e.1, engine_slot n m ps.engines ps.intakes e.0 few engines_long intakes_long e.1)

  input_there : (j : ℕ) → j < length ps.plan.inputs → (e : EngineView) × (slice_get ps.engines (n + j) ≡ Some e) × (at key (2 * n + 1 + j) ≡ an_engine e)
  input_there j few =
      let c = h.engine_count in
      let e = found ps.engines (n + j) (omega (arith, few, c)) in
      (e.0, e.1, input_slot n j ps.engines ps.intakes e.0 engines_long h.intake_count e.1)

  -- what holds of a part by whose it is
  by_word : (P : Whose → PartView → Type 0) → ((m : ℕ) (i : IntakeView) → m ≤ n → slice_get ps.intakes m ≡ Some i → P (intake_of m) (an_intake i)) → ((m : ℕ) (e : EngineView) → m < n → slice_get ps.engines m ≡ Some e → P (engine_of (of_node m)) (an_engine e))
      → ((j : ℕ) (e : EngineView) → slice_get ps.engines (n + j) ≡ Some e → P (engine_of (of_input j)) (an_engine e)) → (word : ℕ) → word < length key.parts → P (owner_in key word) (at key word)
  by_word P a b c word within = elim (word_kind n word) [
    | inl x ↦ (
        let it = intake_there x.0 x.1 in
        subst (λ (k : ℕ). P (owner_in key k) (at key k)) (sym x.2) (subst (λ (w : Whose). P w (at key (2 * x.0))) (sym (intake_at n x.0 x.1)) (subst (λ (p : PartView). P (intake_of x.0) p) (sym it.2) (a x.0 it.0 x.1 it.1))))
    | inr (inl x) ↦ (
        let it = engine_there x.0 x.1 in
        subst (λ (k : ℕ). P (owner_in key k) (at key k)) (sym x.2) (subst (λ (w : Whose). P w (at key (2 * x.0 + 1))) (sym (engine_at n x.0 x.1)) (subst (λ (p : PartView). P (engine_of (of_node x.0)) p) (sym it.2) (b x.0 it.0 x.1 it.1))))
    | inr (inr x) ↦ (
        let long = parts_long in let is = x.1 in
        let it = input_there x.0 (omega (arith, within, long, is)) in
        subst (λ (k : ℕ). P (owner_in key k) (at key k)) (sym x.1) (subst (λ (w : Whose). P w (at key (2 * n + 1 + x.0))) (sym (input_at n x.0)) (subst (λ (p : PartView). P (engine_of (of_input x.0)) p) (sym it.2) (c x.0 it.0 it.1))))
  ]

  kinds : (word : ℕ) → word < length key.parts → IsKind (owner_in key word) (at key word)
  kinds = by_word IsKind (λ m i few here. (i, refl)) (λ m e few here. (e, refl)) (λ j e here. (e, refl))

  pub fits : Fits job key
  fits = record {
    plan = sym h.plan;
    parts = by_word (LawfulPart job) (λ m i few here j is. subst (λ (v : IntakeView). LawfulIntake job m v) (some_same (Some i) i j refl is) (h.intakes m i here))
        (λ m e few here f is. subst (λ (v : EngineView). LawfulEngine job (of_node m) v) (some_same (Some e) e f refl is) (h.engines m e few here))
        (λ j e here f is. subst (λ (v : EngineView). LawfulEngine job (of_input j) v) (some_same (Some e) e f refl is) (h.inputs j e here));
  }

  pub some_fits : FitsSome laws key
  some_fits = record { job = job; fits = fits }

  -- Edges.

  module _ (k : ℕ) (e : Edge) (there : slice_get ps.plan.edges k ≡ Some e) where
    abbrev place : IsInPlace ps k e
    place = in_place job ps k e h there

    -- the engine from which the edge leads is the part at its word, if these are the engines and the intakes
    abbrev Leads : List EngineView → List IntakeView → EngineView → Option Producer → Type 0
    Leads es is engine o =
        (owner : Owner) × (owner_in key (word_at n (engine_of (writer_by o))) ≡ engine_of owner) × (word_at n (engine_of (writer_by o)) < length key.parts)
        × (slice_index_or (woven n es is) (word_at n (engine_of (writer_by o))) blank_part ≡ an_engine engine)

    leads_by : (es : List EngineView) (is : List IntakeView) (engine : EngineView) → n ≤ length es → length is ≡ n + 1 → slice_get es place.place ≡ Some engine → (p : Producer) → WrittenBy ps.plan e.stream p → place_of ps.plan p ≡ place.place → Leads es is engine (Some p)
    leads_by es is engine engines intakes at_it (Input j) w same =
        let long = parts_long in let less = w.1 in
        (of_input j, input_at n j, omega (arith, long, less), input_slot n j es is engine engines intakes (ap (λ (x : ℕ). slice_get es x) same ∙ at_it))
    leads_by es is engine engines intakes at_it (Node m port) w same =
        let within = slice_get_within ps.plan.nodes m w.0 w.1 in let long = parts_long in
        (of_node m, engine_at n m within, omega (arith, long, within), engine_slot n m es is engine within engines (omega (arith, intakes)) (ap (λ (x : ℕ). slice_get es x) same ∙ at_it))

    pub leads_from : (es : List EngineView) (is : List IntakeView) (engine : EngineView) → n ≤ length es → length is ≡ n + 1 → slice_get es place.place ≡ Some engine → Leads es is engine (option_map (λ (s : PlanStream). s.producer) (slice_get ps.plan.streams e.stream))
    leads_from es is engine engines intakes at_it =
        let valid : IsValid ps.plan = subst IsValid (sym h.plan) h.is_job.plan in
        let it = producer_there ps.plan valid e.stream (edge_stream ps.plan valid k e there) in
        let writes : option_map (λ (s : PlanStream). s.producer) (slice_get ps.plan.streams e.stream) ≡ Some it.0.producer = ap (option_map (λ (s : PlanStream). s.producer)) it.1 in
        let same : place_of ps.plan it.0.producer ≡ place.place = some_same (Some (place_of ps.plan it.0.producer)) (place_of ps.plan it.0.producer) place.place refl (sym (ap (option_map (place_of ps.plan)) writes) ∙ place.from) in
        subst (Leads es is engine) (sym writes) (leads_by es is engine engines intakes at_it it.0.producer it.2 same)

    source_there : Leads ps.engines ps.intakes place.engine (option_map (λ (s : PlanStream). s.producer) (slice_get ps.plan.streams e.stream))
    source_there = leads_from ps.engines ps.intakes place.engine engines_long h.intake_count place.at

    consumer_within : e.node ≤ n
    consumer_within = (let c = h.intake_count in let w = slice_get_within ps.intakes e.node place.intake place.to in omega (arith, c, w))

    consumer_there : at key (2 * e.node) ≡ an_intake place.intake
    consumer_there = intake_slot n e.node ps.engines ps.intakes place.intake consumer_within engines_long intakes_long place.to

    joint : IsJoined place.engine e place.intake
    joint = h.edges e k place.place place.engine place.intake there place.from place.at place.to

    leaves : (first_in (at key (source_at ps.plan e)) ≤ e.stream) × (e.stream < first_in (at key (source_at ps.plan e)) + length (gone_in (at key (source_at ps.plan e))))
    leaves = subst (λ (p : PartView). (first_in p ≤ e.stream) × (e.stream < first_in p + length (gone_in p))) (sym source_there.3)
        (place.leaves.from, (let b = place.leaves.below in omega (arith, b, length-map place.engine.outputs (λ (b : Backlog Plain). b.gone))))

    kept : slice_index (gone_in (at key (source_at ps.plan e))) (e.stream - first_in (at key (source_at ps.plan e))) ≤ arrived_in (at key (2 * e.node)) e.port
    kept = subst (λ (p : PartView). slice_index (gone_in p) (e.stream - first_in p) ≤ arrived_in (at key (2 * e.node)) e.port) (sym source_there.3)
        (subst (λ (q : PartView). slice_index (gone_in (an_engine place.engine)) (e.stream - place.engine.first) ≤ arrived_in q e.port) (sym consumer_there)
        (let low = joint.kept in omega (arith, low, gone_get place.engine.outputs (e.stream - place.engine.first))))

    joined : JoinedParts (at key (source_at ps.plan e)) e (at key (2 * e.node))
    joined = subst (λ (p : PartView). JoinedParts p e (at key (2 * e.node))) (sym source_there.3) (subst (λ (q : PartView). JoinedParts (an_engine place.engine) e q) (sym consumer_there)
        (λ g i is is'. subst (λ (v : EngineView). HasGrown (port_queue i.waits e.port) (output_at v e)) (some_same (Some place.engine) place.engine g refl is)
        (subst (λ (v : IntakeView). HasGrown (port_queue v.waits e.port) (output_at place.engine e)) (some_same (Some place.intake) place.intake i refl is') joint.came)))

  pub edges_fit : EdgesFit key
  edges_fit = record {
    sources = λ k e there. (let s = source_there k e there in record { owner = s.0; is = s.1; within = s.2 });
    consumers = λ k e there. consumer_within k e there;
    ports = λ k e there. (place k e there).port;
    leaves = λ k e there. leaves k e there;
    kept = λ k e there. kept k e there;
    apart = λ k l e x ne at_e at_x node same. ne (sym ((place k e at_e).alone l x at_x (sym node) (sym same)));
  }

  matched : (m : ℕ) → m < n → AgreeParts (at key (2 * m + 1)) (at key (2 * m))
  matched m few =
      let e = engine_there m few in let i = intake_there m (omega (arith, few)) in
      subst (λ (p : PartView). AgreeParts p (at key (2 * m))) (sym e.2) (subst (λ (q : PartView). AgreeParts (an_engine e.0) q) (sym i.2)
      (λ f j is is'. subst (λ (v : EngineView). Agree v j) (some_same (Some e.0) e.0 f refl is) (subst (λ (v : IntakeView). Agree e.0 v) (some_same (Some i.0) i.0 j refl is') (h.agree m e.0 i.0 few e.1 i.1))))

  none_missing : (m number : ℕ) → m < n → IsMissingIn (at key (2 * m + 1)) number → ⊥
  none_missing m number few missing =
      let e = engine_there m few in
      let it : IsMissingIn (an_engine e.0) number = subst (λ (p : PartView). IsMissingIn p number) e.2 missing in
      let entries = h.none_out m e.0 few e.1 in
      let here = all_at (λ (x : EntryView). is_some x.outcome ≡ true) it.0.window it.2.place it.2.entry it.2.there (subst NoneOut (some_same (Some e.0) e.0 it.0 refl it.1) entries) in
      false≢true (sym (ap is_some it.2.missing) ∙ here)

  pub can_be_shared : Ready key
  can_be_shared = record {
    few = (let long = parts_long in omega (arith, long));
    edges = edges_fit;
    joined = λ k e there. joined k e there;
    kinds = kinds;
    matched = matched;
    none = none_missing;
  }

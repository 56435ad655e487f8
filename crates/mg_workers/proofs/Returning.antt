-- The parts that come back of a shared net are those of one net, and it is what the shared one became.
use Rattle.std.proofs.Common.{◌≡◌, ℕ, ◌+◌, ◌-◌, ◌*◌, ◌<◌, ◌≤◌, true, false, List, [], ◌∷◌, ◌++◌, map, reverse, length, Option, Some, None, is_some, option_map, unwrap_or, slice_get, slice_index_or, slice_index, get_or, append-nil, inl, inr, refl, ap, sym, subst, ◌∙◌, arith}
use Rattle.std.proofs.lemmas.Bool.{cases_Bool, false≢true}
use Rattle.std.proofs.lemmas.Option.{slice_get_within, slice_get-get_or}
use Rattle.mg_value.specs.Payload.{Plain}
use Rattle.mg_stream.specs.Pool.{Backlog}
use Rattle.mg_stream.specs.Queue.{count_of}
use Rattle.mg_calc.specs.Rules.{Laws}
use Rattle.mg_calc.specs.declared.edge.Edge.{Edge}
use Rattle.mg_node.specs.Views.{IntakeView, WorkView, OutcomeView, EngineView}
use Rattle.mg_node.specs.Job.{LoggedJob}
use Rattle.mg_node.specs.Lawful.{of_node, of_input}
use Rattle.mg_node.specs.Leaving.{NoneOut}
use Rattle.mg_node.specs.Windows.{has_ended}
use Rattle.mg_node.specs.Standing.{EngineGrows}
use Rattle.mg_node.specs.IntakeStanding.{IntakeGrows}
use Rattle.mg_node.specs.Ports.{port_queue}
use Rattle.mg_node.proofs.Making.{some_same}
use Rattle.mg_sched.specs.Views.{NetView}
use Rattle.mg_sched.specs.Places.{source_of}
use Rattle.mg_sched.specs.StandsFor.{IsJoined, StandsFor, StandsForSome}
use Rattle.mg_sched.specs.Taking.{taken_out}
use Rattle.mg_sched.specs.ComesApart.{PartsView, all_shelved, HasComeApart, ArePartsOf, AreParts, IsPutTogether}
use Rattle.mg_sched.proofs.EdgesInPlace.{in_place}
use Rattle.mg_sched.proofs.Finding.{found}
use Rattle.mg_sched.proofs.NothingGone.{gones, HadGone, has_from}
use Rattle.mg_sched.proofs.WoundNets.{order_of}
use Rattle.mg_turns.specs.Words.{Whose, intake_of, engine_of}
use Rattle.mg_turns.specs.Parts.{PartView, LayoutView, blank_part, at, nodes_in, owner_in, an_engine, an_intake, LawfulPart, Grown, gone_in, first_in, arrived_by, claimed_by, source_at}
use Rattle.mg_turns.specs.Ends.{Unshared}
use Rattle.mg_turns.specs.declared.view.View.{View}
use Rattle.mg_turns.proofs.Words.{intake_at, engine_at, input_at}
use Rattle.mg_turns.proofs.Appends.{gone_get}
use Rattle.mg_workers.specs.Woven.{woven, layout_of}
use Rattle.mg_workers.specs.Shared.{KeptView, IsSharedOf}
use Rattle.mg_workers.specs.Became.{Became}
use Rattle.mg_workers.specs.Code.Weaving.{engines_in, intakes_in, AreKinds}
use Rattle.mg_workers.proofs.Places.{intake_slot, engine_slot, input_slot}
use Rattle.mg_workers.proofs.Weaves.{IsWoven, is_woven}
use Rattle.mg_workers.proofs.Layouts.{fits, parts_long, edges_fit, leads_from}

is_there : (o : Option OutcomeView) → (o ≡ None → ⊥) → is_some o ≡ true
is_there None not_none = absurd (not_none refl)
is_there (Some x) not_none = refl

-- what hasn't ended hadn't
going_before : (before now : EngineView) → EngineGrows before now → has_ended now ≡ false → has_ended before ≡ false
going_before before now grows going = elim (cases_Bool (has_ended before)) [
  | inl ended ↦ absurd (false≢true (sym going ∙ grows.ended ended))
  | inr goes ↦ goes
]

-- a port counts no fewer packets afterwards
count_grows : (a : Option IntakeView) (i : IntakeView) (port : ℕ) → Grown IntakeGrows a (Some i) → arrived_by a port ≤ count_of (port_queue i.waits port)
count_grows None i port g = omega arith
count_grows (Some x) i port g = (g.ports port).count

-- the number of sets that were taken of an intake among others
taken_at : (is : List IntakeView) (n : ℕ) (i : IntakeView) → slice_get is n ≡ Some i → unwrap_or (option_map (λ (x : IntakeView). x.claimed) (slice_get is n)) 0 ≡ i.claimed
taken_at is n i there = ap (λ (o : Option IntakeView). unwrap_or (option_map (λ (x : IntakeView). x.claimed) o) 0) there

module _ {laws : Laws} (job : LoggedJob laws) (ps : PartsView) (h : ArePartsOf job ps) (v : View) (parts : List PartView) (u : Unshared laws (layout_of ps) v parts) where
  abbrev n : ℕ
  n = length ps.plan.nodes

  abbrev key : LayoutView
  key = layout_of ps

  abbrev es : List EngineView
  es = engines_in parts

  abbrev is : List IntakeView
  is = intakes_in parts

  long : length parts ≡ 2 * n + 1 + length ps.plan.inputs
  long = u.count ∙ parts_long job ps h

  pub kinds_back : AreKinds n parts
  kinds_back = λ word within. (let c = u.count in (u.follows word (omega (arith, within, c))).kind)

  woven_back : IsWoven n parts
  woven_back = (let l = long in is_woven n parts kinds_back (omega (arith, l)))

  enough : n ≤ length es
  enough = (let w = woven_back.engines in let l = long in omega (arith, w, l))

  enough_intakes : n < length is
  enough_intakes = (let w = woven_back.intakes in omega (arith, w))

  intake_is : (m : ℕ) (i : IntakeView) → m ≤ n → slice_get is m ≡ Some i → slice_index_or parts (2 * m) blank_part ≡ an_intake i
  intake_is m i few there = subst (λ (xs : List PartView). slice_index_or xs (2 * m) blank_part ≡ an_intake i) (sym woven_back.woven_is) (intake_slot n m es is i few enough enough_intakes there)

  engine_is : (m : ℕ) (e : EngineView) → m < n → slice_get es m ≡ Some e → slice_index_or parts (2 * m + 1) blank_part ≡ an_engine e
  engine_is m e few there = subst (λ (xs : List PartView). slice_index_or xs (2 * m + 1) blank_part ≡ an_engine e) (sym woven_back.woven_is) (engine_slot n m es is e few enough enough_intakes there)

  input_is : (j : ℕ) (e : EngineView) → slice_get es (n + j) ≡ Some e → slice_index_or parts (2 * n + 1 + j) blank_part ≡ an_engine e
  input_is j e there = subst (λ (xs : List PartView). slice_index_or xs (2 * n + 1 + j) blank_part ≡ an_engine e) (sym woven_back.woven_is) (input_slot n j es is e enough woven_back.intakes there)

  lawful_of : (word : ℕ) (w : Whose) → word < length key.parts → owner_in key word ≡ w → LawfulPart job w (slice_index_or parts word blank_part)
  lawful_of word w within same = subst (λ (x : Whose). LawfulPart job x (slice_index_or parts word blank_part)) same ((u.follows word within).lawful job (fits job ps h))

  few_words : (m : ℕ) → m ≤ n → 2 * m < length key.parts
  few_words m few = (let l = parts_long job ps h in omega (arith, few, l))

  few_engines : (m : ℕ) → m < n → 2 * m + 1 < length key.parts
  few_engines m few = (let l = parts_long job ps h in omega (arith, few, l))

  few_inputs : (j : ℕ) (e : EngineView) → slice_get es (n + j) ≡ Some e → 2 * n + 1 + j < length key.parts
  few_inputs j e there = (let w = slice_get_within es (n + j) e there in let c = woven_back.engines in let l = long in let k = parts_long job ps h in omega (arith, w, c, l, k))

  none_out : (m : ℕ) (e : EngineView) → m < n → slice_get es m ≡ Some e → NoneOut e
  none_out m e few there = λ k d less.
      let entry = get_or e.window k d in
      is_there entry.outcome (λ missing. u.none m (e.laid + k) few (
        e,
        ap (λ (p : PartView). p.engine) (engine_is m e few there),
        record {
          place = k;
          number_is = refl;
          entry = entry;
          there = slice_get-get_or e.window k d less;
          missing = missing;
        },
      ))

  edge_back : (e : Edge) (number place : ℕ) (engine : EngineView) (intake : IntakeView) → slice_get ps.plan.edges number ≡ Some e → source_of ps.plan e ≡ Some place
      → slice_get es place ≡ Some engine → slice_get is e.node ≡ Some intake → IsJoined engine e intake
  edge_back e number place engine intake at_e from at_engine at_intake =
      let pl = in_place job ps number e h at_e in
      let place_is : place ≡ pl.place = some_same (source_of ps.plan e) place pl.place from pl.from in
      let leads = leads_from job ps h number e at_e es is engine enough woven_back.intakes (ap (λ (x : ℕ). slice_get es x) (sym place_is) ∙ at_engine) in
      let source = source_at ps.plan e in
      let w = woven_back.intakes in let i_within = slice_get_within is e.node intake at_intake in
      let consumer : e.node ≤ n = omega (arith, w, i_within) in
      let here : slice_index_or parts source blank_part ≡ an_engine engine = subst (λ (xs : List PartView). slice_index_or xs source blank_part ≡ an_engine engine) (sym woven_back.woven_is) leads.3 in
      let to : slice_index_or parts (2 * e.node) blank_part ≡ an_intake intake = intake_is e.node intake consumer at_intake in
      let f = u.follows source leads.2 in
      let gave : map (λ (b : Backlog Plain). b.gone) engine.outputs ≡ gone_in (at key source) = subst (λ (p : PartView). gone_in p ≡ gone_in (at key source)) here f.gave_up in
      let first : engine.first ≡ first_in (at key source) = subst (λ (p : PartView). first_in p ≡ first_in (at key source)) here f.first in
      let kept = (edges_fit job ps h).kept number e at_e in
      let same : slice_index (map (λ (b : Backlog Plain). b.gone) engine.outputs) (e.stream - engine.first) ≡ slice_index (gone_in (at key source)) (e.stream - first_in (at key source)) =
      ap (λ (x : List ℕ). slice_index x (e.stream - engine.first)) gave ∙ ap (λ (x : ℕ). slice_index (gone_in (at key source)) (e.stream - x)) first in
      let more = count_grows (at key (2 * e.node)).intake intake e.port (subst (λ (p : PartView). Grown IntakeGrows (at key (2 * e.node)).intake p.intake) to (u.follows (2 * e.node) (few_words e.node consumer)).grows.intake) in
      record {
        came = u.joined number e at_e engine intake (ap (λ (p : PartView). p.engine) here) (ap (λ (p : PartView). p.intake) to);
        kept = omega (arith, kept, same, more, gone_get engine.outputs (e.stream - engine.first));
      }

  grew : (m : ℕ) (before now : EngineView) → m < n → slice_get ps.engines m ≡ Some before → slice_get es m ≡ Some now → EngineGrows before now
  grew m before now few old new =
      let c = h.engine_count in let d = h.intake_count in
      let was : at key (2 * m + 1) ≡ an_engine before = engine_slot n m ps.engines ps.intakes before few (omega (arith, c)) (omega (arith, d)) old in
      subst (λ (p : PartView). Grown EngineGrows p.engine (Some now)) was
      (subst (λ (p : PartView). Grown EngineGrows (at key (2 * m + 1)).engine p.engine) (engine_is m now few new) (u.follows (2 * m + 1) (few_engines m few)).grows.engine)

  pub parts_back : ArePartsOf job (record ps { engines = es; intakes = is })
  parts_back = record {
    is_job = h.is_job;
    plan = h.plan;
    engine_count = (let w = woven_back.engines in let l = long in omega (arith, w, l));
    intake_count = woven_back.intakes;
    engines = λ node engine few there. lawful_of (2 * node + 1) (engine_of (of_node node)) (few_engines node few) (engine_at n node few) engine (ap (λ (p : PartView). p.engine) (engine_is node engine few there));
    inputs = λ input engine there. lawful_of (2 * n + 1 + input) (engine_of (of_input input)) (few_inputs input engine there) (input_at n input) engine (ap (λ (p : PartView). p.engine) (input_is input engine there));
    intakes = λ consumer intake there.
        let w = woven_back.intakes in let within = slice_get_within is consumer intake there in
        let few : consumer ≤ n = omega (arith, w, within) in
        lawful_of (2 * consumer) (intake_of consumer) (few_words consumer few) (intake_at n consumer few) intake (ap (λ (p : PartView). p.intake) (intake_is consumer intake few there));
    agree = λ node engine intake few there to. u.matched node few engine intake (ap (λ (p : PartView). p.engine) (engine_is node engine few there)) (ap (λ (p : PartView). p.intake) (intake_is node intake (omega (arith, few)) to));
    none_out = none_out;
    edges = edge_back;
    rest = record {
      given = h.rest.given;
      work_queues = h.rest.work_queues;
      empty = h.rest.empty;
      limits = h.rest.limits;
      counts = λ number e q engine at_e at_q low there going.
          let c = h.engine_count in
          let old = found ps.engines e.node (omega (arith, low, c)) in
          h.rest.counts number e q old.0 at_e at_q low old.1 (going_before old.0 engine (grew e.node old.0 engine low old.1 there) going);
      spare = h.rest.spare;
      kept = h.rest.kept;
    };
  }

  -- the collector has had as many sets taken from it as before
  pub taken_back : unwrap_or (option_map (λ (x : IntakeView). x.claimed) (slice_get is n)) 0 ≡ unwrap_or (option_map (λ (x : IntakeView). x.claimed) (slice_get ps.intakes n)) 0
  taken_back =
      let c = h.engine_count in let d = h.intake_count in
      let now = found is n enough_intakes in
      let old = found ps.intakes n (omega (arith, d)) in
      let same = (u.follows (2 * n) (few_words n (omega arith))).collector refl in
      let was = intake_slot n n ps.engines ps.intakes old.0 (omega arith) (omega (arith, c)) (omega (arith, d)) old.1 in
      let claimed : now.0.claimed ≡ old.0.claimed =
      sym (ap (λ (p : PartView). claimed_by p.intake) (intake_is n now.0 (omega arith) now.1)) ∙ same ∙ ap (λ (p : PartView). claimed_by p.intake) was in
      taken_at is n now.0 now.1 ∙ claimed ∙ sym (taken_at ps.intakes n old.0 old.1)

  -- each engine has given up as much as the one that was shared
  of_word : (word : ℕ) (old now : EngineView) → word < length key.parts → at key word ≡ an_engine old → slice_index_or parts word blank_part ≡ an_engine now → gones now ≡ gones old
  of_word word old now within was is = ap gone_in (sym is) ∙ (u.follows word within).gave_up ∙ ap gone_in was

  pub gone_back : (place : ℕ) (engine : EngineView) → slice_get es place ≡ Some engine → HadGone ps.engines place engine
  gone_back place engine there =
      let c = h.engine_count in let d = h.intake_count in let w = woven_back.engines in let l = long in
      let old = found ps.engines place (let within = slice_get_within es place engine there in omega (arith, within, c, w, l)) in
      elim (order_of place n) [
        | inl less ↦ record {
          old = old.0;
          at = old.1;
          gone = of_word (2 * place + 1) old.0 engine (few_engines place less) (engine_slot n place ps.engines ps.intakes old.0 less (omega (arith, c)) (omega (arith, d)) old.1) (engine_is place engine less there);
        }
        | inr past ↦
            (let same : place ≡ n + (place - n) = omega (arith, past) in
            let there_now = ap (λ (k : ℕ). slice_get es k) (sym same) ∙ there in
            let there_then = ap (λ (k : ℕ). slice_get ps.engines k) (sym same) ∙ old.1 in
            record {
              old = old.0;
              at = old.1;
              gone = of_word (2 * n + 1 + (place - n)) old.0 engine (few_inputs (place - n) engine there_now) (input_slot n (place - n) ps.engines ps.intakes old.0 (omega (arith, c)) d there_then) (input_is (place - n) engine there_now);
            })
      ]

  pub woven_again : parts ≡ woven n es is
  woven_again = woven_back.woven_is

-- Works that come back from work queues leave what an engine has given up.

shelved_gone : (engine : EngineView) (works : List WorkView) → gones (all_shelved engine works) ≡ gones engine
shelved_gone engine [] = refl
shelved_gone engine (work ∷ works) = shelved_gone engine works

pub apart_gone : {laws : Laws} (before : NetView) (ps : PartsView) (place : ℕ) (engine : EngineView) → StandsForSome laws before → HasComeApart before ps → slice_get ps.engines place ≡ Some engine → HadGone before.engines place engine
unfolding StandsFor
apart_gone {laws} before ps place engine some apart there =
    let back = apart.puts_back in
    elim (order_of place (length before.plan.nodes)) [
      | inl less ↦
          (let count = back.engine_count in
          let old = found before.engines place (let within = slice_get_within ps.engines place engine there in omega (arith, within, count)) in
          let many = some.stands.work_queues in
          let work_queue = found before.work_queues place (omega (arith, less, many)) in
          let is = some_same (slice_get ps.engines place) engine (all_shelved old.0 work_queue.0.works) there (back.shelves place old.0 work_queue.0 less old.1 work_queue.1) in
          record { old = old.0; at = old.1; gone = ap gones is ∙ shelved_gone old.0 work_queue.0.works })
      | inr past ↦ record { old = engine; at = sym (back.others place past) ∙ there; gone = refl }
    ]

-- What came apart and is put together is what it was.

pub same_became : {laws : Laws} (before now : NetView) (ps : PartsView) → StandsForSome laws before → HasComeApart before ps → IsPutTogether ps now → ((job : LoggedJob laws) → StandsFor job before → StandsFor job now) → Became laws before now
same_became {laws} before now ps some apart put stands = record {
  stands = stands;
  taken = ap taken_out put.made ∙ ap (λ (p : PartsView). unwrap_or (option_map (λ (x : IntakeView). x.claimed) (slice_get p.intakes (length p.plan.nodes))) 0) apart.others;
  plan = ap (λ (x : NetView). x.plan) put.made ∙ ap (λ (p : PartsView). p.plan) apart.others;
  spare = ap (λ (x : NetView). x.spare) put.made ∙ ap (λ (p : PartsView). p.rest.spare) apart.others;
  whole = λ stream number. has_from before now stream number (record {
    plan = ap (λ (x : NetView). x.plan) put.made ∙ ap (λ (p : PartsView). p.plan) apart.others;
    engines = λ place engine there. apart_gone before ps place engine some apart (ap (λ (x : NetView). slice_get x.engines place) (sym put.made) ∙ there);
  });
}

-- What a shared net became while threads had it.

module _ {laws : Laws} (before : NetView) (some : StandsForSome laws before) (key : LayoutView) (kept : KeptView) (s : IsSharedOf laws before key kept) (v : View) (parts : List PartView) (u : Unshared laws key v parts) where
  own : Unshared laws (layout_of s.parts) v parts
  own = subst (λ (k : LayoutView). Unshared laws k v parts) s.shared u

  abbrev back : PartsView
  back = record { plan = kept.plan; engines = engines_in parts; intakes = intakes_in parts; rest = kept.rest }

  pub of_job : (job : LoggedJob laws) → StandsFor job before → ArePartsOf job back
  of_job job stands =
      subst (λ (k : KeptView). ArePartsOf job (record { plan = k.plan; engines = engines_in parts; intakes = intakes_in parts; rest = k.rest })) (sym s.stays)
      (parts_back job s.parts (s.of job stands) v parts own)

  pub are_back : AreParts laws back
  are_back = record { job = some.job; parts_of = of_job some.job some.stands }

  pub kinds_of : (nodes : ℕ) → nodes ≡ nodes_in key → AreKinds nodes parts
  kinds_of nodes is = subst (λ (k : ℕ). AreKinds k parts) (ap (λ (k : LayoutView). nodes_in k) (sym s.shared) ∙ sym is) (kinds_back some.job s.parts (s.of some.job some.stands) v parts own)

  pub rooms : (engines intakes : ℕ) → length kept.plan.nodes + length kept.plan.inputs ≤ engines → length kept.plan.nodes + 1 ≤ intakes → (length (engines_in parts) ≤ engines) × (length (intakes_in parts) ≤ intakes)
  rooms engines intakes many few =
      let h = of_job some.job some.stands in
      let e = h.engine_count in let i = h.intake_count in
      (omega (arith, many, e), omega (arith, few, i))

  pub woven_now : (net : NetView) → IsPutTogether back net → woven (length net.plan.nodes) net.engines net.intakes ≡ parts
  woven_now net put =
      ap (λ (x : NetView). woven (length x.plan.nodes) x.engines x.intakes) put.made
      ∙ ap (λ (k : KeptView). woven (length k.plan.nodes) (engines_in parts) (intakes_in parts)) s.stays
      ∙ sym (woven_again some.job s.parts (s.of some.job some.stands) v parts own)

  pub given_back : (net : NetView) → IsPutTogether back net → Unshared laws key v (woven (length net.plan.nodes) net.engines net.intakes)
  given_back net put = subst (λ (xs : List PartView). Unshared laws key v xs) (sym (woven_now net put)) u

  pub became : (net : NetView) → IsPutTogether back net → ((job : LoggedJob laws) → ArePartsOf job back → StandsFor job net) → Became laws before net
  became net put stands = record {
    stands = λ job h. stands job (of_job job h);
    taken = ap taken_out put.made
        ∙ ap (λ (k : KeptView). unwrap_or (option_map (λ (x : IntakeView). x.claimed) (slice_get (intakes_in parts) (length k.plan.nodes))) 0) s.stays
        ∙ taken_back some.job s.parts (s.of some.job some.stands) v parts own
        ∙ ap (λ (p : PartsView). unwrap_or (option_map (λ (x : IntakeView). x.claimed) (slice_get p.intakes (length p.plan.nodes))) 0) s.apart.others;
    plan = ap (λ (x : NetView). x.plan) put.made ∙ ap (λ (k : KeptView). k.plan) s.stays ∙ ap (λ (p : PartsView). p.plan) s.apart.others;
    spare = ap (λ (x : NetView). x.spare) put.made ∙ ap (λ (k : KeptView). k.rest.spare) s.stays ∙ ap (λ (p : PartsView). p.rest.spare) s.apart.others;
    whole = λ stream number. has_from before net stream number (record {
      plan = ap (λ (x : NetView). x.plan) put.made ∙ ap (λ (k : KeptView). k.plan) s.stays ∙ ap (λ (p : PartsView). p.plan) s.apart.others;
      engines = λ place engine there.
          let shared = gone_back some.job s.parts (s.of some.job some.stands) v parts own place engine (ap (λ (x : NetView). slice_get x.engines place) (sym put.made) ∙ there) in
          let first = apart_gone before s.parts place shared.old some s.apart shared.at in
          record { old = first.old; at = first.at; gone = shared.gone ∙ first.gone };
    });
  }

-- the parts as the code has them
pub as_kept : (kept : KeptView) (given : PartsView) (parts : List PartView) (old_engines : List EngineView) (old_intakes : List IntakeView) → kept ≡ record { plan = given.plan; rest = given.rest } → old_engines ≡ [] → old_intakes ≡ []
    → given.engines ≡ engines_in parts ++ reverse old_engines → given.intakes ≡ intakes_in parts ++ reverse old_intakes
    → record { plan = kept.plan; engines = engines_in parts; intakes = intakes_in parts; rest = kept.rest } ≡ given
as_kept kept given parts old_engines old_intakes is no_engines no_intakes engines intakes =
    let e : engines_in parts ≡ given.engines = sym (append-nil (engines_in parts)) ∙ ap (λ (xs : List EngineView). engines_in parts ++ reverse xs) (sym no_engines) ∙ sym engines in
    let i : intakes_in parts ≡ given.intakes = sym (append-nil (intakes_in parts)) ∙ ap (λ (xs : List IntakeView). intakes_in parts ++ reverse xs) (sym no_intakes) ∙ sym intakes in
    λ k. record { plan = (is k).plan; engines = e k; intakes = i k; rest = (is k).rest }

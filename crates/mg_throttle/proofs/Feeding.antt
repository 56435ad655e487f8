-- Which feeders reach which nodes, found node by node in the order of a plan.
use Rattle.std.proofs.Common.{◌≡◌, ◌≢◌, ℕ, ◌+◌, ◌-◌, ◌<◌, ◌≤◌, ◌⊎◌, zero, suc, Bool, true, false, not, ◌&&◌, ◌||◌, eqb, List, [], ◌∷◌, ◌++◌, length, map, take, drop, get_or, slice_set, Any, Contains, Option, Some, None, slice_get, IfSome, ◌∙◌, sym, ap, subst, inl, inr, refl, arith, zero-add, length-set, get_or-set_same, get_or-set_other, eq-eqb, eqb-true}
use Rattle.std.proofs.Math.Seq.{take-append_seam}
use Rattle.std.proofs.lemmas.Bool.{cases_lt, cases_eq, false≢true, or_cases, or_left, or_right}
use Rattle.std.proofs.lemmas.List.{length-map, length-append, get_or_default}
use Rattle.std.proofs.lemmas.List.Elements.{All-contains, All-set}
use Rattle.std.proofs.lemmas.List.FromFn.{get_or-range_with_len, length-range_with_len}
use Rattle.std.proofs.lemmas.List.Folds.{Any-from_list_any, list_any-from_Any}
use Rattle.std.proofs.lemmas.Option.{slice_get-map, slice_get_within, slice_get-get_or}
use Rattle.std.specs.List.{list_any}
use Rattle.std.specs.Option.{option_map, option_and_then}
use Rattle.mg_calc.specs.declared.plan.Plan.{Plan}
use Rattle.mg_calc.specs.declared.plan_stream.PlanStream.{PlanStream}
use Rattle.mg_calc.specs.declared.plan_stream.Producer.{Producer}
use Rattle.mg_calc.specs.declared.plan_stream.Producer.TheVariants.{Input, Node}
use Rattle.mg_calc.specs.declared.edge.Edge.{Edge}
use Rattle.mg_calc.specs.Plan.{IsValid, Feeder, graph_input, source_node, feeders, sources, numbers, writer_of, writing_node, StandsBefore, LeadsForward}
use Rattle.mg_calc.specs.Reaching.{producer_of}
use Rattle.mg_throttle.specs.Throttle.{FeederReaches, itself, reads, goes_on, is_reached}
use Rattle.mg_throttle.specs.Code.Rows.{is_marked}
use Rattle.mg_throttle.specs.Code.Reach.{brings, stream_brings, enters, Gathers, IsReachedBy, IsOwn, IsDone, MarksSources}
use Rattle.mg_throttle.proofs.Edges.{input_in, node_in}

-- ---- the feeders by number
slice_get-append : {X : Type 0} (xs ys : List X) (i : ℕ) → slice_get (xs ++ ys) (length xs + i) ≡ slice_get ys i
slice_get-append [] ys i = ap (slice_get ys) (zero-add i)
slice_get-append (x ∷ xs) ys i = let e : length (x ∷ xs) + i ≡ suc (length xs + i) = omega arith in rw e (slice_get-append xs ys i)

slice_get-append_low : {X : Type 0} (xs ys : List X) (i : ℕ) → i < length xs → slice_get (xs ++ ys) i ≡ slice_get xs i
slice_get-append_low [] ys i within = absurd (omega arith)
slice_get-append_low (x ∷ xs) ys zero within = refl
slice_get-append_low (x ∷ xs) ys (suc i) within = slice_get-append_low xs ys i (omega arith)

length-inputs : (plan : Plan) → length (map graph_input (numbers (length plan.inputs))) ≡ length plan.inputs
length-inputs plan = length-map (numbers (length plan.inputs)) graph_input ∙ length-range_with_len 0 (length plan.inputs)

pub length-feeders : (plan : Plan) → length (feeders plan) ≡ length plan.inputs + length (sources plan)
length-feeders plan =
    length-append (map graph_input (numbers (length plan.inputs))) (map source_node (sources plan))
    ∙ rw (length-inputs plan, length-map (sources plan) source_node) refl

pub feeder-input : (plan : Plan) (f : ℕ) → f < length plan.inputs → slice_get (feeders plan) f ≡ Some (graph_input f)
feeder-input plan f within =
    let len = length-inputs plan in
    let count = length-range_with_len 0 (length plan.inputs) in
    let here : slice_get (numbers (length plan.inputs)) f ≡ Some f =
    slice_get-get_or (numbers (length plan.inputs)) f 0 (omega arith) ∙ ap Some (get_or-range_with_len 0 (length plan.inputs) f 0 within ∙ zero-add f) in
    slice_get-append_low (map graph_input (numbers (length plan.inputs))) (map source_node (sources plan)) f (omega arith)
    ∙ slice_get-map graph_input (numbers (length plan.inputs)) f ∙ rw here refl

pub feeder-source : (plan : Plan) (place node : ℕ) → slice_get (sources plan) place ≡ Some node → slice_get (feeders plan) (length plan.inputs + place) ≡ Some (source_node node)
feeder-source plan place node at =
    ap (λ n. slice_get (feeders plan) (n + place)) (sym (length-inputs plan))
    ∙ slice_get-append (map graph_input (numbers (length plan.inputs))) (map source_node (sources plan)) place
    ∙ slice_get-map source_node (sources plan) place ∙ rw at refl

-- the feeder of a number is a graph input or a source
pub record IsSourceAt (plan : Plan) (f : ℕ) (feeder : Feeder) : Type 0 where
  pub place : ℕ
  pub node : ℕ
  pub at : f ≡ length plan.inputs + place
  pub source : slice_get (sources plan) place ≡ Some node
  pub is : feeder ≡ source_node node

some_same : {X : Type 0} (x y : X) → Some x ≡ Some y → x ≡ y
some_same x y e = cc

pub feeder_cases : (plan : Plan) (f : ℕ) (feeder : Feeder) → slice_get (feeders plan) f ≡ Some feeder
    → ((f < length plan.inputs) × (feeder ≡ graph_input f)) ⊎ IsSourceAt plan f feeder
feeder_cases plan f feeder at = elim (cases_lt f (length plan.inputs)) [
  | inl low ↦ inl (low, some_same feeder (graph_input f) (sym at ∙ feeder-input plan f low))
  | inr high ↦
      let place : ℕ = f - length plan.inputs in
      let is_f : f ≡ length plan.inputs + place = omega arith in
      let within : place < length (sources plan) = let l = length-feeders plan in let w = slice_get_within (feeders plan) f feeder at in omega arith in
      let node : ℕ = get_or (sources plan) place 0 in
      let source : slice_get (sources plan) place ≡ Some node = slice_get-get_or (sources plan) place 0 within in
      inr (record {
        place = place;
        node = node;
        at = is_f;
        source = source;
        is = some_same feeder (source_node node) (sym at ∙ ap (slice_get (feeders plan)) is_f ∙ feeder-source plan place node source);
      })
]

input_not_source : (i n : ℕ) → graph_input i ≡ source_node n → ⊥
input_not_source i n e = cc

same_input : (i j : ℕ) → graph_input i ≡ graph_input j → i ≡ j
same_input i j e = cc

same_source : (i j : ℕ) → source_node i ≡ source_node j → i ≡ j
same_source i j e = cc

-- the graph input of a number is the feeder of this number
pub number_of_input : (plan : Plan) (f i : ℕ) (feeder : Feeder) → slice_get (feeders plan) f ≡ Some feeder → feeder ≡ graph_input i → f ≡ i
number_of_input plan f i feeder at is_input = elim (feeder_cases plan f feeder at) [
  | inl input ↦ same_input f i (sym input.1 ∙ is_input)
  | inr source ↦ absurd (input_not_source i source.node (sym is_input ∙ source.is))
]

-- ---- at first
pub IsOwn-marked : (plan : Plan) (inputs feeder_count nodes count node : ℕ) (rows : List (List Bool)) → inputs ≡ length plan.inputs → count ≡ length (sources plan)
    → MarksSources (sources plan) inputs feeder_count nodes count rows → IsOwn plan rows node
IsOwn-marked plan inputs feeder_count nodes count node rows is_inputs is_count marks f feeder at = (
  λ there. let mark = marks.only f node there in
      some_same feeder (source_node node) (sym at ∙ ap (slice_get (feeders plan)) (mark.at ∙ ap (λ n. n + mark.place) is_inputs) ∙ feeder-source plan mark.place node mark.source),
  λ is_source. elim (feeder_cases plan f feeder at) [
    | inl input ↦ absurd (input_not_source f node (sym input.1 ∙ is_source))
    | inr source ↦ marks.own f node (record {
      place = source.place;
      among = let w = slice_get_within (sources plan) source.place source.node source.source in omega arith;
      at = let e = source.at in omega arith;
      source = source.source ∙ ap Some (same_source source.node node (sym source.is ∙ is_source));
    })
  ],
)

-- ---- what a stream brings
pub stream_brings-some : (plan : Plan) (rows : List (List Bool)) (s f : ℕ) (stream : PlanStream) (producer : Producer) → slice_get plan.streams s ≡ Some stream
    → stream.producer ≡ producer → stream_brings rows f (slice_get plan.streams s) ≡ brings rows f producer
stream_brings-some plan rows s f stream producer at is = ap (stream_brings rows f) at ∙ ap (brings rows f) is

pub stream_brings-node : (plan : Plan) (rows : List (List Bool)) (s : ℕ) (stream : PlanStream) (node port : ℕ) (row : List Bool) (f : ℕ) → slice_get plan.streams s ≡ Some stream
    → stream.producer ≡ Node node port → node < length rows → row ≡ get_or rows node row
    → is_marked row f ≡ stream_brings rows f (slice_get plan.streams s)
stream_brings-node plan rows s stream node port row f at is within read =
    ap (λ r. is_marked r f) (read ∙ get_or_default rows node row [] within) ∙ sym (stream_brings-some plan rows s f stream (Node node port) at is)

-- ---- what enters a node
-- the producer of an edge's stream, and the node that writes it
producer_read : (plan : Plan) (e : Edge) (stream : PlanStream) → slice_get plan.streams e.stream ≡ Some stream → producer_of plan e.stream ≡ Some stream.producer
producer_read plan e stream at = rw at refl

writer_read : (plan : Plan) (e : Edge) (stream : PlanStream) (node port : ℕ) → slice_get plan.streams e.stream ≡ Some stream → stream.producer ≡ Node node port
    → writer_of plan e ≡ Some node
writer_read plan e stream node port at is = rw (at, is) refl

no_producer : (p : Producer) → None ≡ Some p → ⊥
no_producer p e = cc

-- a stream with a producer is there
stream_of : (plan : Plan) (e : Edge) (producer : Producer) → producer_of plan e.stream ≡ Some producer
    → (stream : PlanStream) × (slice_get plan.streams e.stream ≡ Some stream) × (stream.producer ≡ producer)
stream_of plan e producer is = go (slice_get plan.streams e.stream) refl is
  where
    go : (o : Option PlanStream) → slice_get plan.streams e.stream ≡ o → option_map (λ s. s.producer) o ≡ Some producer
        → (stream : PlanStream) × (slice_get plan.streams e.stream ≡ Some stream) × (stream.producer ≡ producer)
    go None at none = absurd (no_producer producer none)
    go (Some stream) at some = (stream, at, some_same stream.producer producer some)

-- a stream with a writer is there
record IsWritten (plan : Plan) (e : Edge) (writer : ℕ) : Type 0 where
  stream : PlanStream
  port : ℕ
  at : slice_get plan.streams e.stream ≡ Some stream
  is : stream.producer ≡ Node writer port

no_writer : (n : ℕ) → None ≡ Some n → ⊥
no_writer n e = cc

written_by : (plan : Plan) (e : Edge) (writer : ℕ) → writer_of plan e ≡ Some writer → IsWritten plan e writer
written_by plan e writer is = go (slice_get plan.streams e.stream) refl is
  where
    by_producer : (stream : PlanStream) (p : Producer) → slice_get plan.streams e.stream ≡ Some stream → stream.producer ≡ p → writing_node p ≡ Some writer → IsWritten plan e writer
    by_producer stream (Input input) at is_p none = absurd (no_writer writer none)
    by_producer stream (Node node port) at is_p some = record { stream = stream; port = port; at = at; is = is_p ∙ ap (λ n. Node n port) (some_same node writer some) }

    go : (o : Option PlanStream) → slice_get plan.streams e.stream ≡ o → option_and_then (λ s. writing_node s.producer) o ≡ Some writer → IsWritten plan e writer
    go None at none = absurd (no_writer writer none)
    go (Some stream) at some = by_producer stream stream.producer at refl some

-- ---- one node more
both_true : (a b : Bool) → (a && b) ≡ true → (a ≡ true) × (b ≡ true)
both_true true b e = (refl, e)
both_true false b e = absurd (false≢true e)

not_true : (a : Bool) → not a ≡ true → a ≡ false
not_true true e = absurd (false≢true e)
not_true false e = refl

-- each node has a place in the order
record HasPlace (plan : Plan) (node : ℕ) : Type 0 where
  place : ℕ
  within : place < length plan.order
  here : get_or plan.order place 0 ≡ node

place_in_order : (plan : Plan) → IsValid plan → (node : ℕ) → node < length plan.nodes → HasPlace plan node
place_in_order plan valid node small = let there = valid.order.there node small in record {
  place = there.0;
  within = there.1;
  here = get_or_default plan.order there.0 0 node there.1 ∙ there.2;
}

slice_get_at : (xs : List ℕ) (i n : ℕ) → i < length xs → get_or xs i 0 ≡ n → slice_get xs i ≡ Some n
slice_get_at xs i n within here = slice_get-get_or xs i 0 within ∙ ap Some here

-- the writer of an edge into a node has its place before the node
writer_before : (plan : Plan) → IsValid plan → (e : Edge) (writer k : ℕ) → Contains plan.edges e → e.back ≡ false → writer_of plan e ≡ Some writer
    → (before : HasPlace plan writer) → k < length plan.order → get_or plan.order k 0 ≡ e.node → before.place < k
writer_before plan valid e writer k there forward is before within here =
    let leads : IfSome (writer_of plan e) (λ w. StandsBefore plan.order w e.node) = All-contains (λ x. x.back ≡ false → LeadsForward plan x) plan.edges e valid.forward there forward in
    let stands : StandsBefore plan.order writer e.node = subst (λ o. IfSome o (λ w. StandsBefore plan.order w e.node)) is leads in
    stands before.place k (slice_get_at plan.order before.place writer before.within before.here) (slice_get_at plan.order k e.node within here)

-- the row of a node that is done
done_at : (plan : Plan) → IsValid plan → (rows : List (List Bool)) (k : ℕ) → IsDone plan rows k → (e : Edge) (writer port : ℕ) (stream : PlanStream) → Contains plan.edges e
    → e.back ≡ false → slice_get plan.streams e.stream ≡ Some stream → stream.producer ≡ Node writer port → k < length plan.order → get_or plan.order k 0 ≡ e.node
    → IsReachedBy plan rows writer
done_at plan valid rows k done e writer port stream there forward at is within here =
    let small : writer < length plan.nodes = node_in plan valid e.stream stream writer port at is in
    let place : HasPlace plan writer = place_in_order plan valid writer small in
    let before : place.place < k = writer_before plan valid e writer k there forward (writer_read plan e stream writer port at is) place within here in
    subst (IsReachedBy plan rows) place.here (done.done place.place before place.within)

-- what enters by an edge reaches the node
by_edge : (plan : Plan) → IsValid plan → (rows : List (List Bool)) (k f : ℕ) (feeder : Feeder) (e : Edge) → IsDone plan rows k → k < length plan.order
    → get_or plan.order k 0 ≡ e.node → slice_get (feeders plan) f ≡ Some feeder → Contains plan.edges e → e.back ≡ false
    → stream_brings rows f (slice_get plan.streams e.stream) ≡ true → FeederReaches plan feeder e.node
by_edge plan valid rows k f feeder e done within here at there forward brought = go (slice_get plan.streams e.stream) refl brought
  where
    by_producer : (stream : PlanStream) (p : Producer) → slice_get plan.streams e.stream ≡ Some stream → stream.producer ≡ p → brings rows f p ≡ true → FeederReaches plan feeder e.node
    by_producer stream (Input input) found is marked =
        let same : f ≡ input = eqb-true f input marked in
        let small : input < length plan.inputs = input_in plan valid e.stream stream input found is in
        let is_feeder : feeder ≡ graph_input input = some_same feeder (graph_input input) (sym at ∙ ap (slice_get (feeders plan)) same ∙ feeder-input plan input small) in
        reads e input there forward is_feeder (producer_read plan e stream found ∙ ap Some is)
    by_producer stream (Node writer port) found is marked =
        goes_on e writer there forward (writer_read plan e stream writer port found is)
        ((done_at plan valid rows k done e writer port stream there forward found is within here f feeder at).0 marked)

    go : (o : Option PlanStream) → slice_get plan.streams e.stream ≡ o → stream_brings rows f o ≡ true → FeederReaches plan feeder e.node
    go None found marked = absurd (false≢true marked)
    go (Some stream) found marked = by_producer stream stream.producer found refl marked

-- an edge that brings a mark lets it enter
passed : (plan : Plan) (rows : List (List Bool)) (f : ℕ) (e : Edge) → e.back ≡ false → stream_brings rows f (slice_get plan.streams e.stream) ≡ true
    → enters plan rows e.node f e ≡ true
passed plan rows f e forward brought = rw (eq-eqb e.node e.node refl, forward) brought

-- a feeder that reaches a node is itself the node, or enters it
reached_then : (plan : Plan) → IsValid plan → (rows : List (List Bool)) (k f : ℕ) (feeder : Feeder) (n : ℕ) → FeederReaches plan feeder n → IsDone plan rows k → k < length plan.order
    → get_or plan.order k 0 ≡ n → slice_get (feeders plan) f ≡ Some feeder
    → (feeder ≡ source_node n) ⊎ (list_any (enters plan rows n f) plan.edges ≡ true)
reached_then plan valid rows k f feeder n (itself m is) done within here at = inl is
reached_then plan valid rows k f feeder n (reads e input there forward is_feeder is_input) done within here at =
    let stream = stream_of plan e (Input input) is_input in
    let brought : stream_brings rows f (slice_get plan.streams e.stream) ≡ true =
    stream_brings-some plan rows e.stream f stream.0 (Input input) stream.1 stream.2 ∙ eq-eqb f input (number_of_input plan f input feeder at is_feeder) in
    inr (list_any-from_Any (enters plan rows e.node f) plan.edges (there.0, e, there.1, there.2, passed plan rows f e forward brought))
reached_then plan valid rows k f feeder n (goes_on e writer there forward is_writer before) done within here at =
    let written : IsWritten plan e writer = written_by plan e writer is_writer in
    let brought : stream_brings rows f (slice_get plan.streams e.stream) ≡ true =
    stream_brings-some plan rows e.stream f written.stream (Node writer written.port) written.at written.is
    ∙ (done_at plan valid rows k done e writer written.port written.stream there forward written.at written.is within here f feeder at).1 before in
    inr (list_any-from_Any (enters plan rows e.node f) plan.edges (there.0, e, there.1, there.2, passed plan rows f e forward brought))

-- what enters a node reaches it
entered_by : (plan : Plan) → IsValid plan → (rows : List (List Bool)) (k f node : ℕ) (feeder : Feeder) → IsDone plan rows k → k < length plan.order
    → get_or plan.order k 0 ≡ node → slice_get (feeders plan) f ≡ Some feeder → Any (λ e. enters plan rows node f e ≡ true) plan.edges → FeederReaches plan feeder node
entered_by plan valid rows k f node feeder done within here at (j, e, inside, read, passes) =
    let parts = both_true (eqb e.node node) (not e.back && stream_brings rows f (slice_get plan.streams e.stream)) passes in
    let more = both_true (not e.back) (stream_brings rows f (slice_get plan.streams e.stream)) parts.1 in
    let same : e.node ≡ node = eqb-true e.node node parts.0 in
    subst (FeederReaches plan feeder) same (by_edge plan valid rows k f feeder e done within (here ∙ sym same) at (j, inside, read) (not_true e.back more.0) more.1)

-- a row that is replaced
replaced_same : (rows : List (List Bool)) (node f : ℕ) (row : List Bool) → node < length rows → is_reached (slice_set rows node row) f node ≡ is_marked row f
replaced_same rows node f row within = ap (λ r. is_marked r f) (get_or-set_same rows node row [] within)

replaced_other : (rows : List (List Bool)) (node f other : ℕ) (row : List Bool) → other ≢ node → is_reached (slice_set rows node row) f other ≡ is_reached rows f other
replaced_other rows node f other row apart = ap (λ r. is_marked r f) (get_or-set_other rows node other row [] apart)

-- the row of the next node of the order
pub IsDone-next : (plan : Plan) → IsValid plan → (rows : List (List Bool)) (k node : ℕ) (row : List Bool) → IsDone plan rows k → k < length plan.order
    → node ≡ get_or plan.order k 0 → Gathers plan rows node row → IsDone plan (slice_set rows node row) (k + 1)
IsDone-next plan valid rows k node row done within is_node gathers =
    let small : node < length plan.nodes = subst (λ n. n < length plan.nodes) (sym is_node) (valid.order.below k 0 within) in
    let inside : node < length rows = let e = done.has_rows.nodes in omega arith in
    let own : IsOwn plan rows node = subst (IsOwn plan rows) (sym is_node) (done.rest k (omega arith) within) in
    let apart : (p : ℕ) → p < length plan.order → p ≢ k → get_or plan.order p 0 ≢ node = λ p there other same.
    elim (cases_lt p k) [
      | inl less ↦ valid.order.once p k 0 less within (same ∙ is_node)
      | inr more ↦ valid.order.once k p 0 (omega arith) there (sym (same ∙ is_node))
    ] in
    let here : IsReachedBy plan (slice_set rows node row) node = λ f feeder at.
    let fits : f < length (feeders plan) = slice_get_within (feeders plan) f feeder at in
    let marks : is_reached (slice_set rows node row) f node ≡ (is_reached rows f node || list_any (enters plan rows node f) plan.edges) =
    replaced_same rows node f row inside ∙ gathers.marks f fits in (
      λ marked. elim (or_cases (is_reached rows f node) (list_any (enters plan rows node f) plan.edges) (sym marks ∙ marked)) [
        | inl itself_marked ↦ itself node ((own f feeder at).0 itself_marked)
        | inr entered ↦ entered_by plan valid rows k f node feeder done within (sym is_node) at (Any-from_list_any (enters plan rows node f) plan.edges entered)
      ],
      λ reached. marks ∙ elim (reached_then plan valid rows k f feeder node reached done within (sym is_node) at) [
        | inl is_source ↦ or_left (is_reached rows f node) (list_any (enters plan rows node f) plan.edges) ((own f feeder at).1 is_source)
        | inr entered ↦ or_right (is_reached rows f node) (list_any (enters plan rows node f) plan.edges) entered
      ],
    ) in
    record {
      has_rows = record {
        nodes = length-set rows node row ∙ done.has_rows.nodes;
        marks = All-set (λ r. length r ≡ length (feeders plan)) rows node row gathers.len done.has_rows.marks;
      };
      done = λ p low there. elim (cases_eq p k) [
        | inl last ↦ subst (IsReachedBy plan (slice_set rows node row)) (is_node ∙ ap (λ i. get_or plan.order i 0) (sym last)) here
        | inr other ↦ λ f feeder at.
            let same = replaced_other rows node f (get_or plan.order p 0) row (apart p there other) in
            let was = done.done p (omega arith) there f feeder at in
            (λ marked. was.0 (sym same ∙ marked), λ reached. same ∙ was.1 reached)
      ];
      rest = λ p high there f feeder at.
          let same = replaced_other rows node f (get_or plan.order p 0) row (apart p there (λ e. omega arith)) in
          let was = done.rest p (omega arith) there f feeder at in
          (λ marked. was.0 (sym same ∙ marked), λ is_source. same ∙ was.1 is_source);
    }

-- all nodes are done at the end of the order
pub IsReachedBy-all : (plan : Plan) → IsValid plan → (rows : List (List Bool)) (k : ℕ) → IsDone plan rows k → length plan.order ≤ k
    → (n : ℕ) → n < length plan.nodes → IsReachedBy plan rows n
IsReachedBy-all plan valid rows k done all n small =
    let place : HasPlace plan n = place_in_order plan valid n small in
    subst (IsReachedBy plan rows) place.here (done.done place.place (let w = place.within in omega arith) place.within)

-- before the first node
pub IsDone-start : (plan : Plan) (inputs feeder_count nodes count : ℕ) (numbers_of : List ℕ) (rows : List (List Bool)) → inputs ≡ length plan.inputs → numbers_of ≡ sources plan
    → count ≡ length numbers_of → feeder_count ≡ inputs + count → nodes ≡ length plan.nodes → MarksSources numbers_of inputs feeder_count nodes count rows → IsDone plan rows 0
IsDone-start plan inputs feeder_count nodes count numbers_of rows is_inputs is_sources is_count is_feeders is_nodes marks =
    let same : MarksSources (sources plan) inputs feeder_count nodes count rows = subst (λ ns. MarksSources ns inputs feeder_count nodes count rows) is_sources marks in
    let all = length-feeders plan in
    let lens = ap length is_sources in
    record {
      has_rows = record {
        nodes = marks.len ∙ is_nodes;
        marks = λ k d within. marks.rows_len k d within ∙ omega arith;
      };
      done = λ p low there. absurd (omega arith);
      rest = λ p high there. IsOwn-marked plan inputs feeder_count nodes count (get_or plan.order p 0) rows is_inputs (is_count ∙ lens) same;
    }

-- what is lent whole comes back whole
pub rejoined_rows : (n : ℕ) (new old : List (List Bool)) → length new ≡ n → take n (new ++ drop (length new) old) ≡ new
rejoined_rows n new old len = rw (← len) (take-append_seam new (drop (length new) old))

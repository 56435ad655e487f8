-- The streams of a plan: their numbers, and who writes them.
use Rattle.std.proofs.Common.{ℕ, suc, ◌+◌, ◌≡◌, List, [], ◌∷◌, ◌++◌, length, map, refl, sym, ap, ◌∙◌, arith}
use Rattle.std.specs.Prelude.{zip}
use Rattle.std.specs.List.{AllByRecursion, range_with_len, enumerate_from, flat_map}
use Rattle.std.proofs.lemmas.List.{length-append, length-map}
use Rattle.std.proofs.lemmas.List.FromFn.{length-range_with_len, length-map-range_with_len}
use Rattle.mg_value.specs.declared.kind.Kind.{Kind}
use Rattle.mg_value.specs.declared.kind.Kind.TheVariants.{Any}
use Rattle.mg_config.specs.Config.{GraphView}
use Rattle.mg_subgraph.specs.Refusals.{port_names}
use Rattle.mg_calc.specs.declared.plan_node.PlanNode.{PlanNode}
use Rattle.mg_calc.specs.declared.plan_stream.PlanStream.{PlanStream}
use Rattle.mg_calc.specs.declared.plan_stream.Producer.{Producer}
use Rattle.mg_calc.specs.declared.plan_stream.Producer.TheVariants.{Input, Node}
use Rattle.mg_calc.specs.Plan.{numbers, written_streams, producers}
use Rattle.mg_check.specs.Drafts.{DraftView}
use Rattle.mg_check.specs.Meeting.{inferred_kind, kinds_at}
use Rattle.mg_check.specs.Joining.{stream_names, side_names, kinds, written_kinds, readings, stream_meetings, writers}
use Rattle.mg_check.specs.Planning.{plan_nodes, plan_streams, plan_of}
use Rattle.mg_check.specs.Code.Sound.{HasNames}
use Rattle.mg_check.proofs.ValidLists.{range_joined}

-- the streams that nodes write
abbrev written_by : List DraftView → List (List ℕ)
written_by ds = flat_map (λ d. d.outputs) ds

-- each node's outputs are the next streams
pub outputs_follow : (streams sides : List (List ℕ)) (first : ℕ) (ds : List DraftView) → flat_map (λ node. node.outputs) (plan_nodes streams sides first ds) ≡ range_with_len first (length (written_by ds))
outputs_follow streams sides first [] = refl
outputs_follow streams sides first (d ∷ ds) =
    ap (λ l. range_with_len first (length d.outputs) ++ l) (outputs_follow streams sides (first + length d.outputs) ds)
    ∙ (range_joined first (length d.outputs) (length (written_by ds)) ∙ ap (range_with_len first) (sym (length-append d.outputs (written_by ds))))

-- each output has a producer
abbrev by_node : ℕ × DraftView → List Producer
by_node e = map (λ port. Node e.0 port) (numbers (length e.1.outputs))

abbrev by_plan_node : ℕ × PlanNode → List Producer
by_plan_node e = map (λ port. Node e.0 port) (numbers (length e.1.outputs))

writers_long : (n : ℕ) (ds : List DraftView) → length (flat_map by_node (enumerate_from n ds)) ≡ length (written_by ds)
writers_long n [] = refl
writers_long n (d ∷ ds) =
    let here : length (by_node (n, d)) ≡ length d.outputs = length-map-range_with_len (Node n) 0 (length d.outputs) in
    let rest = writers_long (n + 1) ds in
    let whole = length-append (by_node (n, d)) (flat_map by_node (enumerate_from (n + 1) ds)) in
    let other = length-append d.outputs (written_by ds) in
    omega arith

-- and it is that of the plan's node
writers_same : (streams sides : List (List ℕ)) (n first : ℕ) (ds : List DraftView) → flat_map by_node (enumerate_from n ds) ≡ flat_map by_plan_node (enumerate_from n (plan_nodes streams sides first ds))
writers_same streams sides n first [] = refl
writers_same streams sides n first (d ∷ ds) =
    ap (λ k. map (Node n) (numbers k) ++ flat_map by_node (enumerate_from (n + 1) ds)) (sym (length-range_with_len first (length d.outputs)))
    ∙ ap (λ l. map (Node n) (numbers (length (range_with_len first (length d.outputs)))) ++ l) (writers_same streams sides (n + 1) (first + length d.outputs) ds)

-- and a kind
kinds_long : (ds : List DraftView) → AllByRecursion HasNames ds → length (flat_map (λ d. kinds d.shape.outputs) ds) ≡ length (written_by ds)
kinds_long [] all = refl
kinds_long (d ∷ ds) all =
    let here = length-map d.shape.outputs (λ p. p.kind) in
    let named = all.0.outputs in
    let rest = kinds_long ds all.1 in
    let whole = length-append (kinds d.shape.outputs) (flat_map (λ e. kinds e.shape.outputs) ds) in
    let other = length-append d.outputs (written_by ds) in
    omega arith

-- so many streams there are
abbrev pub stream_count : GraphView → List DraftView → ℕ
stream_count graph ds = length graph.inputs + length (written_by ds)

pub names_count : (graph : GraphView) (ds : List DraftView) → length (stream_names graph ds) ≡ stream_count graph ds
names_count graph ds =
    let whole = length-append (port_names graph.inputs) (written_by ds) in
    let inputs = length-map graph.inputs (λ p. p.name) in
    omega arith

pub writers_count : (graph : GraphView) (ds : List DraftView) → length (writers graph ds) ≡ stream_count graph ds
writers_count graph ds =
    let whole = length-append (map Input (numbers (length graph.inputs))) (flat_map by_node (enumerate_from 0 ds)) in
    let inputs = length-map-range_with_len Input 0 (length graph.inputs) in
    let nodes = writers_long 0 ds in
    omega arith

pub meetings_count : (graph : GraphView) (ds : List DraftView) → AllByRecursion HasNames ds → length (stream_meetings graph ds) ≡ stream_count graph ds
meetings_count graph ds named =
    let any : Kind = Any in
    let whole = length-append (map (λ p. any) graph.inputs) (flat_map (λ d. kinds d.shape.outputs) ds) in
    let inputs = length-map graph.inputs (λ p. any) in
    let nodes = kinds_long ds named in
    let listed : length (stream_meetings graph ds) ≡ length (written_kinds graph ds) = inferred 0 (written_kinds graph ds) in
    omega arith
  where
    inferred : (n : ℕ) (ks : List Kind) → length (map (λ e. kinds_at (readings graph ds) e.0 e.1) (enumerate_from n ks)) ≡ length ks
    inferred n [] = refl
    inferred n (k ∷ ks) = ap suc (inferred (n + 1) ks)

-- the streams of a plan, by their names, kinds and producers
abbrev stream_by : List ℕ × (List Kind × Producer) → PlanStream
stream_by e = record { name = e.0; kind = inferred_kind e.1.0; producer = e.1.1 }

producers_kept : (names : List (List ℕ)) (ms : List (List Kind)) (ws : List Producer) → length names ≡ length ws → length ms ≡ length ws → map (λ s. s.producer) (map stream_by (zip names (zip ms ws))) ≡ ws
producers_kept [] ms [] a b = refl
producers_kept [] ms (w ∷ ws) a b = absurd (omega arith)
producers_kept (name ∷ names) ms [] a b = absurd (omega arith)
producers_kept (name ∷ names) [] (w ∷ ws) a b = absurd (omega arith)
producers_kept (name ∷ names) (m ∷ ms) (w ∷ ws) a b = ap (λ l. w ∷ l) (producers_kept names ms ws (omega arith) (omega arith))

-- each stream is written by its writer
pub stream_writers : (graph : GraphView) (ds : List DraftView) → AllByRecursion HasNames ds → map (λ s. s.producer) (plan_streams graph ds) ≡ writers graph ds
stream_writers graph ds named =
    let a = names_count graph ds in
    let b = writers_count graph ds in
    let c = meetings_count graph ds named in
    producers_kept (stream_names graph ds) (stream_meetings graph ds) (writers graph ds) (omega arith) (omega arith)

pub streams_long : (graph : GraphView) (ds : List DraftView) → AllByRecursion HasNames ds → length (plan_streams graph ds) ≡ stream_count graph ds
streams_long graph ds named =
    let same = ap length (stream_writers graph ds named) in
    let kept = length-map (plan_streams graph ds) (λ s. s.producer) in
    let b = writers_count graph ds in
    omega arith

-- Fields of a valid plan.

pub valid_streams : (graph : GraphView) (ds : List DraftView) → AllByRecursion HasNames ds → written_streams (plan_of graph ds) ≡ numbers (length (plan_of graph ds).streams)
valid_streams graph ds named =
    let start : 0 + length graph.inputs ≡ length graph.inputs = omega arith in
    ap (λ l. numbers (length graph.inputs) ++ l) (outputs_follow (stream_names graph ds) (side_names graph ds) (length graph.inputs) ds)
    ∙ (sym (ap (λ k. numbers (length graph.inputs) ++ range_with_len k (length (written_by ds))) start)
    ∙ (range_joined 0 (length graph.inputs) (length (written_by ds)) ∙ sym (ap numbers (streams_long graph ds named))))

pub valid_inputs : (graph : GraphView) (ds : List DraftView) → (plan_of graph ds).inputs ≡ numbers (length (plan_of graph ds).inputs)
valid_inputs graph ds = sym (ap numbers (length-range_with_len 0 (length graph.inputs)))

pub valid_producers : (graph : GraphView) (ds : List DraftView) → AllByRecursion HasNames ds → map (λ s. s.producer) (plan_of graph ds).streams ≡ producers (plan_of graph ds)
valid_producers graph ds named =
    stream_writers graph ds named
    ∙ (sym (ap (λ k. map Input (numbers k) ++ flat_map by_node (enumerate_from 0 ds)) (length-range_with_len 0 (length graph.inputs)))
    ∙ ap (λ l. map Input (numbers (length (numbers (length graph.inputs)))) ++ l) (writers_same (stream_names graph ds) (side_names graph ds) 0 (length graph.inputs) ds))

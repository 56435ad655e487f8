-- Links are between nodes that are there, and so are the nodes without inputs.
use Rattle.std.proofs.Common.{ℕ, suc, zero, ◌+◌, ◌<◌, ◌≤◌, ◌≡◌, List, [], ◌∷◌, Bool, true, false, ◌==◌, cond, Option, None, Some, length, map, All, sym, ap, ◌∙◌, arith, slice_get, IfSome, filter, filter_map, option_map, if◌then◌else◌, subst}
use Rattle.std.specs.Option.{option_and_then}
use Rattle.std.specs.List.{enumerate_from, cons_option}
use Rattle.std.proofs.lemmas.List.{length-map}
use Rattle.std.proofs.lemmas.List.Elements.{All-nil, All-cons, All-head, All-tail, All-append, All-weaker, All-map}
use Rattle.mg_config.specs.Config.{GraphView}
use Rattle.mg_calc.specs.Plan.{numbers, writing_node}
use Rattle.mg_calc.specs.declared.edge.Edge.{Edge}
use Rattle.mg_calc.specs.declared.plan_stream.Producer.{Producer}
use Rattle.mg_calc.specs.declared.plan_stream.Producer.TheVariants.{Input, Node}
use Rattle.mg_check.specs.Drafts.{DraftView}
use Rattle.mg_check.specs.DraftView.{draft_view, drafts_view}
use Rattle.mg_check.specs.Order.{IsBetween}
use Rattle.mg_check.specs.Joining.{link_of, edges_into, writers, links, sources, order, stream_names}
use Rattle.mg_check.specs.Joining as joining
use Rattle.mg_check.specs.Code.Writers.{node_writers, sources_from}
use Rattle.mg_check.specs.Code.Edges.{node_edges_from}
use Rattle.mg_check.specs.declared.draft.Draft.{Draft}
use Rattle.mg_check.specs.declared.ordering.Link.{Link}
use Rattle.mg_check.proofs.OrderFacts.{order_below}

all_of : {X : Type 0} (P : X → Type 0) → ((x : X) → P x) → (xs : List X) → All P xs
all_of P each [] = All-nil P
all_of P each (x ∷ xs) = All-cons P x xs (each x) (all_of P each xs)

all_found : {X : Type 0} (P : X → Type 0) (xs : List X) (i : ℕ) → All P xs → IfSome (slice_get xs i) P
all_found P [] i all = tt
all_found P (x ∷ xs) zero all = All-head P x xs all
all_found P (x ∷ xs) (suc i) all = all_found P xs i (All-tail P x xs all)

-- nodes without inputs
more_sources : (from : ℕ) (d : DraftView) (rest : List (ℕ × DraftView)) (test : Bool) (P : ℕ → Type 0) → P from → All P (map (λ e. e.0) rest) → All P (map (λ e. e.0) (cond test ((from, d) ∷ rest) rest))
more_sources from d rest true P here all = All-cons P from (map (λ e. e.0) rest) here all
more_sources from d rest false P here all = all

sources_below : (from : ℕ) (ds : List DraftView) → All (λ n. n < from + length ds) (sources_from from ds)
sources_below from [] = All-nil (λ n. n < from + 0)
sources_below from (d ∷ ds) =
    more_sources from d (filter (λ e. length e.1.inputs == 0) (enumerate_from (from + 1) ds)) (length d.inputs == 0) (λ n. n < from + suc (length ds)) (omega arith)
    (All-weaker (λ n. n < from + 1 + length ds) (λ n. n < from + suc (length ds)) (λ n less. omega (arith, less)) (sources_from (from + 1) ds) (sources_below (from + 1) ds))

pub sources_within : (drafts : List Draft) (ns items : List ℕ) → ns ≡ items → items ≡ sources_from 0 (drafts_view drafts) → All (λ n. n < length drafts) ns
sources_within drafts ns items is known =
    let P : List ℕ → Type 0 = λ l. All (λ n. n < length drafts) l in
    let count : length (drafts_view drafts) ≡ length drafts = length-map drafts draft_view in
    subst P (sym (is ∙ known)) (All-weaker (λ n. n < 0 + length (drafts_view drafts)) (λ n. n < length drafts) (λ n less. omega (arith, less, count)) (sources_from 0 (drafts_view drafts)) (sources_below 0 (drafts_view drafts)))

-- the order
pub order_within : (drafts : List Draft) (graph : GraphView) (ns items : List ℕ) → ns ≡ items → items ≡ order graph (drafts_view drafts) → All (λ n. n < length drafts) ns
order_within drafts graph ns items is known =
    let ds = drafts_view drafts in
    let P : List ℕ → Type 0 = λ l. All (λ n. n < length drafts) l in
    let count : length ds ≡ length drafts = length-map drafts draft_view in
    subst P (sym (is ∙ known)) (All-weaker (λ n. n < length ds) (λ n. n < length drafts) (λ n less. omega (arith, less, count)) (order graph ds) (order_below (length ds) (sources ds) (links graph ds) (All-weaker (λ n. n < 0 + length ds) (λ n. n < length ds) (λ n less. omega (arith, less)) (sources ds) (sources_below 0 ds))))

-- links
abbrev IsBelow : ℕ → Producer → Type 0
IsBelow count p = IfSome (writing_node p) (λ n. n < count)

below_more : (count more : ℕ) → count ≤ more → (p : Producer) → IsBelow count p → IsBelow more p
below_more count more less (Input n) below = tt
below_more count more less (Node n port) below = omega (arith, less, below)

writers_below : (from : ℕ) (ds : List DraftView) → All (IsBelow (from + length ds)) (node_writers from ds)
writers_below from [] = All-nil (IsBelow (from + 0))
writers_below from (d ∷ ds) =
    All-append (IsBelow (from + suc (length ds))) (map (λ port. Node from port) (numbers (length d.outputs))) (node_writers (from + 1) ds)
    (All-map (IsBelow (from + suc (length ds))) (λ port. Node from port) (numbers (length d.outputs)) (all_of (λ port. from < from + suc (length ds)) (λ port. omega arith) (numbers (length d.outputs))))
    (All-weaker (IsBelow (from + 1 + length ds)) (IsBelow (from + suc (length ds))) (below_more (from + 1 + length ds) (from + suc (length ds)) (omega arith)) (node_writers (from + 1) ds) (writers_below (from + 1) ds))

all_writers_below : (graph : GraphView) (ds : List DraftView) → All (IsBelow (length ds)) (writers graph ds)
all_writers_below graph ds =
    All-append (IsBelow (length ds)) (map Input (numbers (length graph.inputs))) (node_writers 0 ds)
    (All-map (IsBelow (length ds)) Input (numbers (length graph.inputs)) (all_of (λ n. IsBelow (length ds) (Input n)) (λ n. tt) (numbers (length graph.inputs))))
    (All-weaker (IsBelow (0 + length ds)) (IsBelow (length ds)) (below_more (0 + length ds) (length ds) (omega arith)) (node_writers 0 ds) (writers_below 0 ds))

edges_below : (names : List (List ℕ)) (from : ℕ) (ds : List DraftView) → All (λ e. e.node < from + length ds) (node_edges_from names from ds)
edges_below names from [] = All-nil (λ (e : Edge). e.node < from + 0)
edges_below names from (d ∷ ds) =
    All-append (λ (e : Edge). e.node < from + suc (length ds)) (edges_into names from d.back d.inputs) (node_edges_from names (from + 1) ds)
    (All-map (λ (e : Edge). e.node < from + suc (length ds)) _ (enumerate_from 0 d.inputs) (all_of (λ e. from < from + suc (length ds)) (λ e. omega arith) (enumerate_from 0 d.inputs)))
    (All-weaker (λ (e : Edge). e.node < from + 1 + length ds) (λ (e : Edge). e.node < from + suc (length ds)) (λ e less. omega (arith, less)) (node_edges_from names (from + 1) ds) (edges_below names (from + 1) ds))

link_by : (count to : ℕ) (back : Bool) (found : Option Producer) → IfSome found (IsBelow count) → to < count
    → IfSome (if back then None else option_map (λ from. record { from = from; to = to }) (option_and_then writing_node found)) (IsBetween count)
link_by count to true found below less = tt
link_by count to false None below less = tt
link_by count to false (Some (Input n)) below less = tt
link_by count to false (Some (Node n port)) below less = record { from = below; to = less }

more_links : {Y : Type 0} (P : Y → Type 0) (found : Option Y) (ys : List Y) → IfSome found P → All P ys → All P (cons_option found ys)
more_links P None ys here all = all
more_links P (Some y) ys here all = All-cons P y ys here all

links_between : (count : ℕ) (ws : List Producer) (es : List Edge) → All (IsBelow count) ws → All (λ e. e.node < count) es → All (IsBetween count) (filter_map (link_of ws) es)
links_between count ws [] below all = All-nil (IsBetween count)
links_between count ws (e ∷ es) below all =
    more_links (IsBetween count) (link_of ws e) (filter_map (link_of ws) es)
    (link_by count e.node e.back (slice_get ws e.stream) (all_found (IsBelow count) ws e.stream below) (All-head (λ (x : Edge). x.node < count) e es all))
    (links_between count ws es below (All-tail (λ (x : Edge). x.node < count) e es all))

pub links_within : (drafts : List Draft) (graph : GraphView) (ls items : List Link) (ws : List Producer) (es : List Edge) → ls ≡ items → items ≡ filter_map (link_of ws) es → ws ≡ writers graph (drafts_view drafts) → es ≡ joining.node_edges graph (drafts_view drafts)
    → All (IsBetween (length drafts)) ls
links_within drafts graph ls items ws es is known same_writers same_edges =
    let ds = drafts_view drafts in
    let P : List Link → Type 0 = λ l. All (IsBetween (length drafts)) l in
    let Q : ℕ → Type 0 = λ n. All (IsBetween n) (links graph ds) in
    let whole : ls ≡ links graph ds = is ∙ (known ∙ (ap (λ w. filter_map (link_of w) es) same_writers ∙ ap (filter_map (link_of (writers graph ds))) same_edges)) in
    subst P (sym whole) (subst Q (length-map drafts draft_view) (links_between (length ds) (writers graph ds) (joining.node_edges graph ds) (all_writers_below graph ds) (All-weaker (λ (e : Edge). e.node < 0 + length ds) (λ (e : Edge). e.node < length ds) (λ e less. omega (arith, less)) (joining.node_edges graph ds) (edges_below (stream_names graph ds) 0 ds))))

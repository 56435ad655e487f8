-- The fields that a configuration is written as have no fault.
use Rattle.std.proofs.Common.{ℕ, suc, ◌≡◌, List, [], ◌∷◌, ◌++◌, Bool, true, false, if◌then◌else◌, None, Some, map, append_assoc, arith, refl, subst, codes}
use Rattle.std.specs.List.{list_any, All}
use Rattle.std.specs.Str.{bytes_eq}
use Rattle.mg_text.specs.Tree.{Fields, none, scalar, message, word}
use Rattle.mg_text.specs.View.{simple, inner, Entry, fields_of}
use Rattle.mg_names.specs.TagIndex.{text_of_tag_index}
use Rattle.mg_names.specs.declared.port.Port.{Port}
use Rattle.mg_config.specs.Schema.{many, rule_of}
use Rattle.mg_config.specs.Values.{entry, has_name}
use Rattle.mg_config.specs.Config.{NodeView, GraphView}
use Rattle.mg_config.specs.Faults.{field_fault}
use Rattle.mg_config.specs.Written.{text_entry, text_field, number_field, port_fields, mark_entry, mark_fields, handler_field, options_field, list_fields, node_fields, node_entry, graph_fields, tree_of}
use Rattle.mg_config.specs.Sound.{IsSoundNode, IsSound}
use Rattle.mg_config.specs.declared.mark.Mark.{Mark}
use Rattle.mg_config.specs.declared.schema.Message.{Message}
use Rattle.mg_config.specs.declared.schema.Message.TheVariants.{Graph, Node, Info, Handler}
use Rattle.mg_config.specs.declared.schema.Shape.TheVariants.{Text, Options, Inside}
use Rattle.mg_config.proofs.Clear.{AreClear, none_clear, first_clear, single_clear, own_many, own_once, inside_clear, AreCalled, none_called, more_called, one_called, IsChain, chain_begun, chain_more, chain_clear, chain_text, chain_number, chain_ports}

-- the four lists of ports
lists_regroup : {E : Type 0} (x a b c d : List E) → (((x ++ a) ++ b) ++ c) ++ d ≡ x ++ (a ++ (b ++ (c ++ d)))
lists_regroup x a b c d = simp append_assoc

abbrev pub with_lists : List (List ℕ) → List (List ℕ)
with_lists names = codes "output_side_packet" ∷ codes "input_side_packet" ∷ codes "output_stream" ∷ codes "input_stream" ∷ names

pub chain_lists : (kind : Message) (names : List (List ℕ)) (fields : List Entry) (inputs outputs input_sides output_sides : List Port)
    → rule_of kind (codes "input_stream") ≡ Some (many Text) → rule_of kind (codes "output_stream") ≡ Some (many Text)
    → rule_of kind (codes "input_side_packet") ≡ Some (many Text) → rule_of kind (codes "output_side_packet") ≡ Some (many Text)
    → IsChain kind names fields → IsChain kind (with_lists names) (fields ++ list_fields inputs outputs input_sides output_sides)
chain_lists kind names fields inputs outputs input_sides output_sides r1 r2 r3 r4 chain =
    let a = port_fields (codes "input_stream") inputs in
    let b = port_fields (codes "output_stream") outputs in
    let c = port_fields (codes "input_side_packet") input_sides in
    let d = port_fields (codes "output_side_packet") output_sides in
    let all : IsChain kind (with_lists names) ((((fields ++ a) ++ b) ++ c) ++ d) =
    chain_ports kind _ _ (codes "output_side_packet") output_sides r4
    (chain_ports kind _ _ (codes "input_side_packet") input_sides r3
    (chain_ports kind _ _ (codes "output_stream") outputs r2
    (chain_ports kind names fields (codes "input_stream") inputs r1 chain))) in
    subst (λ es. IsChain kind (with_lists names) es) (lists_regroup fields a b c d) all

-- back edges
mark_judged : (mark : Mark) → field_fault Info (fields_of (text_entry (codes "tag_index") (text_of_tag_index mark.tag mark.index) ∷ entry (codes "back_edge") (simple word (codes "true")) ∷ [])) ≡ None
mark_judged mark = refl

marks_clear : (before : List Entry) (marks : List Mark) → AreClear Node before (mark_fields marks)
marks_clear before [] = none_clear Node before
marks_clear before (mark ∷ marks) =
    let name = codes "input_stream_info" in
    let fields = fields_of (text_entry (codes "tag_index") (text_of_tag_index mark.tag mark.index) ∷ entry (codes "back_edge") (simple word (codes "true")) ∷ []) in
    first_clear Node before name (inner fields) (mark_fields marks) (own_many Node before name (inner fields) (Inside Info) refl refl)
    (inside_clear Node Info true before name fields refl (mark_judged mark)) (marks_clear (before ++ mark_entry mark ∷ []) marks)

marks_called : (marks : List Mark) → AreCalled (codes "input_stream_info") (mark_fields marks)
marks_called [] = none_called (codes "input_stream_info")
marks_called (mark ∷ marks) = more_called (codes "input_stream_info") (mark_entry mark).value (mark_fields marks) (marks_called marks)

-- the handler
handler_clear : (before : List Entry) (name : List ℕ) → list_any (has_name (codes "input_stream_handler")) before ≡ false → AreClear Node before (handler_field name)
handler_clear before name fresh = by (bytes_eq name [])
  where
    by : (t : Bool) → AreClear Node before (if t then [] else entry (codes "input_stream_handler") (inner (fields_of (text_entry (codes "input_stream_handler") name ∷ []))) ∷ [])
    by true = none_clear Node before
    by false = single_clear Node before (codes "input_stream_handler") (inner (fields_of (text_entry (codes "input_stream_handler") name ∷ [])))
        (own_once Node before (codes "input_stream_handler") (inner (fields_of (text_entry (codes "input_stream_handler") name ∷ []))) (Inside Handler) refl refl fresh)
        (inside_clear Node Handler false before (codes "input_stream_handler") (fields_of (text_entry (codes "input_stream_handler") name ∷ [])) refl refl)

handler_called : (name : List ℕ) → AreCalled (codes "input_stream_handler") (handler_field name)
handler_called name = by (bytes_eq name [])
  where
    by : (t : Bool) → AreCalled (codes "input_stream_handler") (if t then [] else entry (codes "input_stream_handler") (inner (fields_of (text_entry (codes "input_stream_handler") name ∷ []))) ∷ [])
    by true = none_called (codes "input_stream_handler")
    by false = one_called (codes "input_stream_handler") (inner (fields_of (text_entry (codes "input_stream_handler") name ∷ [])))

-- options, which are not judged
options_one : (before : List Entry) (fields : Fields) → list_any (has_name (codes "options")) before ≡ false → AreClear Node before (entry (codes "options") (inner fields) ∷ [])
options_one before fields fresh =
    single_clear Node before (codes "options") (inner fields) (own_once Node before (codes "options") (inner fields) Options refl refl fresh) refl

options_clear : (before : List Entry) (fields : Fields) → list_any (has_name (codes "options")) before ≡ false → AreClear Node before (options_field fields)
options_clear before none fresh = none_clear Node before
options_clear before (scalar name kind bytes rest) fresh = options_one before (scalar name kind bytes rest) fresh
options_clear before (message name fields rest) fresh = options_one before (message name fields rest) fresh

options_called : (fields : Fields) → AreCalled (codes "options") (options_field fields)
options_called none = none_called (codes "options")
options_called (scalar name kind bytes rest) = one_called (codes "options") (inner (scalar name kind bytes rest))
options_called (message name fields rest) = one_called (codes "options") (inner (message name fields rest))

-- a node
node_regroup : {E : Type 0} (a b c d e f g h : List E) → ((((((([] ++ a) ++ b) ++ c) ++ d) ++ e) ++ f) ++ g) ++ h ≡ a ++ (b ++ (c ++ (d ++ (e ++ (f ++ (g ++ h))))))
node_regroup a b c d e f g h = simp append_assoc

abbrev head_names : List (List ℕ)
head_names = with_lists (codes "calculator" ∷ codes "name" ∷ [])

node_head : (node : NodeView)
    → IsChain Node head_names ((([] ++ text_field (codes "name") node.name) ++ text_field (codes "calculator") node.calculator) ++ list_fields node.inputs node.outputs node.input_sides node.output_sides)
node_head node =
    chain_lists Node (codes "calculator" ∷ codes "name" ∷ []) _ node.inputs node.outputs node.input_sides node.output_sides refl refl refl refl
    (chain_text Node (codes "name" ∷ []) _ (codes "calculator") node.calculator refl refl
    (chain_text Node [] [] (codes "name") node.name refl refl (chain_begun Node)))

abbrev number_names : List (List ℕ)
number_names = codes "buffer_size_hint" ∷ codes "max_in_flight" ∷ codes "input_stream_handler" ∷ codes "input_stream_info" ∷ head_names

node_numbers : (node : NodeView) → IsSoundNode node → (head : List Entry) → IsChain Node head_names head
    → IsChain Node number_names ((((head ++ mark_fields node.back_marks) ++ handler_field node.handler) ++ number_field (codes "max_in_flight") node.max_in_flight) ++ number_field (codes "buffer_size_hint") node.buffer_size_hint)
node_numbers node sound head chain =
    let marked : IsChain Node (codes "input_stream_info" ∷ head_names) (head ++ mark_fields node.back_marks) =
    chain_more Node head_names head (codes "input_stream_info") (mark_fields node.back_marks) chain (marks_clear head node.back_marks) (marks_called node.back_marks) in
    let handled : IsChain Node (codes "input_stream_handler" ∷ codes "input_stream_info" ∷ head_names) ((head ++ mark_fields node.back_marks) ++ handler_field node.handler) =
    chain_more Node _ _ (codes "input_stream_handler") (handler_field node.handler) marked
    (handler_clear (head ++ mark_fields node.back_marks) node.handler (marked.fresh (codes "input_stream_handler") refl)) (handler_called node.handler) in
    chain_number Node _ _ (codes "buffer_size_hint") node.buffer_size_hint sound.buffer_size_hint refl refl
    (chain_number Node _ _ (codes "max_in_flight") node.max_in_flight sound.max_in_flight refl refl handled)

node_chain : (node : NodeView) → IsSoundNode node → IsChain Node (codes "options" ∷ number_names) (node_fields node)
node_chain node sound =
    let a = text_field (codes "name") node.name in
    let b = text_field (codes "calculator") node.calculator in
    let c = list_fields node.inputs node.outputs node.input_sides node.output_sides in
    let d = mark_fields node.back_marks in
    let e = handler_field node.handler in
    let f = number_field (codes "max_in_flight") node.max_in_flight in
    let g = number_field (codes "buffer_size_hint") node.buffer_size_hint in
    let h = options_field node.options in
    let front = ((((((([] ++ a) ++ b) ++ c) ++ d) ++ e) ++ f) ++ g) in
    let numbered : IsChain Node number_names front = node_numbers node sound ((([] ++ a) ++ b) ++ c) (node_head node) in
    let all : IsChain Node (codes "options" ∷ number_names) (front ++ h) =
    chain_more Node number_names front (codes "options") h numbered (options_clear front node.options (numbered.fresh (codes "options") refl)) (options_called node.options) in
    subst (λ es. IsChain Node (codes "options" ∷ number_names) es) (node_regroup a b c d e f g h) all

pub node_judged : (node : NodeView) → IsSoundNode node → field_fault Node (fields_of (node_fields node)) ≡ None
node_judged node sound = chain_clear Node (codes "options" ∷ number_names) (node_fields node) (node_chain node sound)

-- nodes
nodes_clear : (before : List Entry) (nodes : List NodeView) → All IsSoundNode nodes → AreClear Graph before (map node_entry nodes)
nodes_clear before [] sound = none_clear Graph before
nodes_clear before (node ∷ nodes) sound =
    let fields = fields_of (node_fields node) in
    first_clear Graph before (codes "node") (inner fields) (map node_entry nodes) (own_many Graph before (codes "node") (inner fields) (Inside Node) refl refl)
    (inside_clear Graph Node true before (codes "node") fields refl (node_judged node (sound 0 node (omega arith))))
    (nodes_clear (before ++ node_entry node ∷ []) nodes (λ k d inside. sound (suc k) d (omega arith)))

nodes_called : (nodes : List NodeView) → AreCalled (codes "node") (map node_entry nodes)
nodes_called [] = none_called (codes "node")
nodes_called (node ∷ nodes) = more_called (codes "node") (node_entry node).value (map node_entry nodes) (nodes_called nodes)

-- a graph
graph_regroup : {E : Type 0} (a b c d e : List E) → (((([] ++ a) ++ b) ++ c) ++ d) ++ e ≡ a ++ (b ++ (c ++ (d ++ e)))
graph_regroup a b c d e = simp append_assoc

abbrev pub own_names : List (List ℕ)
own_names = codes "num_threads" ∷ codes "max_queue_size" ∷ with_lists (codes "type" ∷ [])

-- what stands before the nodes
abbrev pub own_fields : GraphView → List Entry
own_fields graph =
    ((([] ++ text_field (codes "type") graph.type_name) ++ list_fields graph.inputs graph.outputs graph.input_sides graph.output_sides)
    ++ number_field (codes "max_queue_size") graph.max_queue_size) ++ number_field (codes "num_threads") graph.num_threads

pub own_then_nodes : (graph : GraphView) → own_fields graph ++ map node_entry graph.nodes ≡ graph_fields graph
own_then_nodes graph =
    graph_regroup (text_field (codes "type") graph.type_name) (list_fields graph.inputs graph.outputs graph.input_sides graph.output_sides)
    (number_field (codes "max_queue_size") graph.max_queue_size) (number_field (codes "num_threads") graph.num_threads) (map node_entry graph.nodes)

pub own_chain : (graph : GraphView) → IsSound graph → IsChain Graph own_names (own_fields graph)
own_chain graph sound =
    chain_number Graph _ _ (codes "num_threads") graph.num_threads sound.num_threads refl refl
    (chain_number Graph _ _ (codes "max_queue_size") graph.max_queue_size sound.max_queue_size refl refl
    (chain_lists Graph (codes "type" ∷ []) _ graph.inputs graph.outputs graph.input_sides graph.output_sides refl refl refl refl
    (chain_text Graph [] [] (codes "type") graph.type_name refl refl (chain_begun Graph))))

graph_chain : (graph : GraphView) → IsSound graph → IsChain Graph (codes "node" ∷ own_names) (graph_fields graph)
graph_chain graph sound =
    let all : IsChain Graph (codes "node" ∷ own_names) (own_fields graph ++ map node_entry graph.nodes) =
    chain_more Graph own_names (own_fields graph) (codes "node") (map node_entry graph.nodes) (own_chain graph sound) (nodes_clear (own_fields graph) graph.nodes sound.nodes) (nodes_called graph.nodes) in
    subst (λ es. IsChain Graph (codes "node" ∷ own_names) es) (own_then_nodes graph) all

pub no_field_fault : (graph : GraphView) → IsSound graph → field_fault Graph (tree_of graph) ≡ None
no_field_fault graph sound = chain_clear Graph (codes "node" ∷ own_names) (graph_fields graph) (graph_chain graph sound)

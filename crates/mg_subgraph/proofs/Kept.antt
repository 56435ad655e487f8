-- What expansion keeps: nodes that can be read back, and printed.
use Rattle.std.proofs.Common.{ℕ, suc, zero, ◌≡◌, List, [], ◌∷◌, ◌++◌, Option, None, Some, true, Result, Ok, inl, inr, refl, sym, ap, ◌∙◌, length, arith, map, subst, get_or}
use Rattle.std.specs.Prelude.{slice_get, unwrap_or}
use Rattle.std.specs.List.{All, list_all}
use Rattle.std.proofs.lemmas.List.Elements.{All-append, All-map, All-cons, All-nil}
use Rattle.mg_text.specs.Canonical.{AreCharacters}
use Rattle.mg_names.specs.Grammar.{is_name}
use Rattle.mg_names.specs.Ports.{text_of, IsSpelled}
use Rattle.mg_names.specs.declared.port.Port.{Port}
use Rattle.mg_names.proofs.Again.{read_named, all_spelled}
use Rattle.mg_config.specs.Config.{NodeView, GraphView}
use Rattle.mg_config.specs.Sound.{AreReadBack, IsSoundNode, IsSound, IsPrintableNode, IsPrintable}
use Rattle.mg_subgraph.specs.Names.{prefix, outer_name, joined_name, stream_name, side_name, node_name, renamed_ports, renamed}
use Rattle.mg_subgraph.specs.Library.{file_of, is_of}
use Rattle.mg_subgraph.specs.Expanded.{replaced, all_replaced, expanded_to, expanded}
use Rattle.mg_subgraph.specs.Expansion.{expansion_of, expansion_by, refusal}
use Rattle.mg_subgraph.specs.declared.fault.ExpandFault.{ExpandFault}
use Rattle.mg_subgraph.proofs.Grounded.{find_found}
use Rattle.mg_subgraph.proofs.Meeting.{names_renamed, outer_found}
use Rattle.mg_subgraph.proofs.Prefixes.{prefix_is_name, prefix_characters}
use Rattle.mg_subgraph.proofs.Joins.{and_join, either_some}

all_head : {X : Type 0} (P : X → Type 0) (x : X) (xs : List X) → All P (x ∷ xs) → P x
all_head P x xs all = all 0 x (omega arith)

all_tail : {X : Type 0} (P : X → Type 0) (x : X) (xs : List X) → All P (x ∷ xs) → All P xs
all_tail P x xs all = λ k d inside. all (suc k) d (omega arith)

all_at : {X : Type 0} (P : X → Type 0) (xs : List X) (i : ℕ) (x : X) → All P xs → slice_get xs i ≡ Some x → P x
all_at P [] i x all here = cc
all_at P (y ∷ xs) zero x all here = let same : y ≡ x = cc in subst P same (all_head P y xs all)
all_at P (y ∷ xs) (suc i) x all here = all_at P xs i x (all_tail P y xs all) here

-- What a node keeps under the names that a node gives it, all expanded nodes have.
abbrev Keeps : (NodeView → Type 0) → Type 0
Keeps P = (n : ℕ) (node : NodeView) (file : GraphView) (inner : NodeView) → P node → P inner → P (renamed n node file inner)

kept_by_node : (P : NodeView → Type 0) → Keeps P → (expand : List NodeView → List NodeView) (n : ℕ) (node : NodeView) (found : Option GraphView) → P node
    → ((file : GraphView) → found ≡ Some file → All P (expand file.nodes)) → All P (replaced expand n node found)
kept_by_node P keeps expand n node None known files = All-cons P node [] known (All-nil P)
kept_by_node P keeps expand n node (Some file) known files =
    All-map P (renamed n node file) (expand file.nodes) (λ k d inside. keeps n node file (get_or (expand file.nodes) k d) known (files file refl k d inside))

kept_by_nodes : (P : NodeView → Type 0) → Keeps P → (expand : List NodeView → List NodeView) (library : List GraphView) (n : ℕ) (nodes : List NodeView) → All P nodes
    → ((i : ℕ) (file : GraphView) → slice_get library i ≡ Some file → All P (expand file.nodes)) → All P (all_replaced expand library n nodes)
kept_by_nodes P keeps expand library n [] known files = All-nil P
kept_by_nodes P keeps expand library n (node ∷ nodes) known files =
    All-append P (replaced expand n node (file_of library node.calculator)) (all_replaced expand library (suc n) nodes)
    (kept_by_node P keeps expand n node (file_of library node.calculator) (all_head P node nodes known) (λ file found. let here = find_found (is_of node.calculator) library file found in files here.0 file here.1))
    (kept_by_nodes P keeps expand library (suc n) nodes (all_tail P node nodes known) files)

pub kept_to : (P : NodeView → Type 0) → Keeps P → (library : List GraphView) → ((i : ℕ) (file : GraphView) → slice_get library i ≡ Some file → All P file.nodes)
    → (depth : ℕ) (nodes : List NodeView) → All P nodes → All P (expanded_to depth library nodes)
kept_to P keeps library files zero nodes known = known
kept_to P keeps library files (suc depth) nodes known =
    kept_by_nodes P keeps (expanded_to depth library) library 0 nodes known (λ i file here. kept_to P keeps library files depth file.nodes (files i file here))

-- the names of ports that are read back are names
port_is_named : (ports : List Port) (i : ℕ) (port : Port) → AreReadBack ports → slice_get ports i ≡ Some port → is_name port.name ≡ true
port_is_named ports i port back here = (all_at IsSpelled ports i port (all_spelled (map text_of ports) ports back) here).name

outer_is_named : (given ports : List Port) (name outer : List ℕ) → AreReadBack given → outer_name given ports name ≡ Some outer → is_name outer ≡ true
outer_is_named given ports name outer back known =
    let found = outer_found given ports name outer known in
    ap is_name (sym found.3) ∙ port_is_named given found.0 found.1 back found.2

joined_is_named : (given_in given_out inputs outputs : List Port) (name outer : List ℕ) → AreReadBack given_in → AreReadBack given_out → joined_name given_in given_out inputs outputs name ≡ Some outer → is_name outer ≡ true
joined_is_named given_in given_out inputs outputs name outer back_in back_out known =
    elim (either_some (outer_name given_in inputs name) (outer_name given_out outputs name) outer known) [
      | inl first ↦ outer_is_named given_in inputs name outer back_in first
      | inr second ↦ outer_is_named given_out outputs name outer back_out second
    ]

new_is_named : (n : ℕ) (outer : Option (List ℕ)) (name : List ℕ) → ((o : List ℕ) → outer ≡ Some o → is_name o ≡ true) → is_name name ≡ true → is_name (unwrap_or outer (prefix n ++ name)) ≡ true
new_is_named n None name outers known = prefix_is_name n name known
new_is_named n (Some o) name outers known = outers o refl

-- ports under the names that a sound node gives are read back
names_all : (rename : List ℕ → List ℕ) (ports : List Port) → ((i : ℕ) (port : Port) → slice_get ports i ≡ Some port → is_name (rename port.name) ≡ true) → list_all is_name (map (λ port. rename port.name) ports) ≡ true
names_all rename [] known = refl
names_all rename (port ∷ ports) known = and_join (is_name (rename port.name)) (list_all is_name (map (λ p. rename p.name) ports)) (known 0 port refl) (names_all rename ports (λ i p here. known (suc i) p here))

pub renamed_back : (rename : List ℕ → List ℕ) (ports : List Port) → AreReadBack ports → ((name : List ℕ) → is_name name ≡ true → is_name (rename name) ≡ true) → AreReadBack (renamed_ports rename ports)
renamed_back rename ports back named =
    let names = map (λ port. rename port.name) ports in
    let read = read_named (map text_of ports) ports names back (names_all rename ports (λ i port here. named port.name (port_is_named ports i port back here))) in
    subst AreReadBack (names_renamed rename ports) read

-- a node of a file, where a sound node uses the file
pub sound_kept : Keeps IsSoundNode
sound_kept n node file inner outer known =
    let stream : (name : List ℕ) → is_name name ≡ true → is_name (stream_name n node file name) ≡ true = λ name good.
    new_is_named n (joined_name node.inputs node.outputs file.inputs file.outputs name) name (λ o here. joined_is_named node.inputs node.outputs file.inputs file.outputs name o outer.inputs outer.outputs here) good in
    let side : (name : List ℕ) → is_name name ≡ true → is_name (side_name n node file name) ≡ true = λ name good.
    new_is_named n (joined_name node.input_sides node.output_sides file.input_sides file.output_sides name) name
    (λ o here. joined_is_named node.input_sides node.output_sides file.input_sides file.output_sides name o outer.input_sides outer.output_sides here) good in
    record {
      calculator = known.calculator;
      inputs = renamed_back (stream_name n node file) inner.inputs known.inputs stream;
      outputs = renamed_back (stream_name n node file) inner.outputs known.outputs stream;
      input_sides = renamed_back (side_name n node file) inner.input_sides known.input_sides side;
      output_sides = renamed_back (side_name n node file) inner.output_sides known.output_sides side;
      back_marks = known.back_marks;
      max_in_flight = known.max_in_flight;
      buffer_size_hint = known.buffer_size_hint;
    }

node_characters : (n : ℕ) (name : List ℕ) → AreCharacters name → AreCharacters (node_name n name)
node_characters n [] known = known
node_characters n (b ∷ bs) known = prefix_characters n (b ∷ bs) known

pub printable_kept : Keeps IsPrintableNode
printable_kept n node file inner outer known = record {
  name = node_characters n inner.name known.name;
  calculator = known.calculator;
  handler = known.handler;
  options = known.options;
  shallow = known.shallow;
}

abbrev answered : GraphView → Result GraphView ExpandFault
answered graph = Ok graph

same_graph : (first second : GraphView) → answered first ≡ answered second → first ≡ second
same_graph first second same = cc

-- a graph that is expanded
pub expansion_is : (main : GraphView) (library : List GraphView) (graph : GraphView) → expansion_of main library ≡ Ok graph → (refusal main library ≡ None) × (record main { nodes = expanded library main.nodes } ≡ graph)
expansion_is main library graph made = by_refusal (refusal main library) refl made
  where
    by_refusal : (o : Option ExpandFault) → refusal main library ≡ o → expansion_by o (record main { nodes = expanded library main.nodes }) ≡ Ok graph → (refusal main library ≡ None) × (record main { nodes = expanded library main.nodes } ≡ graph)
    by_refusal None here made = (here, same_graph (record main { nodes = expanded library main.nodes }) graph made)
    by_refusal (Some fault) here made = cc

pub sound_expansion : (main : GraphView) (library : List GraphView) (graph : GraphView) → expansion_of main library ≡ Ok graph → IsSound main → ((i : ℕ) (file : GraphView) → slice_get library i ≡ Some file → IsSound file) → IsSound graph
sound_expansion main library graph made known files =
    subst IsSound (expansion_is main library graph made).1 (record {
      nodes = kept_to IsSoundNode sound_kept library (λ i file here. (files i file here).nodes) (length library) main.nodes known.nodes;
      inputs = known.inputs;
      outputs = known.outputs;
      input_sides = known.input_sides;
      output_sides = known.output_sides;
      max_queue_size = known.max_queue_size;
      num_threads = known.num_threads;
    })

pub printable_expansion : (main : GraphView) (library : List GraphView) (graph : GraphView) → expansion_of main library ≡ Ok graph → IsPrintable main → ((i : ℕ) (file : GraphView) → slice_get library i ≡ Some file → IsPrintable file) → IsPrintable graph
printable_expansion main library graph made known files =
    subst IsPrintable (expansion_is main library graph made).1 (record {
      type_name = known.type_name;
      nodes = kept_to IsPrintableNode printable_kept library (λ i file here. (files i file here).nodes) (length library) main.nodes known.nodes;
    })

-- what holds of each file holds of each that they stand for
pub all_files : {X Y : Type 0} (P : Y → Type 0) (view : X → Y) (files : List X) → All (λ file. P (view file)) files → (i : ℕ) (file : Y) → slice_get (map view files) i ≡ Some file → P file
all_files P view files all i file here = all_at P (map view files) i file (All-map P view files all) here

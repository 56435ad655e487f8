-- What was expanded, expanded again.
use Rattle.std.proofs.Common.{ℕ, suc, zero, ◌≡◌, ⊎_elim, List, [], ◌∷◌, Option, None, Some, Bool, true, false, ◌||◌, Result, Ok, Err, refl, sym, ap, ◌∙◌, length, map, subst, filter, is_some, if◌then◌else◌, nat_lt, codes}
use Rattle.std.specs.Prelude.{slice_get, find, option_map}
use Rattle.std.specs.Option.{option_or, option_and_then}
use Rattle.std.specs.List.{list_any}
use Rattle.std.proofs.lemmas.Bool.{cases_Bool, false≢true}
use Rattle.mg_config.specs.Config.{NodeView, GraphView, node_view}
use Rattle.mg_config.specs.declared.node.NodeConfig.{NodeConfig}
use Rattle.mg_subgraph.specs.Library.{is_of, file_of, is_subgraph, uses, uses_file, used_files, is_recursive}
use Rattle.mg_subgraph.specs.Expanded.{expanded_to, expanded}
use Rattle.mg_subgraph.specs.Expansion.{expansion_of, expansion_by, refusal}
use Rattle.mg_subgraph.specs.Refusals.{max_nodes, type_twice, recursive, too_many_nodes, reserved_name, port_shared_in, port_shared, node_fault, fault_in, owned_fault, bad_field_at, bad_field, no_such_port_at, no_such_port, first_some}
use Rattle.mg_subgraph.specs.declared.fault.ExpandFault.{ExpandFault}
use Rattle.mg_subgraph.specs.declared.fault.ExpandFault.TheVariants.{Recursive, TooManyNodes}
use Rattle.mg_subgraph.proofs.Grounded.{none_replaced, none_left as all_expanded}
use Rattle.mg_subgraph.proofs.Kept.{expansion_is}
use Rattle.mg_subgraph.proofs.Linked.{find_none_at, filter_drops}
use Rattle.mg_subgraph.proofs.Looked.{any_mapped, reserved_none}
use Rattle.mg_subgraph.proofs.Reaching.{least_used}
use Rattle.mg_subgraph.proofs.Sized.{grounded_main}
use Rattle.mg_subgraph.proofs.Joins.{neither_left, neither_right, none_left, none_right}

no_file : (o : Option GraphView) → is_some o ≡ false → o ≡ None
no_file None known = refl
no_file (Some x) known = cc

-- nodes use no file if none of them is a subgraph node
pub flat_unused : (library : List GraphView) (nodes : List NodeView) → list_any (is_subgraph library) nodes ≡ false → (i : ℕ) (file : GraphView) → slice_get library i ≡ Some file → uses nodes file ≡ true → ⊥
flat_unused library [] flat i file here known = false≢true known
flat_unused library (node ∷ nodes) flat i file here known =
    let head = no_file (file_of library node.calculator) (neither_left (is_subgraph library node) (list_any (is_subgraph library) nodes) flat) in
    let other : is_of node.calculator file ≡ false = find_none_at (is_of node.calculator) library head i file here in
    flat_unused library nodes (neither_right (is_subgraph library node) (list_any (is_subgraph library) nodes) flat) i file here (sym (ap (λ b. b || uses nodes file) other) ∙ known)

pub flat_used : (library : List GraphView) (nodes : List NodeView) → list_any (is_subgraph library) nodes ≡ false → (i : ℕ) (file : GraphView) → slice_get library i ≡ Some file → uses_file library nodes file ≡ false
flat_used library nodes flat i file here =
    ⊎_elim
    (λ known. absurd (false≢true (least_used library nodes (λ _. false) (λ j f at used. absurd (flat_unused library nodes flat j f at used)) (λ j k f g at_f at_g never used. never) i file here known)))
    (λ unused. unused)
    (cases_Bool (uses_file library nodes file))

filter_none : {X : Type 0} (q : X → Bool) (xs : List X) → ((i : ℕ) (x : X) → slice_get xs i ≡ Some x → q x ≡ false) → filter q xs ≡ []
filter_none q [] none = refl
filter_none q (x ∷ xs) none = filter_drops q x xs (none 0 x refl) ∙ filter_none q xs (λ i y here. none (suc i) y here)

-- they are their own expansion, and nothing in them is refused
pub flat_same : (library : List GraphView) (nodes : List NodeView) → list_any (is_subgraph library) nodes ≡ false → (depth : ℕ) → expanded_to depth library nodes ≡ nodes
flat_same library nodes flat zero = refl
flat_same library nodes flat (suc depth) = none_replaced (expanded_to depth library) library 0 nodes (flat_unused library nodes flat)

flat_fault : (library : List GraphView) (judge : ℕ → NodeView → GraphView → Option ExpandFault) (n : ℕ) (nodes : List NodeView) → list_any (is_subgraph library) nodes ≡ false → node_fault library judge n nodes ≡ None
flat_fault library judge n [] flat = refl
flat_fault library judge n (node ∷ nodes) flat =
    let head = no_file (file_of library node.calculator) (neither_left (is_subgraph library node) (list_any (is_subgraph library) nodes) flat) in
    ap (λ o. option_or (option_and_then (judge n node) o) (node_fault library judge (suc n) nodes)) head
    ∙ flat_fault library judge (suc n) nodes (neither_right (is_subgraph library node) (list_any (is_subgraph library) nodes) flat)

flat_owned : (judge : List ℕ → ℕ → NodeView → GraphView → Option ExpandFault) (graph : GraphView) (library : List GraphView) → list_any (is_subgraph library) graph.nodes ≡ false → used_files graph library ≡ []
    → owned_fault judge graph library ≡ None
flat_owned judge graph library flat unused =
    ap (λ o. option_or o (first_some (fault_in judge library) (used_files graph library))) (flat_fault library (judge (codes "main")) 0 graph.nodes flat)
    ∙ ap (first_some (fault_in judge library)) unused

-- what isn't refused for any of the causes is expanded
none_refused : (main : GraphView) (library : List GraphView) → type_twice library ≡ None → recursive main library ≡ None → too_many_nodes main library ≡ None → reserved_name main library ≡ None → port_shared main library ≡ None
    → bad_field main library ≡ None → no_such_port main library ≡ None → refusal main library ≡ None
none_refused main library a b c d e f g =
    ap (λ o. option_or o (option_or (recursive main library) (option_or (too_many_nodes main library) (option_or (reserved_name main library) (option_or (port_shared main library) (option_or (bad_field main library) (no_such_port main library))))))) a
    ∙ (ap (λ o. option_or o (option_or (too_many_nodes main library) (option_or (reserved_name main library) (option_or (port_shared main library) (option_or (bad_field main library) (no_such_port main library)))))) b
    ∙ (ap (λ o. option_or o (option_or (reserved_name main library) (option_or (port_shared main library) (option_or (bad_field main library) (no_such_port main library))))) c
    ∙ (ap (λ o. option_or o (option_or (port_shared main library) (option_or (bad_field main library) (no_such_port main library)))) d
    ∙ (ap (λ o. option_or o (option_or (bad_field main library) (no_such_port main library))) e
    ∙ (ap (λ o. option_or o (no_such_port main library)) f ∙ g)))))

-- the parts of a refusal that isn't there
pub refusals_none : (main : GraphView) (library : List GraphView) → refusal main library ≡ None
    → (type_twice library ≡ None) × (recursive main library ≡ None) × (too_many_nodes main library ≡ None) × (reserved_name main library ≡ None)
refusals_none main library none =
    let names = option_or (reserved_name main library) (option_or (port_shared main library) (option_or (bad_field main library) (no_such_port main library))) in
    let b = none_right (type_twice library) (option_or (recursive main library) (option_or (too_many_nodes main library) names)) none in
    let c = none_right (recursive main library) (option_or (too_many_nodes main library) names) b in
    let d = none_right (too_many_nodes main library) names c in (
      none_left (type_twice library) (option_or (recursive main library) (option_or (too_many_nodes main library) names)) none,
      none_left (recursive main library) (option_or (too_many_nodes main library) names) b,
      none_left (too_many_nodes main library) names c,
      none_left (reserved_name main library) (option_or (port_shared main library) (option_or (bad_field main library) (no_such_port main library))) d,
    )

abbrev answered : GraphView → Result GraphView ExpandFault
answered graph = Ok graph

abbrev with_nodes : GraphView → List NodeView → GraphView
with_nodes graph nodes = record graph { nodes = nodes }

abbrev counted : Bool → Option ExpandFault
counted many = if many then Some TooManyNodes else None

not_many : (many : Bool) → counted many ≡ None → many ≡ false
not_many true none = cc
not_many false none = refl

-- A graph without subgraph nodes is its own expansion, and is refused for nothing but too many nodes.
pub flat_expansion : (main : GraphView) (library : List GraphView) → type_twice library ≡ None → list_any (is_subgraph library) main.nodes ≡ false → nat_lt max_nodes (length main.nodes) ≡ false
    → expansion_of main library ≡ Ok main
flat_expansion main library once flat few =
    let unused : used_files main library ≡ [] = filter_none (uses_file library main.nodes) library (flat_used library main.nodes flat) in
    let same : expanded library main.nodes ≡ main.nodes = flat_same library main.nodes flat (length library) in
    let many : too_many_nodes main library ≡ None = ap (λ (l : List NodeView). counted (nat_lt max_nodes (length l))) same ∙ ap counted few in
    let refused : refusal main library ≡ None =
    none_refused main library once (ap (λ files. option_map (λ file. Recursive file.type_name) (find (is_recursive library) files)) unused) many (reserved_none main library flat)
    (ap (first_some port_shared_in) unused) (flat_owned bad_field_at main library flat unused) (flat_owned no_such_port_at main library flat unused) in
    ap (λ o. expansion_by o (with_nodes main (expanded library main.nodes))) refused ∙ ap (λ l. answered (with_nodes main l)) same

pub flat_too_many : (main : GraphView) (library : List GraphView) → type_twice library ≡ None → list_any (is_subgraph library) main.nodes ≡ false → nat_lt max_nodes (length main.nodes) ≡ true
    → expansion_of main library ≡ Err TooManyNodes
flat_too_many main library once flat past =
    let unused : used_files main library ≡ [] = filter_none (uses_file library main.nodes) library (flat_used library main.nodes flat) in
    let same : expanded library main.nodes ≡ main.nodes = flat_same library main.nodes flat (length library) in
    let many : too_many_nodes main library ≡ Some TooManyNodes = ap (λ (l : List NodeView). counted (nat_lt max_nodes (length l))) same ∙ ap counted past in
    let none : recursive main library ≡ None = ap (λ files. option_map (λ file. Recursive file.type_name) (find (is_recursive library) files)) unused in
    let names = option_or (reserved_name main library) (option_or (port_shared main library) (option_or (bad_field main library) (no_such_port main library))) in
    ap (λ o. expansion_by o (with_nodes main (expanded library main.nodes)))
    (ap (λ o. option_or o (option_or (recursive main library) (option_or (too_many_nodes main library) names))) once
    ∙ (ap (λ o. option_or o (option_or (too_many_nodes main library) names)) none ∙ ap (λ o. option_or o names) many))

-- that no node is a subgraph node, of the nodes as they are kept
pub flat_nodes : (library : List GraphView) (nodes slice : List NodeConfig) (some : Bool) → slice ≡ nodes → some ≡ list_any (λ node. is_subgraph library (node_view node)) slice → some ≡ false
    → list_any (is_subgraph library) (map node_view nodes) ≡ false
flat_nodes library nodes slice some same is none =
    sym (any_mapped (is_subgraph library) node_view nodes) ∙ (ap (list_any (λ node. is_subgraph library (node_view node))) (sym same) ∙ (sym is ∙ none))

again_same : (main : GraphView) (library : List GraphView) → refusal main library ≡ None → expansion_of (with_nodes main (expanded library main.nodes)) library ≡ Ok (with_nodes main (expanded library main.nodes))
again_same main library none =
    let parts = refusals_none main library none in
    flat_expansion (with_nodes main (expanded library main.nodes)) library parts.0 (all_expanded library main.nodes (grounded_main main library parts.1))
    (not_many (nat_lt max_nodes (length (expanded library main.nodes))) parts.2)

pub again : (main graph : GraphView) (library : List GraphView) → expansion_of main library ≡ Ok graph → expansion_of graph library ≡ Ok graph
again main graph library made =
    let known = expansion_is main library graph made in
    subst (λ g. expansion_of g library ≡ Ok g) known.1 (again_same main library known.0)

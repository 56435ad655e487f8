-- Names that expansion gives, and names that were there.
use Rattle.std.proofs.Common.{ℕ, suc, zero, ◌≡◌, inl, inr, ⊎_elim, List, [], ◌∷◌, ◌++◌, Option, None, Some, true, false, ◌||◌, refl, sym, ap, ◌∙◌, subst, get_or}
use Rattle.std.specs.Prelude.{slice_get, find, unwrap_or, ◌≢◌}
use Rattle.std.specs.Option.{option_or}
use Rattle.std.specs.List.{list_any, flat_map, All}
use Rattle.std.specs.Str.{bytes_eq}
use Rattle.std.proofs.lemmas.Bool.{cases_Bool, false≢true}
use Rattle.std.proofs.lemmas.List.{append_cancel_left}
use Rattle.std.proofs.lemmas.List.Folds.{find-append}
use Rattle.std.proofs.lemmas.Option.{slice_get-get_or}
use Rattle.std.proofs.lemmas.Slice.Eq.{bytes_eq-Decides}
use Rattle.mg_names.specs.declared.port.Port.{Port}
use Rattle.mg_config.specs.Config.{NodeView, GraphView}
use Rattle.mg_subgraph.specs.Apart.{IsFree, StayApart, IsNew, AreNew}
use Rattle.mg_subgraph.specs.Names.{prefix, is_reserved, outer_name, joined_name, node_name}
use Rattle.mg_subgraph.specs.Refusals.{port_names, list_names, node_names, graph_names, first_some, reserved_name}
use Rattle.mg_subgraph.specs.Code.Judged.{reserved_in_graph}
use Rattle.mg_subgraph.specs.Library.{is_subgraph, used_files}
use Rattle.mg_subgraph.specs.declared.fault.ExpandFault.TheVariants.{ReservedName}
use Rattle.mg_subgraph.proofs.Linked.{find_none_at}
use Rattle.mg_subgraph.proofs.Looked.{find_in_lists, find_in_four, reserved_by}
use Rattle.mg_subgraph.proofs.Meeting.{outer_found}
use Rattle.mg_subgraph.proofs.Prefixes.{prefix_is_reserved}
use Rattle.mg_subgraph.proofs.Steps.{got_map}
use Rattle.mg_subgraph.proofs.Joins.{none_left, none_right, either_some, none_mapped, absent_later}

first_some_none : {X Y : Type 0} (answer : X → Option Y) (xs : List X) → first_some answer xs ≡ None → (i : ℕ) (x : X) → slice_get xs i ≡ Some x → answer x ≡ None
first_some_none answer [] none i x here = cc
first_some_none answer (y ∷ xs) none zero x here = let same : y ≡ x = cc in subst (λ z. answer z ≡ None) same (none_left (answer y) (first_some answer xs) none)
first_some_none answer (y ∷ xs) none (suc i) x here = first_some_none answer xs (none_right (answer y) (first_some answer xs) none) i x here

-- the names at a node's ports aren't of the form that expansion gives
pub node_free : (owner : GraphView) (n : ℕ) (node : NodeView) → IsFree owner → slice_get owner.nodes n ≡ Some node → find is_reserved (node_names node) ≡ None
node_free owner n node free here =
    let own = list_names owner.inputs owner.outputs owner.input_sides owner.output_sides in
    let nodes = none_right (find is_reserved own) (find is_reserved (flat_map node_names owner.nodes)) (sym (find-append is_reserved own (flat_map node_names owner.nodes)) ∙ free) in
    first_some_none (λ inner. find is_reserved (node_names inner)) owner.nodes (sym (find_in_lists is_reserved node_names owner.nodes) ∙ nodes) n node here

-- the same for each of the node's lists of ports, one after the other
lists_free : (node : NodeView) → find is_reserved (node_names node) ≡ None
    → option_or (find is_reserved (port_names node.inputs)) (option_or (find is_reserved (port_names node.outputs)) (option_or (find is_reserved (port_names node.input_sides)) (find is_reserved (port_names node.output_sides)))) ≡ None
lists_free node free = sym (find_in_four is_reserved (port_names node.inputs) (port_names node.outputs) (port_names node.input_sides) (port_names node.output_sides)) ∙ absent_later (is_reserved node.name) node.name (find is_reserved (list_names node.inputs node.outputs node.input_sides node.output_sides)) free

name_free : (ports : List Port) (i : ℕ) (port : Port) → find is_reserved (port_names ports) ≡ None → slice_get ports i ≡ Some port → is_reserved port.name ≡ false
name_free ports i port free here = find_none_at is_reserved (port_names ports) free i port.name (got_map (λ p. p.name) ports i port here)

outer_free : (given ports : List Port) (name outer : List ℕ) → find is_reserved (port_names given) ≡ None → outer_name given ports name ≡ Some outer → is_reserved outer ≡ false
outer_free given ports name outer free known =
    let found = outer_found given ports name outer known in
    ap is_reserved (sym found.3) ∙ name_free given found.0 found.1 free found.2

pub joined_free : (given_in given_out inputs outputs : List Port) (name outer : List ℕ) → find is_reserved (port_names given_in) ≡ None → find is_reserved (port_names given_out) ≡ None
    → joined_name given_in given_out inputs outputs name ≡ Some outer → is_reserved outer ≡ false
joined_free given_in given_out inputs outputs name outer free_in free_out known =
    elim (either_some (outer_name given_in inputs name) (outer_name given_out outputs name) outer known) [
      | inl first ↦ outer_free given_in inputs name outer free_in first
      | inr second ↦ outer_free given_out outputs name outer free_out second
    ]

-- the streams and the side packets of a node
pub streams_free : (node : NodeView) → find is_reserved (node_names node) ≡ None → (find is_reserved (port_names node.inputs) ≡ None) × (find is_reserved (port_names node.outputs) ≡ None)
streams_free node free =
    let all = lists_free node free in
    let sides = option_or (find is_reserved (port_names node.input_sides)) (find is_reserved (port_names node.output_sides)) in
    let rest = none_right (find is_reserved (port_names node.inputs)) (option_or (find is_reserved (port_names node.outputs)) sides) all in
    (none_left (find is_reserved (port_names node.inputs)) (option_or (find is_reserved (port_names node.outputs)) sides) all, none_left (find is_reserved (port_names node.outputs)) sides rest)

pub sides_free : (node : NodeView) → find is_reserved (node_names node) ≡ None → (find is_reserved (port_names node.input_sides) ≡ None) × (find is_reserved (port_names node.output_sides) ≡ None)
sides_free node free =
    let all = lists_free node free in
    let sides = option_or (find is_reserved (port_names node.input_sides)) (find is_reserved (port_names node.output_sides)) in
    let rest = none_right (find is_reserved (port_names node.inputs)) (option_or (find is_reserved (port_names node.outputs)) sides) all in
    let last = none_right (find is_reserved (port_names node.outputs)) sides rest in
    (none_left (find is_reserved (port_names node.input_sides)) (find is_reserved (port_names node.output_sides)) last, none_right (find is_reserved (port_names node.input_sides)) (find is_reserved (port_names node.output_sides)) last)

-- a name that the node doesn't connect gets a prefix, and no outer name has such a prefix
pub apart_by : (n : ℕ) (outer : List ℕ → Option (List ℕ)) → ((name o : List ℕ) → outer name ≡ Some o → is_reserved o ≡ false) → StayApart outer (λ name. unwrap_or (outer name) (prefix n ++ name))
apart_by n outer free first second differ same = by_both (outer first) (outer second) refl refl same
  where
    by_both : (a b : Option (List ℕ)) → outer first ≡ a → outer second ≡ b → unwrap_or a (prefix n ++ first) ≡ unwrap_or b (prefix n ++ second)
        → (outer first ≡ Some (unwrap_or (outer first) (prefix n ++ first))) × (outer second ≡ Some (unwrap_or (outer second) (prefix n ++ second)))
    by_both None None here there same = absurd (differ (append_cancel_left (prefix n) first second same))
    by_both None (Some b) here there same = absurd (false≢true (sym (free second b there) ∙ (ap is_reserved (sym same) ∙ prefix_is_reserved n first)))
    by_both (Some a) None here there same = absurd (false≢true (sym (free first a here) ∙ (ap is_reserved same ∙ prefix_is_reserved n second)))
    by_both (Some a) (Some b) here there same =
        (here ∙ ap Some (sym (ap (λ o. unwrap_or o (prefix n ++ first)) here)), there ∙ ap Some (sym (ap (λ o. unwrap_or o (prefix n ++ second)) there)))

-- a name with a prefix isn't among those that were there
absent : (name : List ℕ) (names : List (List ℕ)) → is_reserved name ≡ true → find is_reserved names ≡ None → list_any (bytes_eq name) names ≡ false
absent name [] reserved free = refl
absent name (other ∷ names) reserved free =
    let here : is_reserved other ≡ false = find_none_at is_reserved (other ∷ names) free 0 other refl in
    let rest : find is_reserved names ≡ None = absent_later (is_reserved other) other (find is_reserved names) free in
    ⊎_elim
    (λ same. absurd (false≢true (sym here ∙ (ap is_reserved (sym ((bytes_eq-Decides name other).0 same)) ∙ reserved))))
    (λ differs. ap (λ b. b || list_any (bytes_eq name) names) differs ∙ absent name names reserved rest)
    (cases_Bool (bytes_eq name other))

pub new_by : (n : ℕ) (outer : List ℕ → Option (List ℕ)) (owner : GraphView) → IsFree owner → AreNew outer (λ name. unwrap_or (outer name) (prefix n ++ name)) owner
new_by n outer owner free name none =
    ap (λ o. list_any (bytes_eq (unwrap_or o (prefix n ++ name))) (graph_names owner)) none ∙ absent (prefix n ++ name) (graph_names owner) (prefix_is_reserved n name) free

pub node_is_new : (n : ℕ) (name : List ℕ) (owner : GraphView) → IsFree owner → name ≢ [] → IsNew (node_name n name) owner
node_is_new n [] owner free differs = absurd (differs refl)
node_is_new n (a ∷ as1) owner free differs = absent (prefix n ++ a ∷ as1) (graph_names owner) (prefix_is_reserved n (a ∷ as1)) free

-- names of nodes stay apart too
pub nodes_apart : (n : ℕ) (first second : List ℕ) → node_name n first ≡ node_name n second → first ≡ second
nodes_apart n [] [] same = refl
nodes_apart n [] (b ∷ bs) same = cc
nodes_apart n (a ∷ as1) [] same = cc
nodes_apart n (a ∷ as1) (b ∷ bs) same = append_cancel_left (prefix n) (a ∷ as1) (b ∷ bs) same

-- Graphs that were expanded have no name of that form, nor do the files that they use.
pub free_owners : (main : GraphView) (library : List GraphView) → reserved_name main library ≡ None → list_any (is_subgraph library) main.nodes ≡ true → All IsFree (main ∷ used_files main library)
free_owners main library none some = λ k d inside.
    let owners = main ∷ used_files main library in
    let found = none_mapped ReservedName (option_or (reserved_in_graph main) (first_some reserved_in_graph (used_files main library))) (sym (reserved_by main library some) ∙ none) in
    first_some_none reserved_in_graph owners found k (get_or owners k d) (slice_get-get_or owners k d inside)

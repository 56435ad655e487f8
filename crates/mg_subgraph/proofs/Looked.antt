-- Looking through lists for the first that passes.
use Rattle.std.proofs.Common.{ℕ, suc, zero, ◌+◌, ◌≡◌, List, [], ◌∷◌, ◌++◌, Option, None, Some, Bool, true, false, not, ◌==◌, if◌then◌else◌, cond, refl, sym, ap, ◌∙◌, length, arith, map, drop, subst, is_some, ◌||◌, option_map, Bor, inl, inr}
use Rattle.std.specs.Prelude.{slice_get, find, position, unwrap_or, option_copied}
use Rattle.std.specs.Option.{option_or, option_and_then}
use Rattle.std.specs.List.{flat_map, list_any, prefix_len}
use Rattle.std.proofs.lemmas.Bool.{cond-true, cond-false}
use Rattle.std.proofs.lemmas.Bool.Decides.{nat_tests}
use Rattle.std.proofs.lemmas.List.{map-append}
use Rattle.std.proofs.lemmas.Option.{slice_get-map}
use Rattle.std.proofs.lemmas.List.Folds.{find-append}
use Rattle.std.proofs.lemmas.List.Concat.{flat_map-cons}
use Rattle.mg_names.specs.Grammar.{is_digit}
use Rattle.mg_subgraph.specs.Names.{is_reserved}
use Rattle.mg_text.specs.Tree.{Fields}
use Rattle.mg_text.specs.View.{Value, simple, inner, put, field_view, fields_view}
use Rattle.mg_text.specs.declared.tree.Field.{Field}
use Rattle.mg_names.specs.declared.port.Port.{Port}
use Rattle.mg_config.specs.Config.{NodeView, GraphView}
use Rattle.mg_subgraph.specs.Library.{is_of, is_subgraph, used_files}
use Rattle.mg_subgraph.specs.declared.shared.FileNames.{FileNames}
use Rattle.mg_subgraph.specs.Code.Judged.{AreNames, reserved_at, reserved_in_node, reserved_in_graph}
use Rattle.mg_subgraph.specs.Refusals.{has_fields, node_fault, first_some, port_names, list_names, node_names, graph_names, reserved_name, shared_name, first_twice}
use Rattle.mg_subgraph.specs.declared.fault.ExpandFault.TheVariants.{ReservedName}
use Rattle.mg_subgraph.specs.declared.fault.ExpandFault.{ExpandFault}
use Rattle.mg_index.proofs.Placing.{position-cons}
use Rattle.mg_subgraph.proofs.Indexed.{place_found, place_none, index_once, index_twice}
use Rattle.mg_subgraph.proofs.Steps.{got_push}

-- what is left of a list from a place on
drop_at : {X : Type 0} (xs : List X) (i : ℕ) (x : X) → slice_get xs i ≡ Some x → drop i xs ≡ x ∷ drop (suc i) xs
drop_at [] i x here = cc
drop_at (y ∷ xs) zero x here = let same : y ≡ x = cc in ap (λ z. z ∷ xs) same
drop_at (y ∷ xs) (suc i) x here = drop_at xs i x here

pub drop_next : {X : Type 0} (xs : List X) (i : ℕ) (x : X) → slice_get xs i ≡ Some x → drop i xs ≡ x ∷ drop (i + 1) xs
drop_next xs i x here = let count : suc i ≡ i + 1 = omega arith in drop_at xs i x here ∙ ap (λ k. x ∷ drop k xs) count

-- the first that passes is here, or later
pub find_here : {X : Type 0} (p : X → Bool) (xs : List X) (i : ℕ) (x : X) → slice_get xs i ≡ Some x → p x ≡ true → find p (drop i xs) ≡ Some x
find_here p xs i x here passes = ap (find p) (drop_next xs i x here) ∙ cond-true (p x) (Some x) (find p (drop (i + 1) xs)) passes

pub find_later : {X : Type 0} (p : X → Bool) (xs : List X) (i : ℕ) (x : X) → slice_get xs i ≡ Some x → p x ≡ false → find p (drop i xs) ≡ find p (drop (i + 1) xs)
find_later p xs i x here fails = ap (find p) (drop_next xs i x here) ∙ cond-false (p x) (Some x) (find p (drop (i + 1) xs)) fails

-- fields that have a first field
has_put : (name : List ℕ) (value : Value) (rest : Fields) → has_fields (put name value rest) ≡ true
has_put name (simple kind bytes) rest = refl
has_put name (inner fields) rest = refl

pub has_some : (fields : List Field) → not (length fields == 0) ≡ has_fields (fields_view fields)
has_some [] = refl
has_some (f ∷ fs) =
    let some : (suc (length fs) == 0) ≡ false = grind (arith, nat_tests) in
    ap not some ∙ sym (has_put (field_view f).name (field_view f).value (fields_view fs))

-- the first fault of a subgraph node
pub fault_at : (library : List GraphView) (judge : ℕ → NodeView → GraphView → Option ExpandFault) (n : ℕ) (node : NodeView) (rest : List NodeView) (place : ℕ) (file : GraphView)
    → position (is_of node.calculator) library ≡ Some place → slice_get library place ≡ Some file → node_fault library judge n (node ∷ rest) ≡ option_or (judge n node file) (node_fault library judge (n + 1) rest)
fault_at library judge n node rest place file found here =
    let known = place_found (is_of node.calculator) library place found in
    let both : Some known.0 ≡ Some file = sym known.1 ∙ here in
    let count : suc n ≡ n + 1 = omega arith in
    ap (λ o. option_or (option_and_then (judge n node) o) (node_fault library judge (suc n) rest)) (known.2 ∙ both)
    ∙ ap (λ k. option_or (judge n node file) (node_fault library judge k rest)) count

pub fault_past : (library : List GraphView) (judge : ℕ → NodeView → GraphView → Option ExpandFault) (n : ℕ) (node : NodeView) (rest : List NodeView)
    → position (is_of node.calculator) library ≡ None → node_fault library judge n (node ∷ rest) ≡ node_fault library judge (n + 1) rest
fault_past library judge n node rest none =
    let count : suc n ≡ n + 1 = omega arith in
    ap (λ o. option_or (option_and_then (judge n node) o) (node_fault library judge (suc n) rest)) (place_none (is_of node.calculator) library none)
    ∙ ap (λ k. node_fault library judge k rest) count

pub or_some : {X : Type 0} (first second : Option X) (x : X) → first ≡ Some x → option_or first second ≡ Some x
or_some first second x known = ap (λ o. option_or o second) known

pub or_none : {X : Type 0} (first second : Option X) → first ≡ None → option_or first second ≡ second
or_none first second known = ap (λ o. option_or o second) known

-- the digits that begin a text
pub digits_in_front : (bytes : List ℕ) → unwrap_or (position (λ byte. not (is_digit byte)) bytes) (length bytes) ≡ prefix_len is_digit bytes
digits_in_front [] = refl
digits_in_front (b ∷ bs) = ap (λ o. unwrap_or o (suc (length bs))) (position-cons (λ byte. not (is_digit byte)) b bs) ∙ by_test (is_digit b) (position (λ byte. not (is_digit byte)) bs) (length bs) (prefix_len is_digit bs) (digits_in_front bs)
  where
    by_test : (test : Bool) (found : Option ℕ) (count front : ℕ) → unwrap_or found count ≡ front → unwrap_or (if not test then Some 0 else option_map suc found) (suc count) ≡ cond test (1 + front) 0
    by_test false found count front known = refl
    by_test true None count front known = let same : suc count ≡ 1 + front = omega (arith, known) in same
    by_test true (Some k) count front known = let same : suc k ≡ 1 + front = omega (arith, known) in same

-- the first that passes in lists one after another
pub find_in_lists : {X Y : Type 0} (p : Y → Bool) (f : X → List Y) (xs : List X) → find p (flat_map f xs) ≡ first_some (λ x. find p (f x)) xs
find_in_lists p f [] = refl
find_in_lists p f (x ∷ xs) =
    ap (find p) (flat_map-cons f x xs) ∙ (find-append p (f x) (flat_map f xs) ∙ ap (λ o. option_or (find p (f x)) o) (find_in_lists p f xs))

pub find_in_four : {Y : Type 0} (p : Y → Bool) (a b c d : List Y) → find p (a ++ (b ++ (c ++ d))) ≡ option_or (find p a) (option_or (find p b) (option_or (find p c) (find p d)))
find_in_four p a b c d =
    find-append p a (b ++ (c ++ d)) ∙ ap (λ o. option_or (find p a) o) (find-append p b (c ++ d) ∙ ap (λ o. option_or (find p b) o) (find-append p c d))

pub reserved_lists : (inputs outputs input_sides output_sides : List Port) → find is_reserved (list_names inputs outputs input_sides output_sides) ≡ reserved_at inputs outputs input_sides output_sides
reserved_lists inputs outputs input_sides output_sides = find_in_four is_reserved (port_names inputs) (port_names outputs) (port_names input_sides) (port_names output_sides)

pub reserved_graph : (graph : GraphView) → reserved_in_graph graph ≡ option_or (reserved_at graph.inputs graph.outputs graph.input_sides graph.output_sides) (first_some reserved_in_node graph.nodes)
reserved_graph graph =
    find-append is_reserved (list_names graph.inputs graph.outputs graph.input_sides graph.output_sides) (flat_map node_names graph.nodes)
    ∙ (ap (λ o. option_or o (find is_reserved (flat_map node_names graph.nodes))) (reserved_lists graph.inputs graph.outputs graph.input_sides graph.output_sides)
    ∙ ap (λ o. option_or (reserved_at graph.inputs graph.outputs graph.input_sides graph.output_sides) o) (find_in_lists is_reserved node_names graph.nodes))

-- a place is found exactly if an element is
pub some_place : {X : Type 0} (p : X → Bool) (xs : List X) → is_some (position p xs) ≡ is_some (find p xs)
some_place p xs = by_place (position p xs) refl
  where
    by_place : (o : Option ℕ) → position p xs ≡ o → is_some o ≡ is_some (find p xs)
    by_place None here = sym (ap is_some (place_none p xs here))
    by_place (Some i) here = let found = place_found p xs i here in sym (ap is_some found.2)

pub any_mapped : {X Y : Type 0} (p : Y → Bool) (f : X → Y) (xs : List X) → list_any (λ x. p (f x)) xs ≡ list_any p (map f xs)
any_mapped p f [] = refl
any_mapped p f (x ∷ xs) = ap (λ b. p (f x) || b) (any_mapped p f xs)

-- the first name that passes is that of the port here, or a later one
pub named_here : (p : List ℕ → Bool) (ports : List Port) (i : ℕ) (port : Port) → slice_get ports i ≡ Some port → p port.name ≡ true → find p (port_names (drop i ports)) ≡ Some port.name
named_here p ports i port here passes =
    ap (λ l. find p (port_names l)) (drop_next ports i port here) ∙ cond-true (p port.name) (Some port.name) (find p (port_names (drop (i + 1) ports))) passes

pub named_later : (p : List ℕ → Bool) (ports : List Port) (i : ℕ) (port : Port) → slice_get ports i ≡ Some port → p port.name ≡ false → find p (port_names (drop i ports)) ≡ find p (port_names (drop (i + 1) ports))
named_later p ports i port here fails =
    ap (λ l. find p (port_names l)) (drop_next ports i port here) ∙ cond-false (p port.name) (Some port.name) (find p (port_names (drop (i + 1) ports))) fails

pub copied_or : {X : Type 0} (first second : Option (Bor X)) → option_copied (option_or first second) ≡ option_or (option_copied first) (option_copied second)
copied_or None second = refl
copied_or (Some x) second = refl

-- the first reserved name, without a subgraph node and with one
pub reserved_none : (main : GraphView) (library : List GraphView) → list_any (is_subgraph library) main.nodes ≡ false → reserved_name main library ≡ None
reserved_none main library none =
    cond-false (list_any (is_subgraph library) main.nodes) (option_map ReservedName (find is_reserved (flat_map graph_names (main ∷ used_files main library)))) None none

pub reserved_by : (main : GraphView) (library : List GraphView) → list_any (is_subgraph library) main.nodes ≡ true
    → reserved_name main library ≡ option_map ReservedName (option_or (reserved_in_graph main) (first_some reserved_in_graph (used_files main library)))
reserved_by main library some =
    cond-true (list_any (is_subgraph library) main.nodes) (option_map ReservedName (find is_reserved (flat_map graph_names (main ∷ used_files main library)))) None some
    ∙ ap (option_map ReservedName) (find_in_lists is_reserved graph_names (main ∷ used_files main library))

-- the names at the ports of one more file
pub names_more : (files : List GraphView) (names : List FileNames) (place : ℕ) (file : GraphView) (entry : FileNames) → length names ≡ place → slice_get files place ≡ Some file → AreNames entry file
    → ((p : ℕ) (f : GraphView) (e : FileNames) → slice_get files p ≡ Some f → slice_get names p ≡ Some e → AreNames e f)
    → (p : ℕ) (f : GraphView) (e : FileNames) → slice_get files p ≡ Some f → slice_get (names ++ entry ∷ []) p ≡ Some e → AreNames e f
names_more files names place file entry count here named known p f e at_f at_e =
    elim (got_push names entry p e at_e) [
      | inl before ↦ known p f e at_f before
      | inr last ↦
          let same : slice_get files p ≡ slice_get files place = ap (slice_get files) (last.0 ∙ count) in
          let both : Some f ≡ Some file = sym at_f ∙ (same ∙ here) in
          let one : file ≡ f = cc in
          subst (AreNames e) one (subst (λ n. AreNames n file) last.1 named)
    ]

-- the name that stands at two ports
pub ports_at : (first second : List Port) (place : ℕ) → option_map (λ port. port.name) (slice_get (first ++ second) place) ≡ slice_get (port_names first ++ port_names second) place
ports_at first second place = sym (slice_get-map (λ port. port.name) (first ++ second) place) ∙ ap (λ l. slice_get l place) (map-append (λ port. port.name) first second)

pub shared_stream : (names : FileNames) (file : GraphView) (place : ℕ) (port : Option Port) → AreNames names file → Some place ≡ names.streams.again → port ≡ slice_get (file.inputs ++ file.outputs) place
    → option_map (λ p. p.name) port ≡ shared_name file
shared_stream names file place port known twice here =
    let found = index_twice names.streams (port_names file.inputs ++ port_names file.outputs) place known.streams twice in
    ap (option_map (λ p. p.name)) here ∙ (ports_at file.inputs file.outputs place ∙ (found.1
    ∙ sym (ap (λ o. option_or o (first_twice (port_names file.input_sides ++ port_names file.output_sides))) found.2)))

pub shared_side : (names : FileNames) (file : GraphView) (place : ℕ) (port : Option Port) → AreNames names file → None ≡ names.streams.again → Some place ≡ names.sides.again
    → port ≡ slice_get (file.input_sides ++ file.output_sides) place → option_map (λ p. p.name) port ≡ shared_name file
shared_side names file place port known once twice here =
    let found = index_twice names.sides (port_names file.input_sides ++ port_names file.output_sides) place known.sides twice in
    let none = index_once names.streams (port_names file.inputs ++ port_names file.outputs) known.streams once in
    ap (option_map (λ p. p.name)) here ∙ (ports_at file.input_sides file.output_sides place ∙ (found.1
    ∙ sym (ap (λ o. option_or o (first_twice (port_names file.input_sides ++ port_names file.output_sides))) none ∙ found.2)))

pub shared_none : (names : FileNames) (file : GraphView) → AreNames names file → None ≡ names.streams.again → None ≡ names.sides.again → None ≡ shared_name file
shared_none names file known streams sides =
    sym (ap (λ o. option_or o (first_twice (port_names file.input_sides ++ port_names file.output_sides))) (index_once names.streams (port_names file.inputs ++ port_names file.outputs) known.streams streams)
    ∙ index_once names.sides (port_names file.input_sides ++ port_names file.output_sides) known.sides sides)

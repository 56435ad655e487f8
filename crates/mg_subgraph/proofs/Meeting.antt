-- How the names inside a file meet those at a node's ports.
use Rattle.std.proofs.Common.{ℕ, suc, zero, ◌+◌, ◌≡◌, ⊎_elim, List, [], ◌∷◌, ◌++◌, Option, None, Some, Bool, true, false, if◌then◌else◌, nat_lt, refl, sym, ap, ◌∙◌, length, arith, map, take, option_map}
use Rattle.std.specs.Prelude.{slice_get, find, position}
use Rattle.std.specs.Option.{option_or, option_and_then}
use Rattle.std.proofs.lemmas.Bool.{cases_lt, cond-true, cond-false}
use Rattle.std.proofs.lemmas.Bool.Decides.{nat_tests}
use Rattle.std.proofs.lemmas.List.{map-append}
use Rattle.std.proofs.lemmas.List.Folds.{find-append}
use Rattle.mg_names.specs.Ports.{is_at}
use Rattle.mg_names.specs.Renaming.{with_names}
use Rattle.mg_names.specs.declared.port.Port.{Port}
use Rattle.mg_config.specs.Config.{NodeView, GraphView}
use Rattle.mg_subgraph.specs.Names.{names, outer_name, joined_name, stream_name, side_name, node_name, renamed_port, renamed_ports, renamed}
use Rattle.mg_index.specs.Tables.{kept_place}
use Rattle.mg_index.specs.declared.name_table.NameTable.{NameTable}
use Rattle.mg_subgraph.specs.Code.Index.{IsIndex}
use Rattle.mg_subgraph.specs.Refusals.{port_names, first_twice}
use Rattle.mg_subgraph.proofs.Indexed.{place_found, place_none, one_place, position-map}
use Rattle.mg_subgraph.proofs.Grounded.{find_found}
use Rattle.mg_subgraph.proofs.Reached.{take_next}
use Rattle.mg_subgraph.proofs.Steps.{map-push, got_within}
use Rattle.mg_subgraph.proofs.Joins.{none_left, none_right, none_else}

-- one more element is taken
pub taken_got : {X Y : Type 0} (f : X → Y) (xs : List X) (i : ℕ) (x : X) → slice_get xs i ≡ Some x → map f (take (i + 1) xs) ≡ map f (take i xs) ++ f x ∷ []
taken_got f xs i x here = ap (map f) (take_next xs i x here) ∙ map-push f (take i xs) x

got_left : {X : Type 0} (xs ys : List X) (i : ℕ) (x : X) → slice_get xs i ≡ Some x → slice_get (xs ++ ys) i ≡ Some x
got_left [] ys i x here = cc
got_left (y ∷ xs) ys zero x here = here
got_left (y ∷ xs) ys (suc i) x here = got_left xs ys i x here

got_right : {X : Type 0} (xs ys : List X) (j : ℕ) (y : X) → slice_get ys j ≡ Some y → slice_get (xs ++ ys) (length xs + j) ≡ Some y
got_right [] ys j y here = let count : 0 + j ≡ j = omega arith in ap (slice_get ys) count ∙ here
got_right (x ∷ xs) ys j y here = let count : suc (length xs) + j ≡ suc (length xs + j) = omega arith in ap (slice_get (x ∷ (xs ++ ys))) count ∙ got_right xs ys j y here

-- nothing is found if no element passes the test
find_none : {X : Type 0} (p : X → Bool) (xs : List X) → ((i : ℕ) (x : X) → slice_get xs i ≡ Some x → p x ≡ true → ⊥) → find p xs ≡ None
find_none p xs none = none_else (find p xs) (λ x found. let here = find_found p xs x found in none here.0 x here.1 here.2)

pub joined_none : (given_in given_out inputs outputs : List Port) (name : List ℕ) → position (λ port. names name port.name) (inputs ++ outputs) ≡ None → joined_name given_in given_out inputs outputs name ≡ None
joined_none given_in given_out inputs outputs name none =
    let both = sym (find-append (λ port. names name port.name) inputs outputs) ∙ place_none (λ port. names name port.name) (inputs ++ outputs) none in
    let first = none_left (find (λ port. names name port.name) inputs) (find (λ port. names name port.name) outputs) both in
    let second = none_right (find (λ port. names name port.name) inputs) (find (λ port. names name port.name) outputs) both in
    ap (λ o. option_or (option_and_then (λ port. option_map (λ outer. outer.name) (find (is_at port.tag port.index) given_in)) o) (outer_name given_out outputs name)) first
    ∙ ap (option_and_then (λ port. option_map (λ outer. outer.name) (find (is_at port.tag port.index) given_out))) second

-- a name at a port that comes in stands at no port that goes out, and the other way round
pub joined_some : (given_in given_out inputs outputs : List Port) (name : List ℕ) (place : ℕ) (port : Port) → first_twice (port_names inputs ++ port_names outputs) ≡ None
    → position (λ p. names name p.name) (inputs ++ outputs) ≡ Some place → slice_get (inputs ++ outputs) place ≡ Some port
    → joined_name given_in given_out inputs outputs name ≡ option_map (λ outer. outer.name) (find (is_at port.tag port.index) (if nat_lt place (length inputs) then given_in else given_out))
joined_some given_in given_out inputs outputs name place port once found here =
    let q : Port → Bool = λ p. names name p.name in
    let single : first_twice (map (λ p. p.name) (inputs ++ outputs)) ≡ None = ap first_twice (map-append (λ p. p.name) inputs outputs) ∙ once in
    let where_it_is = place_found q (inputs ++ outputs) place found in
    let both : Some where_it_is.0 ≡ Some port = sym where_it_is.1 ∙ here in
    let all : option_or (find q inputs) (find q outputs) ≡ Some port = sym (find-append q inputs outputs) ∙ (where_it_is.2 ∙ both) in
    ⊎_elim
    (λ below.
    let none : find q outputs ≡ None = find_none q outputs (λ j y at passes.
    let there = one_place (λ p. p.name) (inputs ++ outputs) name single (length inputs + j) y (got_right inputs outputs j y at) passes in
    let same : Some place ≡ Some (length inputs + j) = sym found ∙ there in
    let equal : place ≡ length inputs + j = cc in
    omega arith) in
    let first : find q inputs ≡ Some port = alone (find q inputs) (find q outputs) port none all in
    let test : nat_lt place (length inputs) ≡ true = grind (arith, nat_tests) in
    ap (λ o. option_or (outer_by given_in o) (outer_by given_out (find q outputs))) first
    ∙ (ap (λ o. option_or (outer_by given_in (Some port)) (outer_by given_out o)) none
    ∙ (either_none (outer_by given_in (Some port)) ∙ sym (ap (λ g. outer_by g (Some port)) (cond-true (nat_lt place (length inputs)) given_in given_out test)))))
    (λ above.
    let none : find q inputs ≡ None = find_none q inputs (λ j y at passes.
    let there = one_place (λ p. p.name) (inputs ++ outputs) name single j y (got_left inputs outputs j y at) passes in
    let same : Some place ≡ Some j = sym found ∙ there in
    let equal : place ≡ j = cc in
    let inside = got_within inputs j y at in
    omega arith) in
    let second : find q outputs ≡ Some port = ap (λ o. option_or o (find q outputs)) (sym none) ∙ all in
    let test : nat_lt place (length inputs) ≡ false = grind (arith, nat_tests) in
    ap (λ o. option_or (outer_by given_in o) (outer_by given_out (find q outputs))) none
    ∙ (ap (outer_by given_out) second ∙ sym (ap (λ g. outer_by g (Some port)) (cond-false (nat_lt place (length inputs)) given_in given_out test))))
    (cases_lt place (length inputs))
  where
    outer_by : List Port → Option Port → Option (List ℕ)
    outer_by given o = option_and_then (λ p. option_map (λ outer. outer.name) (find (is_at p.tag p.index) given)) o

    alone : (first second : Option Port) (p : Port) → second ≡ None → option_or first second ≡ Some p → first ≡ Some p
    alone None second p none all = sym none ∙ all
    alone (Some x) second p none all = all

    either_none : (o : Option (List ℕ)) → option_or o None ≡ o
    either_none None = refl
    either_none (Some x) = refl

-- a table of all ports gives the place of the one that has a name
pub joined_place : (table : NameTable) (inputs outputs : List Port) (name : List ℕ) (found : Option ℕ) → IsIndex table (port_names inputs ++ port_names outputs) → found ≡ kept_place table name
    → position (λ port. names name port.name) (inputs ++ outputs) ≡ found
joined_place table inputs outputs name found known got =
    sym (got ∙ (known.first name
    ∙ (ap (position (names name)) (sym (map-append (λ port. port.name) inputs outputs)) ∙ position-map (names name) (λ port. port.name) (inputs ++ outputs))))

-- ports under the names that a renaming gives
pub names_renamed : (rename : List ℕ → List ℕ) (ports : List Port) → with_names ports (map (λ port. rename port.name) ports) ≡ renamed_ports rename ports
names_renamed rename [] = refl
names_renamed rename (port ∷ ports) = ap (λ l. renamed_port rename port ∷ l) (names_renamed rename ports)

pub renamed_same : (first second : List ℕ → List ℕ) → ((name : List ℕ) → first name ≡ second name) → (ports : List Port) → renamed_ports first ports ≡ renamed_ports second ports
renamed_same first second same [] = refl
renamed_same first second same (port ∷ ports) =
    ap (λ name. record port { name = name } ∷ renamed_ports first ports) (same port.name) ∙ ap (λ l. renamed_port second port ∷ l) (renamed_same first second same ports)

-- a node is renamed by its own name, then its streams, then its side packets
abbrev with_lists : NodeView → List ℕ → List Port → List Port → List Port → List Port → NodeView
with_lists inner name inputs outputs input_sides output_sides = record inner { name = name; inputs = inputs; outputs = outputs; input_sides = input_sides; output_sides = output_sides }

abbrev streamed : (List ℕ → List ℕ) → NodeView → NodeView
streamed stream node = record node { inputs = renamed_ports stream node.inputs; outputs = renamed_ports stream node.outputs }

abbrev sided : (List ℕ → List ℕ) → NodeView → NodeView
sided side node = record node { input_sides = renamed_ports side node.input_sides; output_sides = renamed_ports side node.output_sides }

pub renamed_whole : (n : ℕ) (node : NodeView) (file : GraphView) (inner first second third : NodeView) (stream side : List ℕ → List ℕ)
    → first ≡ record inner { name = node_name n inner.name } → second ≡ streamed stream first → third ≡ sided side second
    → ((name : List ℕ) → stream name ≡ stream_name n node file name) → ((name : List ℕ) → side name ≡ side_name n node file name) → third ≡ renamed n node file inner
renamed_whole n node file inner first second third stream side one two three streams sides =
    let name = node_name n inner.name in
    let a = renamed_same stream (stream_name n node file) streams inner.inputs in
    let b = renamed_same stream (stream_name n node file) streams inner.outputs in
    let c = renamed_same side (side_name n node file) sides inner.input_sides in
    let d = renamed_same side (side_name n node file) sides inner.output_sides in
    three ∙ (ap (sided side) two ∙ (ap (λ v. sided side (streamed stream v)) one
    ∙ (ap (λ l. with_lists inner name l (renamed_ports stream inner.outputs) (renamed_ports side inner.input_sides) (renamed_ports side inner.output_sides)) a
    ∙ (ap (λ l. with_lists inner name (renamed_ports (stream_name n node file) inner.inputs) l (renamed_ports side inner.input_sides) (renamed_ports side inner.output_sides)) b
    ∙ (ap (λ l. with_lists inner name (renamed_ports (stream_name n node file) inner.inputs) (renamed_ports (stream_name n node file) inner.outputs) l (renamed_ports side inner.output_sides)) c
    ∙ ap (λ l. with_lists inner name (renamed_ports (stream_name n node file) inner.inputs) (renamed_ports (stream_name n node file) inner.outputs) (renamed_ports (side_name n node file) inner.input_sides) l) d)))))

-- an outer name is that of one of the node's ports
pub outer_found : (given ports : List Port) (name outer : List ℕ) → outer_name given ports name ≡ Some outer → (i : ℕ) × (port : Port) × (slice_get given i ≡ Some port) × (port.name ≡ outer)
outer_found given ports name outer known = by_inner (find (λ port. names name port.name) ports) known
  where
    by_outer : (q : Port → Bool) (o : Option Port) → find q given ≡ o → option_map (λ p. p.name) o ≡ Some outer → (i : ℕ) × (port : Port) × (slice_get given i ≡ Some port) × (port.name ≡ outer)
    by_outer q None here known = cc
    by_outer q (Some port) here known =
        let found = find_found q given port here in
        let same : port.name ≡ outer = cc in
        (found.0, port, found.1, same)

    by_inner : (o : Option Port) → option_and_then (λ p. option_map (λ outer. outer.name) (find (is_at p.tag p.index) given)) o ≡ Some outer → (i : ℕ) × (port : Port) × (slice_get given i ≡ Some port) × (port.name ≡ outer)
    by_inner None known = cc
    by_inner (Some inner) known = by_outer (is_at inner.tag inner.index) (find (is_at inner.tag inner.index) given) refl known

-- How many nodes stand in the place of nodes.
use Rattle.std.proofs.Common.{ℕ, suc, zero, ◌+◌, ◌<◌, ◌≤◌, ◌≡◌, List, [], ◌∷◌, ◌++◌, Option, None, Some, Bool, true, false, refl, sym, ap, ◌∙◌, length, length-append, append-nil, append_assoc, arith, map, subst, min, filter, ⊎_elim}
use Rattle.std.specs.Prelude.{slice_get, find, position, replicate}
use Rattle.std.specs.Option.{option_map_or}
use Rattle.std.proofs.lemmas.Bool.{cases_Bool}
use Rattle.mg_config.specs.Config.{NodeView, GraphView}
use Rattle.mg_subgraph.specs.Names.{renamed}
use Rattle.mg_subgraph.specs.Library.{is_of, file_of, uses, uses_file, used_files, is_recursive}
use Rattle.mg_subgraph.specs.Expanded.{replaced, all_replaced, expanded}
use Rattle.mg_subgraph.specs.Refusals.{max_nodes, recursive, shared_name, first_some, port_shared_in, port_shared}
use Rattle.mg_subgraph.specs.declared.fault.ExpandFault.TheVariants.{Recursive, PortShared}
use Rattle.mg_subgraph.specs.Code.Sizes.{counted, nodes_at, AreGrounded}
use Rattle.mg_subgraph.specs.Code.Judged.{AreUnshared}
use Rattle.mg_subgraph.proofs.Indexed.{place_found, place_none}
use Rattle.mg_subgraph.proofs.Linked.{find_none_at, filter_keeps, filter_drops}
use Rattle.mg_subgraph.proofs.Reaching.{use_count, used_directly, used_through, used_by_more, no_more_used}
use Rattle.mg_subgraph.proofs.Grounded.{grounded_inside, grounded_part, fewer_in_file, head_uses, tail_uses}
use Rattle.mg_subgraph.proofs.Steps.{length-map, got_within}
use Rattle.mg_subgraph.proofs.Joins.{or_left, or_false, none_left, none_right, none_mapped, absent_later}

-- the nodes of the file that is found
pub nodes_found : (library : List GraphView) (place : ℕ) (file : GraphView) → slice_get library place ≡ Some file → nodes_at library place ≡ file.nodes
nodes_found library place file here = ap (λ o. option_map_or (λ f. f.nodes) o []) here

-- the file of a node's calculator is used by the node
pub one_uses : (node : NodeView) (file : GraphView) → is_of node.calculator file ≡ true → uses (node ∷ []) file ≡ true
one_uses node file known = or_left (is_of node.calculator file) false known

-- what holds of a node holds of the nodes of its file
pub grounded_in_file : (library : List GraphView) (node : NodeView) (place : ℕ) → AreGrounded library (node ∷ []) → position (is_of node.calculator) library ≡ Some place → AreGrounded library (nodes_at library place)
grounded_in_file library node place grounded found =
    let here = place_found (is_of node.calculator) library place found in
    subst (AreGrounded library) (sym (nodes_found library place here.0 here.1))
    (grounded_inside library (node ∷ []) place here.0 grounded here.1 (used_directly library (node ∷ []) here.0 (one_uses node here.0 here.3)))

pub fewer_found : (library : List GraphView) (node : NodeView) (place : ℕ) → AreGrounded library (node ∷ []) → position (is_of node.calculator) library ≡ Some place → use_count library (nodes_at library place) < use_count library (node ∷ [])
fewer_found library node place grounded found =
    let here = place_found (is_of node.calculator) library place found in
    let P : List NodeView → Type 0 = λ nodes. use_count library nodes < use_count library (node ∷ []) in
    subst P (sym (nodes_found library place here.0 here.1)) (fewer_in_file library (node ∷ []) place here.0 grounded here.1 (one_uses node here.0 here.3))

pub place_within : {X : Type 0} (p : X → Bool) (xs : List X) (place : ℕ) → position p xs ≡ Some place → place < length xs
place_within p xs place found = let here = place_found p xs place found in got_within xs place here.0 here.1

-- one of the nodes uses what they use
one_of : (xs : List NodeView) (i : ℕ) (node : NodeView) → slice_get xs i ≡ Some node → (file : GraphView) → uses (node ∷ []) file ≡ true → uses xs file ≡ true
one_of [] i node here file known = cc
one_of (first ∷ xs) zero node here file known =
    let same : first ≡ node = cc in
    head_uses first xs file (subst (λ n. is_of n.calculator file ≡ true) (sym same) (sym (or_false (is_of node.calculator file)) ∙ known))
one_of (first ∷ xs) (suc i) node here file known = tail_uses first xs file (one_of xs i node here file known)

pub grounded_node : (library : List GraphView) (nodes : List NodeView) (i : ℕ) (node : NodeView) → AreGrounded library nodes → slice_get nodes i ≡ Some node → AreGrounded library (node ∷ [])
grounded_node library nodes i node grounded here = grounded_part library (node ∷ []) nodes (one_of nodes i node here) grounded

pub no_more_in_node : (library : List GraphView) (nodes : List NodeView) (i : ℕ) (node : NodeView) → slice_get nodes i ≡ Some node → use_count library (node ∷ []) ≤ use_count library nodes
no_more_in_node library nodes i node here = no_more_used library (node ∷ []) nodes (one_of nodes i node here)

-- A node that isn't replaced counts as one node. A replaced node counts as many nodes as its file expands to.
pub counted_none : (library : List GraphView) (node : NodeView) → position (is_of node.calculator) library ≡ None → 1 ≡ counted (replaced (expanded library) 0 node (file_of library node.calculator))
counted_none library node none = sym (ap (λ found. counted (replaced (expanded library) 0 node found)) (place_none (is_of node.calculator) library none))

pub counted_some : (library : List GraphView) (node : NodeView) (place : ℕ) → position (is_of node.calculator) library ≡ Some place
    → counted (expanded library (nodes_at library place)) ≡ counted (replaced (expanded library) 0 node (file_of library node.calculator))
counted_some library node place found =
    let here = place_found (is_of node.calculator) library place found in
    ap (λ nodes. counted (expanded library nodes)) (nodes_found library place here.0 here.1)
    ∙ (ap (λ n. min n (max_nodes + 1)) (sym (length-map (renamed 0 node here.0) (expanded library here.0.nodes)))
    ∙ sym (ap (λ file. counted (replaced (expanded library) 0 node file)) here.2))

-- the count doesn't depend on the numbers of the nodes
length-replaced : (expand : List NodeView → List NodeView) (m n : ℕ) (node : NodeView) (found : Option GraphView) → length (replaced expand m node found) ≡ length (replaced expand n node found)
length-replaced expand m n node None = refl
length-replaced expand m n node (Some file) = length-map (renamed m node file) (expand file.nodes) ∙ sym (length-map (renamed n node file) (expand file.nodes))

pub length-replaced_push : (expand : List NodeView → List NodeView) (library : List GraphView) (n : ℕ) (nodes : List NodeView) (node : NodeView)
    → length (all_replaced expand library n (nodes ++ node ∷ [])) ≡ length (all_replaced expand library n nodes) + length (replaced expand 0 node (file_of library node.calculator))
length-replaced_push expand library n [] node =
    length-append (replaced expand n node (file_of library node.calculator)) [] ∙ omega (arith, length-replaced expand n 0 node (file_of library node.calculator))
length-replaced_push expand library n (first ∷ nodes) node =
    let head = replaced expand n first (file_of library first.calculator) in
    length-append head (all_replaced expand library (suc n) (nodes ++ node ∷ []))
    ∙ omega (arith, length-replaced_push expand library (suc n) nodes node, length-append head (all_replaced expand library (suc n) nodes))

-- sums of counts
pub counted_sum : (first second whole : ℕ) → whole ≡ first + second → min (min first (max_nodes + 1) + min second (max_nodes + 1)) (max_nodes + 1) ≡ min whole (max_nodes + 1)
counted_sum first second whole sum = omega arith

-- an element that passes q fails p, if p finds nothing among those that pass q
pub find_filter_at : {X : Type 0} (p q : X → Bool) (xs : List X) → find p (filter q xs) ≡ None → (i : ℕ) (x : X) → slice_get xs i ≡ Some x → q x ≡ true → p x ≡ false
find_filter_at p q [] none i x here passes = cc
find_filter_at p q (y ∷ xs) none zero x here passes =
    let same : y ≡ x = cc in
    let kept : filter q (y ∷ xs) ≡ y ∷ filter q xs = filter_keeps q y xs (subst (λ z. q z ≡ true) (sym same) passes) in
    subst (λ z. p z ≡ false) same (find_none_at p (y ∷ filter q xs) (sym (ap (find p) kept) ∙ none) 0 y refl)
find_filter_at p q (y ∷ xs) none (suc i) x here passes =
    ⊎_elim
    (λ kept. find_filter_at p q xs (absent_later (p y) y (find p (filter q xs)) (sym (ap (find p) (filter_keeps q y xs kept)) ∙ none)) i x here passes)
    (λ dropped. find_filter_at p q xs (sym (ap (find p) (filter_drops q y xs dropped)) ∙ none) i x here passes)
    (cases_Bool (q y))

-- No file that the graph uses uses itself.
pub grounded_main : (main : GraphView) (library : List GraphView) → recursive main library ≡ None → AreGrounded library main.nodes
grounded_main main library none place file here used =
    find_filter_at (is_recursive library) (uses_file library main.nodes) library (none_mapped (λ f. Recursive f.type_name) (find (is_recursive library) (used_files main library)) none) place file here used

-- no sizes are kept at first
pub no_sizes : (count place size : ℕ) → slice_get (replicate {A = Option ℕ} count None) place ≡ Some (Some size) → ⊥
no_sizes zero place size here = cc
no_sizes (suc count) zero size here = cc
no_sizes (suc count) (suc place) size here = no_sizes count place size here

-- no name stands at two ports of the files that nodes use
pub unshared_inside : (library : List GraphView) (nodes : List NodeView) (i : ℕ) (file : GraphView) → AreUnshared library nodes → slice_get library i ≡ Some file → uses_file library nodes file ≡ true → AreUnshared library file.nodes
unshared_inside library nodes i file unshared here used j other at known = unshared j other at (used_through library nodes i j file other here at used known)

pub unshared_in_file : (library : List GraphView) (node : NodeView) (place : ℕ) → AreUnshared library (node ∷ []) → position (is_of node.calculator) library ≡ Some place → AreUnshared library (nodes_at library place)
unshared_in_file library node place unshared found =
    let here = place_found (is_of node.calculator) library place found in
    subst (AreUnshared library) (sym (nodes_found library place here.0 here.1))
    (unshared_inside library (node ∷ []) place here.0 unshared here.1 (used_directly library (node ∷ []) here.0 (one_uses node here.0 here.3)))

pub unshared_own : (library : List GraphView) (node : NodeView) (place : ℕ) → AreUnshared library (node ∷ []) → position (is_of node.calculator) library ≡ Some place
    → (file : GraphView) → slice_get library place ≡ Some file → shared_name file ≡ None
unshared_own library node place unshared found file here =
    let known = place_found (is_of node.calculator) library place found in
    let both : Some known.0 ≡ Some file = sym known.1 ∙ here in
    let same : known.0 ≡ file = cc in
    unshared place file here (used_directly library (node ∷ []) file (one_uses node file (subst (λ f. is_of node.calculator f ≡ true) same known.3)))

pub unshared_node : (library : List GraphView) (nodes : List NodeView) (i : ℕ) (node : NodeView) → AreUnshared library nodes → slice_get nodes i ≡ Some node → AreUnshared library (node ∷ [])
unshared_node library nodes i node unshared here j file at known = unshared j file at (used_by_more library (node ∷ []) nodes (one_of nodes i node here) j file at known)

-- a file that expands to no node
empty_list : {X : Type 0} (xs : List X) → length xs ≡ 0 → xs ≡ []
empty_list [] none = refl
empty_list (x ∷ xs) none = absurd (omega arith)

pub counted_zero : (nodes : List NodeView) → 0 ≡ counted nodes → nodes ≡ []
counted_zero nodes none = empty_list nodes (omega arith)

-- the file that is found is the one at the place
pub replaced_by : (library : List GraphView) (expand : List NodeView → List NodeView) (n : ℕ) (node : NodeView) (place : ℕ) → position (is_of node.calculator) library ≡ Some place
    → (file : GraphView) × (slice_get library place ≡ Some file) × (map (renamed n node file) (expand file.nodes) ≡ replaced expand n node (file_of library node.calculator))
replaced_by library expand n node place found =
    let here = place_found (is_of node.calculator) library place found in
    (here.0, here.1, sym (ap (replaced expand n node) here.2))

pub replaced_none : (library : List GraphView) (expand : List NodeView → List NodeView) (n : ℕ) (node : NodeView) → position (is_of node.calculator) library ≡ None → node ∷ [] ≡ replaced expand n node (file_of library node.calculator)
replaced_none library expand n node none = sym (ap (replaced expand n node) (place_none (is_of node.calculator) library none))

-- one more node
pub all_replaced-push : (expand : List NodeView → List NodeView) (library : List GraphView) (n : ℕ) (nodes : List NodeView) (node : NodeView)
    → all_replaced expand library n (nodes ++ node ∷ []) ≡ all_replaced expand library n nodes ++ replaced expand (n + length nodes) node (file_of library node.calculator)
all_replaced-push expand library n [] node =
    let count : n ≡ n + 0 = omega arith in
    append-nil (replaced expand n node (file_of library node.calculator)) ∙ ap (λ k. replaced expand k node (file_of library node.calculator)) count
all_replaced-push expand library n (first ∷ nodes) node =
    let head = replaced expand n first (file_of library first.calculator) in
    let count : suc n + length nodes ≡ n + suc (length nodes) = omega arith in
    ap (λ l. head ++ l) (all_replaced-push expand library (suc n) nodes node)
    ∙ (sym (append_assoc head (all_replaced expand library (suc n) nodes) (replaced expand (suc n + length nodes) node (file_of library node.calculator)))
    ∙ ap (λ k. (head ++ all_replaced expand library (suc n) nodes) ++ replaced expand k node (file_of library node.calculator)) count)

-- an element that passes a test has no answer if no passing element has one
pub first_some_at : {X Y : Type 0} (answer : X → Option Y) (q : X → Bool) (xs : List X) → first_some answer (filter q xs) ≡ None → (i : ℕ) (x : X) → slice_get xs i ≡ Some x → q x ≡ true → answer x ≡ None
first_some_at answer q [] none i x here passes = cc
first_some_at answer q (y ∷ xs) none zero x here passes =
    let same : y ≡ x = cc in
    let kept : filter q (y ∷ xs) ≡ y ∷ filter q xs = filter_keeps q y xs (subst (λ z. q z ≡ true) (sym same) passes) in
    subst (λ z. answer z ≡ None) same (none_left (answer y) (first_some answer (filter q xs)) (sym (ap (first_some answer) kept) ∙ none))
first_some_at answer q (y ∷ xs) none (suc i) x here passes =
    ⊎_elim
    (λ kept. first_some_at answer q xs (none_right (answer y) (first_some answer (filter q xs)) (sym (ap (first_some answer) (filter_keeps q y xs kept)) ∙ none)) i x here passes)
    (λ dropped. first_some_at answer q xs (sym (ap (first_some answer) (filter_drops q y xs dropped)) ∙ none) i x here passes)
    (cases_Bool (q y))

-- In no file that the graph uses a name stands at two ports.
pub unshared_main : (main : GraphView) (library : List GraphView) → port_shared main library ≡ None → AreUnshared library main.nodes
unshared_main main library none place file here used =
    none_mapped (PortShared file.type_name) (shared_name file) (first_some_at port_shared_in (uses_file library main.nodes) library none place file here used)

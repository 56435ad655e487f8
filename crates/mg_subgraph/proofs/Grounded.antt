-- Nodes whose files don't use themselves: files stand in one another no deeper than they are used.
use Rattle.std.proofs.Common.{ℕ, suc, zero, ◌<◌, ◌≤◌, ◌≡◌, ⊎_elim, List, [], ◌∷◌, ◌++◌, Option, None, Some, Bool, true, false, ◌||◌, refl, sym, ap, ◌∙◌, map, length, arith, subst, is_some}
use Rattle.std.specs.Prelude.{slice_get, find}
use Rattle.std.specs.List.{list_any}
use Rattle.std.proofs.lemmas.Bool.{cases_Bool, cond-true, cond-false}
use Rattle.std.proofs.lemmas.List.Folds.{list_any-append}
use Rattle.mg_config.specs.Config.{NodeView, GraphView}
use Rattle.mg_subgraph.specs.Names.{renamed}
use Rattle.mg_subgraph.specs.Library.{is_of, file_of, is_subgraph, uses, uses_file}
use Rattle.mg_subgraph.specs.Expanded.{replaced, all_replaced, expanded_to, expanded}
use Rattle.mg_subgraph.specs.Code.Sizes.{AreGrounded}
use Rattle.mg_subgraph.proofs.Reaching.{used_directly, used_through, use_count, use_count-le-length, fewer_inside, used_by_more}
use Rattle.mg_subgraph.proofs.Joins.{or_left, or_right, or_neither}

-- what is found stands in the list, and passes
pub find_found : {X : Type 0} (p : X → Bool) (xs : List X) (x : X) → find p xs ≡ Some x → (i : ℕ) × (slice_get xs i ≡ Some x) × (p x ≡ true)
find_found p [] x found = cc
find_found p (y ∷ xs) x found =
    ⊎_elim
    (λ passes.
    let here : Some y ≡ Some x = sym (cond-true (p y) (Some y) (find p xs) passes) ∙ found in
    let same : y ≡ x = cc in
    (0, here, subst (λ z. p z ≡ true) same passes))
    (λ fails.
    let rest = find_found p xs x (sym (cond-false (p y) (Some y) (find p xs) fails) ∙ found) in
    (suc rest.0, rest.1, rest.2))
    (cases_Bool (p y))

-- what one of the nodes uses, they use
pub head_uses : (node : NodeView) (nodes : List NodeView) (file : GraphView) → is_of node.calculator file ≡ true → uses (node ∷ nodes) file ≡ true
head_uses node nodes file known = or_left (is_of node.calculator file) (uses nodes file) known

pub tail_uses : (node : NodeView) (nodes : List NodeView) (file : GraphView) → uses nodes file ≡ true → uses (node ∷ nodes) file ≡ true
tail_uses node nodes file known = or_right (is_of node.calculator file) (uses nodes file) known

-- what holds of all that nodes use holds of all that a used file's nodes use
pub grounded_inside : (library : List GraphView) (nodes : List NodeView) (i : ℕ) (file : GraphView) → AreGrounded library nodes → slice_get library i ≡ Some file → uses_file library nodes file ≡ true → AreGrounded library file.nodes
grounded_inside library nodes i file grounded here used j other at known = grounded j other at (used_through library nodes i j file other here at used known)

pub grounded_part : (library : List GraphView) (few many : List NodeView) → ((file : GraphView) → uses few file ≡ true → uses many file ≡ true) → AreGrounded library many → AreGrounded library few
grounded_part library few many wider grounded i file here known = grounded i file here (used_by_more library few many wider i file here known)

-- a file that one of the nodes uses uses fewer files
pub fewer_in_file : (library : List GraphView) (nodes : List NodeView) (i : ℕ) (file : GraphView) → AreGrounded library nodes → slice_get library i ≡ Some file → uses nodes file ≡ true
    → use_count library file.nodes < use_count library nodes
fewer_in_file library nodes i file grounded here known =
    let used = used_directly library nodes file known in
    fewer_inside library nodes i file here used (grounded i file here used)

-- what stands in the place of nodes, by two ways to expand the nodes of the files that they use
replaced_same : (first second : List NodeView → List NodeView) (n : ℕ) (node : NodeView) (found : Option GraphView) → ((file : GraphView) → found ≡ Some file → first file.nodes ≡ second file.nodes)
    → replaced first n node found ≡ replaced second n node found
replaced_same first second n node None same = refl
replaced_same first second n node (Some file) same = ap (map (renamed n node file)) (same file refl)

pub all_replaced_same : (first second : List NodeView → List NodeView) (library : List GraphView) (n : ℕ) (nodes : List NodeView)
    → ((i : ℕ) (file : GraphView) → slice_get library i ≡ Some file → uses nodes file ≡ true → first file.nodes ≡ second file.nodes) → all_replaced first library n nodes ≡ all_replaced second library n nodes
all_replaced_same first second library n [] same = refl
all_replaced_same first second library n (node ∷ nodes) same =
    ap (λ l. l ++ all_replaced first library (suc n) nodes)
    (replaced_same first second n node (file_of library node.calculator) (λ file found.
    let here = find_found (is_of node.calculator) library file found in
    same here.0 file here.1 (head_uses node nodes file here.2)))
    ∙ ap (λ l. replaced second n node (file_of library node.calculator) ++ l)
    (all_replaced_same first second library (suc n) nodes (λ i file here known. same i file here (tail_uses node nodes file known)))

not_replaced : (expand : List NodeView → List NodeView) (n : ℕ) (node : NodeView) (found : Option GraphView) → ((file : GraphView) → found ≡ Some file → ⊥) → replaced expand n node found ≡ node ∷ []
not_replaced expand n node None none = refl
not_replaced expand n node (Some file) none = absurd (none file refl)

pub none_replaced : (expand : List NodeView → List NodeView) (library : List GraphView) (n : ℕ) (nodes : List NodeView)
    → ((i : ℕ) (file : GraphView) → slice_get library i ≡ Some file → uses nodes file ≡ true → ⊥) → all_replaced expand library n nodes ≡ nodes
none_replaced expand library n [] none = refl
none_replaced expand library n (node ∷ nodes) none =
    ap (λ l. l ++ all_replaced expand library (suc n) nodes)
    (not_replaced expand n node (file_of library node.calculator) (λ file found.
    let here = find_found (is_of node.calculator) library file found in
    none here.0 file here.1 (head_uses node nodes file here.2)))
    ∙ ap (λ l. node ∷ l) (none_replaced expand library (suc n) nodes (λ i file here known. none i file here (tail_uses node nodes file known)))

-- deep enough is as good as deeper
pub deeper_same : (library : List GraphView) (depth : ℕ) (nodes : List NodeView) → AreGrounded library nodes → use_count library nodes ≤ depth → expanded_to (suc depth) library nodes ≡ expanded_to depth library nodes
deeper_same library zero nodes grounded few =
    none_replaced (expanded_to 0 library) library 0 nodes (λ i file here known. let fewer = fewer_in_file library nodes i file grounded here known in omega arith)
deeper_same library (suc depth) nodes grounded few =
    all_replaced_same (expanded_to (suc depth) library) (expanded_to depth library) library 0 nodes
    (λ i file here known.
    let fewer = fewer_in_file library nodes i file grounded here known in
    deeper_same library depth file.nodes (grounded_inside library nodes i file grounded here (used_directly library nodes file known)) (omega arith))

-- The expanded nodes are each node replaced in its place, with the expanded nodes of its file.
pub expanded_by_itself : (library : List GraphView) (nodes : List NodeView) → AreGrounded library nodes → expanded library nodes ≡ all_replaced (expanded library) library 0 nodes
expanded_by_itself library nodes grounded = sym (deeper_same library (length library) nodes grounded (use_count-le-length library nodes))

-- other names leave each node what it is
renamed_flat : (library : List GraphView) (n : ℕ) (node : NodeView) (file : GraphView) (nodes : List NodeView) → list_any (is_subgraph library) (map (renamed n node file) nodes) ≡ list_any (is_subgraph library) nodes
renamed_flat library n node file [] = refl
renamed_flat library n node file (inner ∷ nodes) = ap (λ b. is_subgraph library inner || b) (renamed_flat library n node file nodes)

-- no subgraph node is left
flat_node : (library : List GraphView) (expand : List NodeView → List NodeView) (n : ℕ) (node : NodeView) (found : Option GraphView) → file_of library node.calculator ≡ found
    → ((file : GraphView) → found ≡ Some file → list_any (is_subgraph library) (expand file.nodes) ≡ false) → list_any (is_subgraph library) (replaced expand n node found) ≡ false
flat_node library expand n node None here flat = ap (λ o. is_some o || false) here
flat_node library expand n node (Some file) here flat = renamed_flat library n node file (expand file.nodes) ∙ flat file refl

pub flat_nodes : (library : List GraphView) (expand : List NodeView → List NodeView) (n : ℕ) (nodes : List NodeView)
    → ((i : ℕ) (file : GraphView) → slice_get library i ≡ Some file → uses nodes file ≡ true → list_any (is_subgraph library) (expand file.nodes) ≡ false)
    → list_any (is_subgraph library) (all_replaced expand library n nodes) ≡ false
flat_nodes library expand n [] flat = refl
flat_nodes library expand n (node ∷ nodes) flat =
    list_any-append (is_subgraph library) (replaced expand n node (file_of library node.calculator)) (all_replaced expand library (suc n) nodes)
    ∙ or_neither (list_any (is_subgraph library) (replaced expand n node (file_of library node.calculator))) (list_any (is_subgraph library) (all_replaced expand library (suc n) nodes))
    (flat_node library expand n node (file_of library node.calculator) refl (λ file found.
    let here = find_found (is_of node.calculator) library file found in
    flat here.0 file here.1 (head_uses node nodes file here.2)))
    (flat_nodes library expand (suc n) nodes (λ i file here known. flat i file here (tail_uses node nodes file known)))

is_flat : (library : List GraphView) (node : NodeView) (found : Option GraphView) → file_of library node.calculator ≡ found → ((file : GraphView) → found ≡ Some file → ⊥) → is_subgraph library node ≡ false
is_flat library node None here none = ap is_some here
is_flat library node (Some file) here none = absurd (none file refl)

-- nodes that use no file
pub unused_flat : (library : List GraphView) (nodes : List NodeView) → ((i : ℕ) (file : GraphView) → slice_get library i ≡ Some file → uses nodes file ≡ true → ⊥) → list_any (is_subgraph library) nodes ≡ false
unused_flat library [] none = refl
unused_flat library (node ∷ nodes) none =
    or_neither (is_subgraph library node) (list_any (is_subgraph library) nodes)
    (is_flat library node (file_of library node.calculator) refl (λ file found.
    let here = find_found (is_of node.calculator) library file found in
    none here.0 file here.1 (head_uses node nodes file here.2)))
    (unused_flat library nodes (λ i file here known. none i file here (tail_uses node nodes file known)))

pub flat_to : (library : List GraphView) (depth : ℕ) (nodes : List NodeView) → AreGrounded library nodes → use_count library nodes ≤ depth → list_any (is_subgraph library) (expanded_to depth library nodes) ≡ false
flat_to library zero nodes grounded few =
    unused_flat library nodes (λ i file here known. let fewer = fewer_in_file library nodes i file grounded here known in omega arith)
flat_to library (suc depth) nodes grounded few =
    flat_nodes library (expanded_to depth library) 0 nodes
    (λ i file here known.
    let fewer = fewer_in_file library nodes i file grounded here known in
    flat_to library depth file.nodes (grounded_inside library nodes i file grounded here (used_directly library nodes file known)) (omega arith))

pub none_left : (library : List GraphView) (nodes : List NodeView) → AreGrounded library nodes → list_any (is_subgraph library) (expanded library nodes) ≡ false
none_left library nodes grounded = flat_to library (length library) nodes grounded (use_count-le-length library nodes)

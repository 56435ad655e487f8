use Rattle.std.proofs.Common.{◌≡◌, ◌∙◌, ◌+◌, ◌<◌, ◌++◌, ◌∷◌, [], sym, ap, map, length, take, Some, None, arith, subst, append-nil, length-take-le, get_or}
use Rattle.std.specs.Prelude.{slice_get, position}
use Rattle.std.proofs.lemmas.List.{take_all}
use Rattle.mg_config.specs.Config.{node_view, graph_view}
use Rattle.mg_names.proofs.Keys.{on_ok}
use Rattle.mg_subgraph.specs.Library.{is_of, file_of}
use Rattle.mg_subgraph.specs.Names.{renamed}
use Rattle.mg_subgraph.specs.Expanded as expansion
use Rattle.mg_subgraph.specs.Code.Sizes.{nodes_at, AreGrounded}
use Rattle.mg_subgraph.specs.Code.Judged.{AreNames, AreUnshared}
use Rattle.mg_subgraph.specs.Code.Bindings.{IsUse}
use Rattle.mg_subgraph.specs.Refusals.{shared_name}
use Rattle.mg_subgraph.specs.declared.shared.FileNames.{FileNames}
use Rattle.mg_config.specs.declared.graph.GraphConfig.{GraphConfig}
use Rattle.mg_subgraph.proofs.Reaching.{use_count}
use Rattle.mg_subgraph.proofs.Grounded.{expanded_by_itself}
use Rattle.mg_subgraph.proofs.Sized.{nodes_found, grounded_in_file, fewer_found, place_within, grounded_node, no_more_in_node, unshared_in_file, unshared_own, unshared_node, counted_zero, replaced_by, replaced_none, all_replaced-push}
use Rattle.mg_subgraph.proofs.Steps.{got, got_map, taken, length-map, map-push}
use Rattle.mg_subgraph.proofs.expanding.+expanding.Goals as goal

pub expand_file-returns-then-is_empty : goal.expand_file-returns-then-is_empty
expand_file-returns-then-is_empty t c = λ file here.
    let library = map graph_view c.args.judged.now.library.now.files.now in
    let out = map node_view c.args.out.now.items in
    let sizes = c.args.judged.now.sizes.now in
    let size : slice_get sizes c.args.place ≡ Some (Some 0) = c.is_empty.ensures c.if-is_empty.true in
    let none = counted_zero (expansion.expanded library (nodes_at library c.args.place)) (c.args.judged.now.sized c.args.place 0 size) in
    let same : expansion.expanded library file.nodes ≡ [] = ap (expansion.expanded library) (sym (nodes_found library c.args.place file here)) ∙ none in
    sym (ap (λ l. out ++ map (renamed c.args.n (node_view c.args.node.now) file) l) same ∙ append-nil out)

pub expand_file-expanded-requires : goal.expand_file-expanded-requires
expand_file-expanded-requires t c =
    let library = map graph_view c.args.judged.now.library.now.files.now in
    let place = c.args.place in
    let file = c.index-judged-place.result in
    let at : slice_get library place ≡ Some (graph_view file) = got_map graph_view c.args.judged.now.library.now.files.now place file (got c.args.judged.now.library.now.files.now place file c.requires.place c.index-judged-place.is) in
    let inner : map node_view c.as_slice.result.now ≡ nodes_at library place = ap (map node_view) (c.as_slice.ensures ∙ ap (λ f. f.nodes) (sym c.index-judged-place.is)) ∙ sym (nodes_found library place (graph_view file) at) in
    let few : use_count library (map node_view c.as_slice.result.now) ≡ use_count library (nodes_at library place) = ap (use_count library) inner in
    let falls = c.decreases in
    (omega arith, (subst (AreGrounded library) (sym inner) c.requires.grounded, subst (AreUnshared library) (sym inner) c.requires.unshared))

pub expand_file-new-requires-clause-names : goal.expand_file-new-requires-clause-names
expand_file-new-requires-clause-names t c =
    let library = map graph_view c.args.judged.now.library.now.files.now in
    let place = c.args.place in
    let file = c.index-judged-place.result in
    let at : slice_get library place ≡ Some (graph_view file) = got_map graph_view c.args.judged.now.library.now.files.now place file (got c.args.judged.now.library.now.files.now place file c.requires.place c.index-judged-place.is) in
    let names = c.args.judged.now.names.now in
    let inside : place < length names = omega (arith, c.args.judged.now.named.same, length-map graph_view c.args.judged.now.library.now.files.now, c.requires.place) in
    let entry = c.index-judged-place-2.result in
    let known : AreNames entry (graph_view file) = c.args.judged.now.named.named place (graph_view file) entry at (got names place entry inside c.index-judged-place-2.is) in
    let P : GraphConfig → Type 0 = λ f. AreNames entry (graph_view f) in
    let Q : FileNames → Type 0 = λ e. AreNames e (graph_view (get_or c.args.judged.now.library.now.files.now place file)) in
    subst Q c.index-judged-place-2.is (subst P c.index-judged-place.is known)

pub expand_file-new-requires-clause-once : goal.expand_file-new-requires-clause-once
expand_file-new-requires-clause-once t c =
    let library = map graph_view c.args.judged.now.library.now.files.now in
    let place = c.args.place in
    let file = c.index-judged-place.result in
    let at : slice_get library place ≡ Some (graph_view file) = got_map graph_view c.args.judged.now.library.now.files.now place file (got c.args.judged.now.library.now.files.now place file c.requires.place c.index-judged-place.is) in
    ap (λ f. shared_name (graph_view f)) (sym c.index-judged-place.is) ∙ c.requires.own (graph_view file) at

pub expand_file-returns : goal.expand_file-returns
expand_file-returns t c =
    let library = map graph_view c.args.judged.now.library.now.files.now in
    let place = c.args.place in
    let file = c.index-judged-place.result in
    let at : slice_get library place ≡ Some (graph_view file) = got_map graph_view c.args.judged.now.library.now.files.now place file (got c.args.judged.now.library.now.files.now place file c.requires.place c.index-judged-place.is) in
    on_ok c.rename_all.result
    (λ all other here.
    let both : Some (graph_view file) ≡ Some other = sym at ∙ here in
    let same : graph_view file ≡ other = cc in
    let inner : map node_view c.in_ok-nodes.nodes.items ≡ expansion.expanded library other.nodes =
    c.in_ok-nodes.ensures ∙ (ap (λ l. expansion.expanded library (map node_view l)) (c.as_slice.ensures ∙ ap (λ f. f.nodes) (sym c.index-judged-place.is)) ∙ ap (λ f. expansion.expanded library f.nodes) same) in
    all c.args.n (node_view c.args.node.now) other (subst (IsUse c.in_ok-used.used c.args.n (node_view c.args.node.now)) (ap graph_view (sym c.index-judged-place.is) ∙ same) c.in_ok-used.ensures) ∙ ap (λ l. map node_view c.args.out.now.items ++ map (renamed c.args.n (node_view c.args.node.now) other) l) inner)
    c.rename_all.ensures

pub expand_node-expand_file-requires : goal.expand_node-expand_file-requires
expand_node-expand_file-requires t c =
    let library = map graph_view c.args.judged.now.library.now.files.now in
    let node = node_view c.args.node.now in
    let place = c.in-Some.place in
    let found : position (is_of node.calculator) library ≡ Some place = ap (λ l. position (is_of l) library) (sym c.as_str.ensures) ∙ sym c.in-Some.ensures in
    let inside = place_within (is_of node.calculator) library place found in
    let fewer = fewer_found library node place c.requires.grounded found in
    let falls = c.decreases in
    (omega arith, (omega (arith, length-map graph_view c.args.judged.now.library.now.files.now), (grounded_in_file library node place c.requires.grounded found, (unshared_in_file library node place c.requires.unshared found, unshared_own library node place c.requires.unshared found))))

pub expand_node-returns-in_ok-push-in-None : goal.expand_node-returns-in_ok-push-in-None
expand_node-returns-in_ok-push-in-None t c =
    let library = map graph_view c.args.judged.now.library.now.files.now in
    let node = node_view c.args.node.now in
    let none : position (is_of node.calculator) library ≡ None = ap (λ l. position (is_of l) library) (sym c.as_str.ensures) ∙ sym c.in-None.ensures in
    let out = map node_view c.args.out.now.items in
    ap (map node_view) c.in_ok-push-in-None.ensures.items
    ∙ (map-push node_view c.args.out.now.items c.in_ok-copy_of-in-None.field-0
    ∙ (ap (λ v. out ++ v ∷ []) c.in_ok-copy_of-in-None.ensures ∙ ap (λ l. out ++ l) (replaced_none library (expansion.expanded library) c.args.n node none)))

pub expand_node-returns-in-Some : goal.expand_node-returns-in-Some
expand_node-returns-in-Some t c =
    let library = map graph_view c.args.judged.now.library.now.files.now in
    let node = node_view c.args.node.now in
    let place = c.in-Some.place in
    let found : position (is_of node.calculator) library ≡ Some place = ap (λ l. position (is_of l) library) (sym c.as_str.ensures) ∙ sym c.in-Some.ensures in
    let by = replaced_by library (expansion.expanded library) c.args.n node place found in
    on_ok c.expand_file.result (λ all. all by.0 by.1 ∙ ap (λ l. map node_view c.args.out.now.items ++ l) by.2) c.expand_file.ensures

pub expanded-expand_node-requires : goal.expanded-expand_node-requires
expanded-expand_node-requires t c =
    let library = map graph_view c.args.judged.now.library.now.files.now in
    let nodes = map node_view c.args.nodes.now in
    let i = c.loop-n.n in
    let node = c.index-nodes-n.result in
    let at : slice_get nodes i ≡ Some (node_view node) = got_map node_view c.args.nodes.now i node (got c.args.nodes.now i node c.loop-n-test.true c.index-nodes-n.is) in
    let few = no_more_in_node library nodes i (node_view node) at in
    let falls = c.decreases in
    (omega arith, (grounded_node library nodes i (node_view node) c.requires.grounded at, unshared_node library nodes i (node_view node) c.requires.unshared at))

pub expanded-loop-n-preserved : goal.expanded-loop-n-preserved
expanded-loop-n-preserved t c =
    let library = map graph_view c.args.judged.now.library.now.files.now in
    let nodes = c.args.nodes.now in
    let i = c.loop-n.n in
    let node = c.index-nodes-n.result in
    let before = map node_view (take i nodes) in
    let more : map node_view (take (i + 1) nodes) ≡ before ++ node_view node ∷ [] = taken node_view nodes i node c.loop-n-test.true c.index-nodes-n.is in
    let test = c.loop-n-test.true in
    let count : 0 + length before ≡ i = omega (arith, length-map node_view (take i nodes), length-take-le i nodes) in
    let expand = expansion.expanded library in
    c.in_ok-expand_node.ensures
    ∙ (ap (λ l. l ++ expansion.replaced expand i (node_view node) (file_of library node.calculator)) c.loop-n.invariant
    ∙ (ap (λ k. expansion.all_replaced expand library 0 before ++ expansion.replaced expand k (node_view node) (file_of library node.calculator)) (sym count)
    ∙ (sym (all_replaced-push expand library 0 before (node_view node)) ∙ ap (expansion.all_replaced expand library 0) (sym more))))

pub expanded-returns : goal.expanded-returns
expanded-returns t c =
    let library = map graph_view c.args.judged.now.library.now.files.now in
    let nodes = c.args.nodes.now in
    c.loop-n.invariant
    ∙ (ap (λ l. expansion.all_replaced (expansion.expanded library) library 0 (map node_view l)) (take_all c.loop-n.n nodes c.loop-n-test.false)
    ∙ sym (expanded_by_itself library (map node_view nodes) c.requires.grounded))

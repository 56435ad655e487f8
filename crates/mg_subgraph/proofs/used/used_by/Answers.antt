use Rattle.std.proofs.Common.{◌≡◌, ◌∙◌, ◌<◌, sym, ap, map, length, Some, arith, ℕ, subst}
use Rattle.std.specs.Prelude.{slice_get, option_map}
use Rattle.std.specs.Option.{option_and_then}
use Rattle.mg_config.specs.Config.{node_view, graph_view}
use Rattle.mg_subgraph.specs.Code.Places.{listed, uses_at, AreLinks, IsFirstCycle}
use Rattle.mg_subgraph.specs.declared.fault.ExpandFault.TheVariants.{Recursive}
use Rattle.mg_subgraph.proofs.Linked.{links_closed, start_within, walked_files, walked_cycle}
use Rattle.mg_subgraph.proofs.Steps.{got, got_map, length-map}
use Rattle.mg_subgraph.proofs.used.used_by.Goals as goal

pub walk-requires-clause-links : goal.walk-requires-clause-links
walk-requires-clause-links c =
    let library = map graph_view c.args.library.now.files.now in
    let main = graph_view c.args.main.now in
    let links = map (λ v. v.items) c.as_slice-2.result.now in
    let start = c.as_slice-3.result.now in
    let linked : AreLinks library links = subst (λ l. AreLinks library (map (λ v. v.items) l)) (sym c.as_slice-2.ensures.value) c.in_ok-links.ensures in
    let begun : (place : ℕ) → listed place start ≡ uses_at library main.nodes place = λ place. ap (listed place) c.as_slice-3.ensures.value ∙ (c.in_ok-start.ensures place ∙ ap (λ l. uses_at library (map node_view l) place) c.as_slice.ensures) in
    links_closed library links linked

pub walk-requires-clause-start : goal.walk-requires-clause-start
walk-requires-clause-start c =
    let library = map graph_view c.args.library.now.files.now in
    let main = graph_view c.args.main.now in
    let links = map (λ v. v.items) c.as_slice-2.result.now in
    let start = c.as_slice-3.result.now in
    let linked : AreLinks library links = subst (λ l. AreLinks library (map (λ v. v.items) l)) (sym c.as_slice-2.ensures.value) c.in_ok-links.ensures in
    let begun : (place : ℕ) → listed place start ≡ uses_at library main.nodes place = λ place. ap (listed place) c.as_slice-3.ensures.value ∙ (c.in_ok-start.ensures place ∙ ap (λ l. uses_at library (map node_view l) place) c.as_slice.ensures) in
    start_within library links main.nodes start linked begun

pub returns-in-None-clause-used : goal.returns-in-None-clause-used
returns-in-None-clause-used c =
    let library = map graph_view c.args.library.now.files.now in
    let main = graph_view c.args.main.now in
    let links = map (λ v. v.items) c.as_slice-2.result.now in
    let start = c.as_slice-3.result.now in
    let linked : AreLinks library links = subst (λ l. AreLinks library (map (λ v. v.items) l)) (sym c.as_slice-2.ensures.value) c.in_ok-links.ensures in
    let begun : (place : ℕ) → listed place start ≡ uses_at library main.nodes place = λ place. ap (listed place) c.as_slice-3.ensures.value ∙ (c.in_ok-start.ensures place ∙ ap (λ l. uses_at library (map node_view l) place) c.as_slice.ensures) in
    walked_files library main links start c.in_ok-walked.walked.used.items linked begun c.in_ok-walked.ensures.used (c.in_ok-walked.ensures.len ∙ sym (length-map (λ v. v.items) c.as_slice-2.result.now))

pub returns-in-None-clause-ok : goal.returns-in-None-clause-ok
returns-in-None-clause-ok c =
    let library = map graph_view c.args.library.now.files.now in
    let main = graph_view c.args.main.now in
    let links = map (λ v. v.items) c.as_slice-2.result.now in
    let start = c.as_slice-3.result.now in
    let linked : AreLinks library links = subst (λ l. AreLinks library (map (λ v. v.items) l)) (sym c.as_slice-2.ensures.value) c.in_ok-links.ensures in
    let begun : (place : ℕ) → listed place start ≡ uses_at library main.nodes place = λ place. ap (listed place) c.as_slice-3.ensures.value ∙ (c.in_ok-start.ensures place ∙ ap (λ l. uses_at library (map node_view l) place) c.as_slice.ensures) in
    walked_cycle library main links start c.in_ok-walked.walked.used.items c.in_ok-walked.walked.cycle linked begun c.in_ok-walked.ensures.used c.in_ok-walked.ensures.cycle
    ∙ ap (λ found. option_map (λ file. Recursive file.type_name) (option_and_then (slice_get library) found)) c.in-None.is

pub returns-clause-err : goal.returns-clause-err
returns-clause-err c = λ _.
    let library = map graph_view c.args.library.now.files.now in
    let main = graph_view c.args.main.now in
    let links = map (λ v. v.items) c.as_slice-2.result.now in
    let start = c.as_slice-3.result.now in
    let linked : AreLinks library links = subst (λ l. AreLinks library (map (λ v. v.items) l)) (sym c.as_slice-2.ensures.value) c.in_ok-links.ensures in
    let begun : (place : ℕ) → listed place start ≡ uses_at library main.nodes place = λ place. ap (listed place) c.as_slice-3.ensures.value ∙ (c.in_ok-start.ensures place ∙ ap (λ l. uses_at library (map node_view l) place) c.as_slice.ensures) in
    let place = c.in-Some.place in
    let file = c.index-library-place.result in
    let first = subst (IsFirstCycle links c.in_ok-walked.walked.used.items) c.in-Some.is c.in_ok-walked.ensures.cycle in
    let inside : place < length c.args.library.now.files.now = omega (arith, first.0, linked.same, length-map graph_view c.args.library.now.files.now) in
    let at : slice_get library place ≡ Some (graph_view file) = got_map graph_view c.args.library.now.files.now place file (got c.args.library.now.files.now place file inside c.index-library-place.is) in
    walked_cycle library main links start c.in_ok-walked.walked.used.items c.in_ok-walked.walked.cycle linked begun c.in_ok-walked.ensures.used c.in_ok-walked.ensures.cycle
    ∙ (ap (λ found. option_map (λ f. Recursive f.type_name) (option_and_then (slice_get library) found)) c.in-Some.is
    ∙ (ap (option_map (λ f. Recursive f.type_name)) at ∙ ap (λ name. Some (Recursive name)) (ap (λ f. f.type_name) c.index-library-place.is ∙ sym c.in_ok-try_clone-in-Some.ensures)))

use Rattle.std.proofs.Common.{◌≡◌, ◌∙◌, ◌++◌, ◌∷◌, [], ◌+◌, sym, ap, map, length, length-append, Some, subst}
use Rattle.std.specs.Prelude.{slice_get}
use Rattle.mg_config.specs.Config.{node_view, graph_view}
use Rattle.mg_subgraph.specs.Code.Places.{uses_at}
use Rattle.mg_subgraph.proofs.Linked.{links_more, AreLinked}
use Rattle.mg_subgraph.proofs.Steps.{got, got_map, map-push, length-map}
use Rattle.mg_subgraph.proofs.links.all_links.Goals as goal

pub loop-file-preserved : goal.loop-file-preserved
loop-file-preserved c =
    let library = map graph_view c.args.library.now.files.now in
    let before = c.loop-file.links.items in
    let i = c.loop-file.file-index in
    let new = c.in_ok-links_of.field-0 in
    let file = c.file-item.result in
    let pushed : c.push.new.self.items ≡ before ++ new ∷ [] = c.in_ok-push.ensures.items in
    let at : slice_get library i ≡ Some (graph_view file) = got_map graph_view c.args.library.now.files.now i file (got c.args.library.now.files.now i file c.loop-file-test.true c.file-item.is) in
    let links : map (λ v. v.items) c.push.new.self.items ≡ map (λ v. v.items) before ++ new.items ∷ [] = ap (map (λ v. v.items)) pushed ∙ map-push (λ v. v.items) before new in
    record {
      same = ap length pushed ∙ (length-append before (new ∷ []) ∙ ap (λ n. n + 1) c.loop-file.invariant.same);
      linked =
          subst (AreLinked library) (sym links)
          (links_more library (map (λ v. v.items) before) i (graph_view file) new.items (length-map (λ v. v.items) before ∙ c.loop-file.invariant.same) at
          (λ other. c.in_ok-links_of.ensures other ∙ ap (λ l. uses_at library (map node_view l) other) c.as_slice.ensures) c.loop-file.invariant.linked);
    }

use Rattle.std.proofs.Common.{◌≡◌, ◌∙◌, ◌++◌, ◌∷◌, [], ◌+◌, sym, ap, map, length, length-append, Some, ℕ, List, subst}
use Rattle.std.specs.Prelude.{slice_get}
use Rattle.mg_config.specs.Config.{graph_view, GraphView}
use Rattle.mg_subgraph.specs.Code.Judged.{AreNames}
use Rattle.mg_subgraph.specs.declared.shared.FileNames.{FileNames}
use Rattle.mg_subgraph.proofs.Looked.{names_more}
use Rattle.mg_subgraph.proofs.Steps.{got, got_map}
use Rattle.mg_subgraph.proofs.shared.names_of.Goals as goal

pub loop-file-preserved : goal.loop-file-preserved
loop-file-preserved c =
    let files = map graph_view c.args.files.now in
    let before = c.loop-file.names.items in
    let i = c.loop-file.file-index in
    let new = c.in_ok-names_in.field-0 in
    let file = c.file-item.result in
    let pushed : c.push.new.self.items ≡ before ++ new ∷ [] = c.in_ok-push.ensures.items in
    let at : slice_get files i ≡ Some (graph_view file) = got_map graph_view c.args.files.now i file (got c.args.files.now i file c.loop-file-test.true c.file-item.is) in
    let P : List FileNames → Type 0 = λ names. (place : ℕ) (f : GraphView) (entry : FileNames) → slice_get files place ≡ Some f → slice_get names place ≡ Some entry → AreNames entry f in
    record {
      same = ap length pushed ∙ (length-append before (new ∷ []) ∙ ap (λ n. n + 1) c.loop-file.invariant.same);
      named = subst P (sym pushed) (names_more files before i (graph_view file) new c.loop-file.invariant.same at c.in_ok-names_in.ensures c.loop-file.invariant.named);
    }

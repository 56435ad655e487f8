-- Who writes streams, node by node.
use Rattle.std.proofs.Common.{ℕ, ◌+◌, ◌<◌, ◌≡◌, List, ◌++◌, length, drop, get_or, map, sym, ap, ◌∙◌}
use Rattle.std.specs.Borrow.{Bor}
use Rattle.std.proofs.lemmas.List.{length-map}
use Rattle.mg_calc.specs.Plan.{numbers}
use Rattle.mg_calc.specs.declared.plan_stream.Producer.{Producer}
use Rattle.mg_calc.specs.declared.plan_stream.Producer.TheVariants.{Node}
use Rattle.mg_check.specs.DraftView.{draft_view, drafts_view}
use Rattle.mg_check.specs.declared.draft.Draft.{Draft}
use Rattle.mg_check.specs.Code.Writers.{node_writers}
use Rattle.mg_check.proofs.Filling.{here, part_moved}

pub writers_moved : (new out all : List Producer) (ds : List Draft) (i : ℕ) (d : Draft) (texts : List (Bor (List ℕ))) (count : ℕ) → i < length ds → d ≡ get_or ds i d → texts ≡ d.outputs.items → count ≡ length texts
    → new ≡ out ++ map (λ port. Node i port) (numbers count) → out ++ node_writers i (drafts_view (drop i ds)) ≡ all → new ++ node_writers (i + 1) (drafts_view (drop (i + 1) ds)) ≡ all
writers_moved new out all ds i d texts count inside at same counted put known =
    let long : count ≡ length (draft_view d).outputs = counted ∙ (ap length same ∙ sym (length-map d.outputs.items (λ n. n.now))) in
    part_moved new out (map (λ port. Node i port) (numbers count)) (node_writers i (drafts_view (drop i ds))) (node_writers (i + 1) (drafts_view (drop (i + 1) ds))) all put
    (ap (λ l. node_writers i (drafts_view l)) (here ds i d inside at) ∙ ap (λ n. map (λ port. Node i port) (numbers n) ++ node_writers (i + 1) (drafts_view (drop (i + 1) ds))) (sym long))
    known

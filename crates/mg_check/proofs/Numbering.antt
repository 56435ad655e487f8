-- The nodes of a plan, one after another.
use Rattle.std.proofs.Common.{ℕ, ◌+◌, ◌≡◌, List, [], ◌∷◌, ◌++◌, length, refl, sym, ap, ◌∙◌}
use Rattle.std.specs.Borrow.{Bor}
use Rattle.std.proofs.lemmas.List.{length-map, map-append}
use Rattle.mg_calc.specs.declared.plan_node.PlanNode.{PlanNode}
use Rattle.mg_check.specs.Drafts.{DraftView}
use Rattle.mg_check.specs.DraftView.{draft_view, drafts_view}
use Rattle.mg_check.specs.Planning.{plan_node, plan_nodes}
use Rattle.mg_check.specs.declared.draft.Draft.{Draft}
use Rattle.mg_check.specs.Code.Numbered.{next_after}

nodes_push : (streams sides : List (List ℕ)) (first : ℕ) (ds : List DraftView) (d : DraftView) → plan_nodes streams sides first (ds ++ d ∷ []) ≡ plan_nodes streams sides first ds ++ plan_node streams sides (next_after first ds) d ∷ []
nodes_push streams sides first [] d = refl
nodes_push streams sides first (e ∷ ds) d = ap (λ l. plan_node streams sides first e ∷ l) (nodes_push streams sides (first + length e.outputs) ds d)

next_push : (first : ℕ) (ds : List DraftView) (d : DraftView) → next_after first (ds ++ d ∷ []) ≡ next_after first ds + length d.outputs
next_push first [] d = refl
next_push first (e ∷ ds) d = next_push (first + length e.outputs) ds d

pub nodes_more : (streams sides : List (List ℕ)) (first : ℕ) (ds : List Draft) (d : Draft) (new out : List PlanNode) (node : PlanNode) (next : ℕ) → new ≡ out ++ node ∷ [] → node ≡ plan_node streams sides next (draft_view d)
    → out ≡ plan_nodes streams sides first (drafts_view ds) → next ≡ next_after first (drafts_view ds) → new ≡ plan_nodes streams sides first (drafts_view (ds ++ d ∷ []))
nodes_more streams sides first ds d new out node next put is made at =
    put ∙ (ap (λ n. out ++ n ∷ []) (is ∙ ap (λ k. plan_node streams sides k (draft_view d)) at)
    ∙ (ap (λ l. l ++ plan_node streams sides (next_after first (drafts_view ds)) (draft_view d) ∷ []) made
    ∙ sym (ap (plan_nodes streams sides first) (map-append draft_view ds (d ∷ [])) ∙ nodes_push streams sides first (drafts_view ds) (draft_view d))))

pub next_more : (first : ℕ) (ds : List Draft) (d : Draft) (texts : List (Bor (List ℕ))) (next count end : ℕ) → end ≡ next + count → count ≡ length texts → texts ≡ d.outputs.items → next ≡ next_after first (drafts_view ds)
    → end ≡ next_after first (drafts_view (ds ++ d ∷ []))
next_more first ds d texts next count end is counted same at =
    is ∙ (ap (λ k. k + count) at ∙ (ap (λ k. next_after first (drafts_view ds) + k) (counted ∙ (ap length same ∙ sym (length-map d.outputs.items (λ n. n.now))))
    ∙ sym (ap (next_after first) (map-append draft_view ds (d ∷ [])) ∙ next_push first (drafts_view ds) (draft_view d))))

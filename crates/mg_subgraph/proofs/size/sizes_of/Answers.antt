use Rattle.std.proofs.Common.{◌≡◌, ◌∙◌, sym, ap, map, Some, None, Option, ℕ, subst, length, refl}
use Rattle.std.specs.Prelude.{slice_get, replicate}
use Rattle.mg_config.specs.Config.{node_view, graph_view}
use Rattle.mg_subgraph.specs.Code.Sizes.{AreGrounded}
use Rattle.mg_subgraph.proofs.Sized.{grounded_main, no_sizes}
use Rattle.mg_subgraph.proofs.size.sizes_of.Goals as goal

pub nodes_size-requires-clause-grounded : goal.nodes_size-requires-clause-grounded
nodes_size-requires-clause-grounded c =
    let library = map graph_view c.args.library.now.files.now in
    subst (λ nodes. AreGrounded library (map node_view nodes)) (sym c.as_slice.ensures) (grounded_main (graph_view c.args.main.now) library c.requires)

pub nodes_size-requires-clause-sizes : goal.nodes_size-requires-clause-sizes
nodes_size-requires-clause-sizes c = λ place size here.
    let count = length c.args.library.now.files.now in
    let none : c.deref_mut.result.now ≡ replicate {A = Option ℕ} count None = c.deref_mut.ensures.value ∙ c.in_ok-sizes.ensures.items_if_clones_equal (elim [ None ↦ λ same. refl | Some x ↦ λ same. absurd same ]) in
    absurd (no_sizes count place size (ap (λ l. slice_get l place) (sym none) ∙ here))

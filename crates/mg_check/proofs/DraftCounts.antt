-- There are no more drafts than nodes.
use Rattle.std.proofs.Common.{suc, ◌+◌, ◌≤◌, List, [], ◌∷◌, ◌++◌, length, Option, None, Some, filter_map, arith, le_trans}
use Rattle.std.specs.List.{cons_option}
use Rattle.mg_config.specs.Config.{NodeView}
use Rattle.mg_calc.specs.declared.shape.OuterShape.{OuterShape}
use Rattle.mg_check.specs.Choosing.{Chosen, kind_of, with_kind, chosen_after, chosen_nodes}
use Rattle.mg_check.specs.Drafts.{draft_of, drafts}
use Rattle.mg_check.specs.declared.node_kind.NodeKind.{NodeKind}

-- No more.
made_most : {X Y : Type 0} (f : X → Option Y) (xs : List X) → length (filter_map f xs) ≤ length xs
made_most f [] = omega arith
made_most {X} {Y} f (x ∷ xs) = by (f x) (made_most f xs)
  where
    by : (o : Option Y) → length (filter_map f xs) ≤ length xs → length (cons_option o (filter_map f xs)) ≤ suc (length xs)
    by None rest = omega arith
    by (Some y) rest = omega arith

chosen_most : (outers : List OuterShape) (before nodes : List NodeView) → length (chosen_after outers before nodes) ≤ length nodes
chosen_most outers before [] = omega arith
chosen_most outers before (node ∷ nodes) = by (kind_of outers before node) (chosen_after outers (before ++ node ∷ []) nodes) (chosen_most outers (before ++ node ∷ []) nodes)
  where
    by : (kind : Option NodeKind) (more : List Chosen) → length more ≤ length nodes → length (with_kind kind node more) ≤ suc (length nodes)
    by None more rest = omega arith
    by (Some kind) more rest = omega arith

pub drafts-most : (outers : List OuterShape) (nodes : List NodeView) → length (drafts outers nodes) ≤ length nodes
drafts-most outers nodes = le_trans (made_most (draft_of outers) (chosen_nodes outers nodes)) (chosen_most outers [] nodes)

-- The user-supplied calculators fit what is known of them, and each plan that was made for them.
use Rattle.std.proofs.Common.{◌≡◌, ℕ, zero, suc, List, Option, Some, None, IfSome, IsSomeAnd, map, get_or, slice_get, sym, subst, ap, ◌∙◌}
use Rattle.mg_calc.specs.declared.plan.Plan.{Plan}
use Rattle.mg_calc.specs.declared.plan_node.PlanNode.{PlanNode}
use Rattle.mg_calc.specs.Plan.{FitsNode, OutersFit}
use Rattle.mg_calc.specs.Told.{BoxTold}
use Rattle.mg_sched.specs.Made.{FitsNew, BoxesFit}
use Rattle.mg_nets.specs.Handed.{two_outers, two_tallies}

-- the calculators that a plan asks for are there
box_fits : (node : PlanNode) (number : Option ℕ) → IfSome number (λ n. IsSomeAnd (slice_get two_outers n) (λ outer. FitsNode node outer.law outer.shape))
    → IfSome number (λ n. IsSomeAnd (slice_get two_tallies n) (FitsNew node))
box_fits node None h = tt
box_fits node (Some zero) h = record { fits = h; outer = tt }
box_fits node (Some (suc zero)) h = record { fits = h; outer = tt }
box_fits node (Some (suc (suc n))) h = absurd h

pub boxes_fit : {X : Type 0} (told : X → BoxTold) (plan : Plan) (boxes two : List X) → boxes ≡ two → map told two ≡ two_tallies → OutersFit plan two_outers → BoxesFit plan (map told boxes)
boxes_fit {X} told plan boxes two are tell fit = subst (BoxesFit plan) (sym (ap (λ (bs : List X). map told bs) are ∙ tell)) fits
  where
    fits : BoxesFit plan two_tallies
    fits = λ k d less. box_fits (get_or plan.nodes k d) (get_or plan.nodes k d).box_number (fit k d less)

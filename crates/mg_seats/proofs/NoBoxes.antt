-- If there is no user-supplied calculator, no node wants one.
use Rattle.std.proofs.Common.{◌≡◌, ℕ, zero, suc, List, [], Option, Some, None, IfSome, IsSomeAnd, map, get_or, slice_get, sym, subst}
use Rattle.mg_calc.specs.declared.plan.Plan.{Plan}
use Rattle.mg_calc.specs.declared.shape.OuterShape.{OuterShape}
use Rattle.mg_calc.specs.Plan.{FitsNode, OutersFit}
use Rattle.mg_calc.specs.Told.{BoxTold}
use Rattle.mg_sched.specs.Made.{FitsNew, BoxesFit}

abbrev FromNone : {X : Type 0} → (X → Type 0) → Option ℕ → Type 0
FromNone {X} F number = IfSome number (λ n. IsSomeAnd (let none : List X = [] in slice_get none n) F)

none_wanted : {X Y : Type 0} (F : X → Type 0) (G : Y → Type 0) (number : Option ℕ) → FromNone F number → FromNone G number
none_wanted {X} {Y} F G None h = tt
none_wanted {X} {Y} F G (Some zero) h = absurd h
none_wanted {X} {Y} F G (Some (suc n)) h = absurd h

pub none_fit : {X : Type 0} (told : X → BoxTold) (plan : Plan) (boxes : List X) → boxes ≡ [] → OutersFit plan [] → BoxesFit plan (map told boxes)
none_fit {X} told plan boxes none fit = subst (λ (bs : List X). BoxesFit plan (map told bs)) (sym none) fits
  where
    fits : BoxesFit plan []
    fits = λ k d less.
        let node = get_or plan.nodes k d in
        none_wanted (λ (outer : OuterShape). FitsNode node outer.law outer.shape) (FitsNew node) node.box_number (fit k d less)

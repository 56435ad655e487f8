-- The user-supplied calculators among those of an engine.
use Rattle.std.proofs.Common.{◌≡◌, List, [], ◌∷◌, ◌++◌, Option, Some, None, option_and_then, slice_get, refl, ap, sym, ◌∙◌}
use Rattle.std.specs.List.{filter_map, cons_option}
use Rattle.std.proofs.lemmas.List.Elements.{filter_map-append}
use Rattle.mg_calc.specs.Told.{BoxTold}
use Rattle.mg_route.specs.HolderView.{HolderView}
use Rattle.mg_node.specs.Leaving.{handed_told}

-- what the first user-supplied calculator of some tells of itself
abbrev pub first_told : List HolderView → Option BoxTold
first_told helds = slice_get (filter_map handed_told helds) 0

-- with one before them, if there is one: it is the first, or the first is among them
pub told_here : (one : Option HolderView) (t : BoxTold) (others : List HolderView) → Some t ≡ option_and_then handed_told one → Some t ≡ first_told (cons_option one others)
told_here None t others h = absurd cc
told_here (Some held) t others h = ap (λ (o : Option BoxTold). slice_get (cons_option o (filter_map handed_told others)) 0) h

pub told_later : (one : Option HolderView) (others : List HolderView) → None ≡ option_and_then handed_told one → first_told others ≡ first_told (cons_option one others)
told_later None others h = refl
told_later (Some held) others h = ap (λ (o : Option BoxTold). slice_get (cons_option o (filter_map handed_told others)) 0) h

-- with others after them
first_in : {X : Type 0} (xs ys : List X) (x : X) → Some x ≡ slice_get xs 0 → Some x ≡ slice_get (xs ++ ys) 0
first_in [] ys x h = absurd cc
first_in (z ∷ xs) ys x h = h

first_behind : {X : Type 0} (xs ys : List X) → None ≡ slice_get xs 0 → slice_get ys 0 ≡ slice_get (xs ++ ys) 0
first_behind [] ys h = refl
first_behind (z ∷ xs) ys h = absurd cc

apart : (xs ys : List HolderView) → slice_get (filter_map handed_told xs ++ filter_map handed_told ys) 0 ≡ first_told (xs ++ ys)
apart xs ys = ap (λ (ts : List BoxTold). slice_get ts 0) (sym (filter_map-append handed_told xs ys))

pub told_first : (xs ys : List HolderView) (t : BoxTold) → Some t ≡ first_told xs → Some t ≡ first_told (xs ++ ys)
told_first xs ys t h = first_in (filter_map handed_told xs) (filter_map handed_told ys) t h ∙ apart xs ys

pub told_behind : (xs ys : List HolderView) (t : Option BoxTold) → None ≡ first_told xs → t ≡ first_told ys → t ≡ first_told (xs ++ ys)
told_behind xs ys t none h = h ∙ first_behind (filter_map handed_told xs) (filter_map handed_told ys) none ∙ apart xs ys

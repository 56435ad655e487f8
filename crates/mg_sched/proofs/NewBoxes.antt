-- User-supplied calculators: each node begins with the calculator that its job has for it.
use Rattle.std.proofs.Common.{◌≡◌, ℕ, zero, suc, ◌<◌, List, [], ◌∷◌, ◌++◌, length, map, All, Any, true, Option, Some, None, IfSome, IsSomeAnd, is_some, option_map, unwrap_or, slice_get, subst, ap, sym, refl, ◌∙◌, arith}
use Rattle.std.specs.Option.{option_and_then}
use Rattle.std.proofs.lemmas.List.{length-map}
use Rattle.std.proofs.lemmas.Option.{slice_get_within, get_or_from_slice_get}
use Rattle.mg_calc.specs.Rules.{Laws}
use Rattle.mg_calc.specs.declared.inputs.Inputs.{Inputs}
use Rattle.mg_calc.specs.declared.plan.Plan.{Plan}
use Rattle.mg_calc.specs.declared.plan_node.PlanNode.{PlanNode}
use Rattle.mg_calc.specs.Told.{BoxTold}
use Rattle.mg_route.specs.HolderView.{HolderView, holder_view}
use Rattle.mg_calc.proofs.Earlier.{get_map}
use Rattle.mg_node.specs.Begun.{IsHanded}
use Rattle.mg_node.specs.Fresh.{own_told}
use Rattle.mg_node.proofs.Lemmas.{at_each, some_same}
use Rattle.mg_sched.specs.StandsFor.{HasSpare}
use Rattle.mg_sched.specs.Made.{job_of, FitsNew, BoxesFit, first_calculator}
use Rattle.mg_sched.specs.Code.Made.{IsLeftOver, HasTaken, FindEach, first_holder}

-- Lists.

-- what is below the length is there
pub there_at : {X : Type 0} (xs : List X) (i : ℕ) → i < length xs → (x : X) × (slice_get xs i ≡ Some x)
there_at {X} [] i less = absurd (omega (arith, less))
there_at {X} (x ∷ xs) zero less = (x, refl)
there_at {X} (x ∷ xs) (suc i) less = there_at xs i (omega (arith, less))

-- what holds of what is there
holds_there : {X : Type 0} (P : X → Type 0) (o : Option X) → IsSomeAnd o P → (x : X) × ((o ≡ Some x) × P x)
holds_there {X} P None is = absurd is
holds_there {X} P (Some x) is = (x, (refl, is))

every : {X : Type 0} (P : X → Type 0) (xs : List X) → ((i : ℕ) (x : X) → slice_get xs i ≡ Some x → P x) → All P xs
every {X} P xs each i d less = (let there = there_at xs i less in subst P (sym (get_or_from_slice_get xs i there.0 d there.1)) (each i there.0 there.1))

-- Calculators.

-- the user-supplied calculators, each in its place
abbrev pub given_of : List BoxTold → List (Option BoxTold)
given_of boxes = map (λ b. Some b) boxes

-- a node's number has its calculator, which fits
box_of : (plan : Plan) (boxes : List BoxTold) (place number : ℕ) (node : PlanNode) → BoxesFit plan boxes → slice_get plan.nodes place ≡ Some node → node.box_number ≡ Some number
    → (box : BoxTold) × ((slice_get boxes number ≡ Some box) × FitsNew node box)
box_of plan boxes place number node fit there takes = holds_there (FitsNew node) (slice_get boxes number)
    (subst (λ (o : Option ℕ). IfSome o (λ n. IsSomeAnd (slice_get boxes n) (FitsNew node))) takes
    (at_each (λ (n : PlanNode). IfSome n.box_number (λ m. IsSomeAnd (slice_get boxes m) (FitsNew n))) plan.nodes place node fit there))

pub find_each : (plan : Plan) (boxes : List BoxTold) → BoxesFit plan boxes → FindEach plan.nodes (given_of boxes)
find_each plan boxes fit = every (λ (n : PlanNode). IfSome n.box_number (λ number. IsSomeAnd (slice_get (given_of boxes) number) (λ told. is_some told ≡ true))) plan.nodes
    (λ i node there. finds node i there node.box_number refl)
  where
    finds : (node : PlanNode) (i : ℕ) → slice_get plan.nodes i ≡ Some node → (o : Option ℕ) → node.box_number ≡ o → IfSome o (λ number. IsSomeAnd (slice_get (given_of boxes) number) (λ told. is_some told ≡ true))
    finds node i there None is = tt
    finds node i there (Some number) is = (let box = box_of plan boxes i number node fit there is in
        subst (λ (p : Option (Option BoxTold)). IsSomeAnd p (λ told. is_some told ≡ true)) (sym (get_map (λ b. Some b) boxes number box.0 box.1.0)) refl)

abbrev held : List BoxTold → PlanNode → Option ℕ → HolderView
held boxes node o = unwrap_or (option_map (holder_view true) (option_and_then (λ number. unwrap_or (slice_get (given_of boxes) number) None) o)) (own_told node)

-- what lies in one place is one calculator
one_box : (boxes : List BoxTold) (number other : ℕ) (box first : BoxTold) → Some number ≡ Some other → slice_get boxes number ≡ Some box → slice_get boxes other ≡ Some first → box ≡ first
one_box boxes number other box first same there found =
    let place : number ≡ other = cc in
    some_same (slice_get boxes other) box first (subst (λ (n : ℕ). slice_get boxes n ≡ Some box) place there) found

-- the calculator with which a node begins is the one that the job has for it
pub handed : {laws : Laws} (plan : Plan) (inputs : Inputs) (boxes : List BoxTold) (place : ℕ) (node : PlanNode) → BoxesFit plan boxes → slice_get plan.nodes place ≡ Some node
    → IsHanded (job_of laws plan inputs boxes) place node (first_holder (given_of boxes) node)
handed {laws} plan inputs boxes place node fit there = by_number node.box_number refl
  where
    by_number : (o : Option ℕ) → node.box_number ≡ o → IsHanded (job_of laws plan inputs boxes) place node (first_holder (given_of boxes) node)
    by_number None is = subst (IsHanded (job_of laws plan inputs boxes) place node) (ap (held boxes node) (sym is)) (record {
      there = there;
      fits = record { same_law = refl; same_shape = refl; same_handed = ap (λ (o : Option ℕ). is_some o) (sym is) };
      log = ap (λ (o : Option ℕ). option_and_then (λ number. option_and_then (λ b. b.log) (slice_get boxes number)) o) (sym is);
      kept = λ number first takes found. absurd (let clash : None ≡ Some number = sym is ∙ takes in cc);
    })
    by_number (Some number) is =
        let box = box_of plan boxes place number node fit there is in
        let gets : held boxes node (Some number) ≡ holder_view true box.0 = ap (λ (p : Option (Option BoxTold)). unwrap_or (option_map (holder_view true) (unwrap_or p None)) (own_told node)) (get_map (λ b. Some b) boxes number box.0 box.1.0) in
        subst (IsHanded (job_of laws plan inputs boxes) place node) (sym (ap (held boxes node) is ∙ gets)) (record {
          there = there;
          fits = record { same_law = box.1.1.fits.same_law; same_shape = box.1.1.fits.same_shape; same_handed = ap (λ (o : Option ℕ). is_some o) (sym is) };
          log = sym (ap (λ (o : Option ℕ). option_and_then (λ n. option_and_then (λ b. b.log) (slice_get boxes n)) o) is ∙ ap (λ (p : Option BoxTold). option_and_then (λ b. b.log) p) box.1.0);
          kept = λ other first takes found. ap (λ (b : BoxTold). b.state) (one_box boxes number other box.0 first (sym is ∙ takes) box.1.0 found);
        })

pub placed : (boxes : List BoxTold) (place : ℕ) (told : BoxTold) → slice_get (given_of boxes) place ≡ Some (Some told) → slice_get boxes place ≡ Some told
placed [] place told is = absurd cc
placed (b ∷ boxes) zero told is = some_same (Some (Some b)) _ _ refl is
placed (b ∷ boxes) (suc place) told is = placed boxes place told is

given_at : (boxes : List BoxTold) (number : ℕ) → unwrap_or (slice_get (given_of boxes) number) None ≡ slice_get boxes number
given_at [] number = refl
given_at (b ∷ boxes) zero = refl
given_at (b ∷ boxes) (suc number) = given_at boxes number

pub first_is : (boxes : List BoxTold) (node : PlanNode) → first_holder (given_of boxes) node ≡ first_calculator boxes node
first_is boxes node = ap (λ (o : Option BoxTold). unwrap_or (option_map (holder_view true) o) (own_told node)) (by_number node.box_number)
  where
    by_number : (o : Option ℕ) → option_and_then (λ number. unwrap_or (slice_get (given_of boxes) number) None) o ≡ option_and_then (λ number. slice_get boxes number) o
    by_number None = refl
    by_number (Some number) = given_at boxes number

-- what is left of them
pub spare : {laws : Laws} (plan : Plan) (inputs : Inputs) (boxes : List BoxTold) (now : List (Option BoxTold)) → BoxesFit plan boxes → IsLeftOver plan.nodes (given_of boxes) (length plan.nodes) now → HasSpare (job_of laws plan inputs boxes) now
spare {laws} plan inputs boxes now fit l = record {
  count = l.places ∙ length-map boxes (λ b. Some b);
  numbers = every (λ (n : PlanNode). IfSome n.box_number (λ place. place < length now)) plan.nodes (λ i node there. below node i there node.box_number refl);
  used = λ place gone. used place (l.taken place gone);
  unused = λ place told lies. (
    every (λ (n : PlanNode). ¬ (n.box_number ≡ Some place)) plan.nodes (λ i node there takes. (l.others place told lies).1 (record { place = i; node = node; before = slice_get_within plan.nodes i node there; there = there; takes = takes })),
    lay place told (l.others place told lies).0,
  );
}
  where
    below : (node : PlanNode) (i : ℕ) → slice_get plan.nodes i ≡ Some node → (o : Option ℕ) → node.box_number ≡ o → IfSome o (λ place. place < length now)
    below node i there None is = tt
    below node i there (Some number) is = (let box = box_of plan boxes i number node fit there is in let less = slice_get_within boxes number box.0 box.1.0 in
        let all = l.places ∙ length-map boxes (λ b. Some b) in omega (arith, less, all))

    used : (place : ℕ) → HasTaken plan.nodes (length plan.nodes) place → Any (λ n. n.box_number ≡ Some place) plan.nodes
    used place t = (t.place, t.node, slice_get_within plan.nodes t.place t.node t.there, get_or_from_slice_get plan.nodes t.place t.node t.node t.there, t.takes)

    lay : (place : ℕ) (told : BoxTold) → slice_get (given_of boxes) place ≡ Some (Some told) → slice_get boxes place ≡ Some told
    lay place told is = placed boxes place told is

-- As they lie in their places at first.

pub seen_all : {X : Type 0} (f : X → BoxTold) (xs : List X) → map (option_map f) (map (λ x. Some x) xs) ≡ given_of (map f xs)
seen_all {X} f [] = refl
seen_all {X} f (x ∷ xs) = ap (λ (os : List (Option BoxTold)). Some (f x) ∷ os) (seen_all f xs)

pub all_there : {X : Type 0} (xs : List X) → All (λ p. is_some p ≡ true) (map (λ x. Some x) xs)
all_there {X} xs = every (λ (p : Option X). is_some p ≡ true) (map (λ x. Some x) xs) (λ i o there. one xs i o there)
  where
    one : (ys : List X) (i : ℕ) (o : Option X) → slice_get (map (λ x. Some x) ys) i ≡ Some o → is_some o ≡ true
    one [] i o there = absurd cc
    one (y ∷ ys) zero o there = ap (λ (p : Option X). is_some p) (sym (some_same (Some (Some y)) _ o refl there))
    one (y ∷ ys) (suc i) o there = one ys i o there

pub laid : {X : Type 0} (now old : List (Option X)) (xs : List X) → now ≡ old ++ map (λ x. Some x) xs → old ≡ [] → now ≡ map (λ x. Some x) xs
laid {X} now old xs is none = is ∙ ap (λ (os : List (Option X)). os ++ map (λ x. Some x) xs) none

pub seen_laid : {X : Type 0} (f : X → BoxTold) (now : List (Option X)) (xs : List X) → now ≡ map (λ x. Some x) xs → map (option_map f) now ≡ given_of (map f xs)
seen_laid {X} f now xs is = ap (λ (os : List (Option X)). map (option_map f) os) is ∙ seen_all f xs

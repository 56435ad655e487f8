-- How calculators go from their places to the nodes, one node after the other.
use Rattle.std.proofs.Common.{◌≡◌, ◌≢◌, ℕ, zero, suc, ◌+◌, ◌<◌, ◌≤◌, List, [], ◌∷◌, length, length-set, map, All, AllPairs, Bool, true, false, nat_lt, Option, Some, None, IfSome, IsSome, IsSomeAnd, option_map, unwrap_or, slice_get, get_or, set, if◌then◌else◌, inl, inr, ◌⊎◌, subst, ap, sym, refl, ◌∙◌, arith}
use Rattle.std.specs.List.{AllByRecursion, filter_map, cons_option}
use Rattle.std.specs.Option.{option_and_then}
use Rattle.std.proofs.lemmas.Bool.{cases_Bool, lt-ltb, ltb-true, ltb-false}
use Rattle.std.proofs.lemmas.List.Elements.{recursion_from_All}
use Rattle.mg_value.specs.Payload.{Plain}
use Rattle.mg_settled.specs.Prefix.{StreamPrefix}
use Rattle.mg_calc.specs.declared.plan.Plan.{Plan}
use Rattle.mg_calc.specs.declared.plan_node.PlanNode.{PlanNode}
use Rattle.mg_calc.specs.Told.{BoxTold}
use Rattle.mg_route.specs.HolderView.{HolderView, holder_view}
use Rattle.mg_node.specs.Views.{EngineView}
use Rattle.mg_node.specs.Fresh.{own_told, fresh_engine}
use Rattle.mg_node.proofs.Lemmas.{at_each, get_set, set_get, some_same}
use Rattle.mg_sched.specs.Code.Made.{AtPlaces, IsEngineAt, IsLeftOver, HasTaken, FindEach, first_holder, holder_before}
use Rattle.mg_sched.proofs.AtEach.{one_changed}
use Rattle.std.proofs.lemmas.Option.{slice_get_within}

-- No two nodes take the same calculator.

get_or_at : {X : Type 0} (xs : List X) (k : ℕ) (x d : X) → slice_get xs k ≡ Some x → get_or xs k d ≡ x
get_or_at {X} [] k x d there = absurd cc
get_or_at {X} (y ∷ xs) zero x d there = cc
get_or_at {X} (y ∷ xs) (suc k) x d there = get_or_at xs k x d there

behind : (o : Option ℕ) (ns : List ℕ) (k p : ℕ) → slice_get ns k ≡ Some p → (j : ℕ) × (slice_get (cons_option o ns) j ≡ Some p)
behind None ns k p there = (k, there)
behind (Some q) ns k p there = (suc k, there)

-- a node's number stands among those that are taken
taken_there : (nodes : List PlanNode) (i p : ℕ) (node : PlanNode) → slice_get nodes i ≡ Some node → node.box_number ≡ Some p
    → (k : ℕ) × (slice_get (filter_map (λ n. n.box_number) nodes) k ≡ Some p)
taken_there [] i p node there takes = absurd cc
taken_there (n ∷ nodes) zero p node there takes =
    let same : n ≡ node = cc in
    (0, ap (λ (o : Option ℕ). slice_get (cons_option o (filter_map (λ m. m.box_number) nodes)) 0) (ap (λ (m : PlanNode). m.box_number) same ∙ takes))
taken_there (n ∷ nodes) (suc i) p node there takes = (let rest = taken_there nodes i p node there takes in behind n.box_number (filter_map (λ m. m.box_number) nodes) rest.0 p rest.1)

rest_apart : (o : Option ℕ) (ns : List ℕ) → AllPairs ◌≢◌ (cons_option o ns) → AllPairs ◌≢◌ ns
rest_apart None ns apart = apart
rest_apart (Some q) ns apart = λ i j d lt within. apart (suc i) (suc j) d (omega (arith, lt)) (omega (arith, within))

first_apart : (ns : List ℕ) (p k : ℕ) → AllPairs ◌≢◌ (p ∷ ns) → slice_get ns k ≡ Some p → ⊥
first_apart ns p k apart there = apart zero (suc k) p (omega arith) (let less = slice_get_within ns k p there in omega (arith, less)) (sym (get_or_at ns k p p there))

pub none_twice : (nodes : List PlanNode) (i j p : ℕ) (a b : PlanNode) → AllPairs ◌≢◌ (filter_map (λ n. n.box_number) nodes) → i < j
    → slice_get nodes i ≡ Some a → slice_get nodes j ≡ Some b → a.box_number ≡ Some p → b.box_number ≡ Some p → ⊥
none_twice [] i j p a b apart less first second takes takes_too = absurd cc
none_twice (n ∷ nodes) i zero p a b apart less first second takes takes_too = absurd (omega (arith, less))
none_twice (n ∷ nodes) zero (suc j) p a b apart less first second takes takes_too =
    let same : n ≡ a = cc in
    let there = taken_there nodes j p b second takes_too in
    first_apart (filter_map (λ m. m.box_number) nodes) p there.0
    (subst (λ (o : Option ℕ). AllPairs ◌≢◌ (cons_option o (filter_map (λ m. m.box_number) nodes))) (ap (λ (m : PlanNode). m.box_number) same ∙ takes) apart) there.1
none_twice (n ∷ nodes) (suc i) (suc j) p a b apart less first second takes takes_too =
    none_twice nodes i j p a b (rest_apart n.box_number (filter_map (λ m. m.box_number) nodes) apart) (omega (arith, less)) first second takes takes_too

-- a number is below another one, or not
pub below : (a b : ℕ) → ((nat_lt a b ≡ true) × (a < b)) ⊎ ((nat_lt a b ≡ false) × (b ≤ a))
below a b = elim (cases_Bool (nat_lt a b)) [ inl is ↦ inl (is, ltb-true a b is) | inr is_not ↦ inr (is_not, ltb-false a b is_not) ]

-- What is left.

-- if one of the first nodes has taken a number, it is a node before the last of them, or the last
earlier_or_last : (nodes : List PlanNode) (count number : ℕ) → HasTaken nodes (count + 1) number → HasTaken nodes count number ⊎ (node : PlanNode) × (slice_get nodes count ≡ Some node) × (node.box_number ≡ Some number)
earlier_or_last nodes count number t = elim (below t.place count) [
  | inl is ↦ inl (record { place = t.place; node = t.node; before = is.1; there = t.there; takes = t.takes })
  | inr is_not ↦ inr (let less = t.before in let past = is_not.1 in let same : t.place ≡ count = omega (arith, past, less) in (t.node, subst (λ (n : ℕ). slice_get nodes n ≡ Some t.node) same t.there, t.takes))
]

later : (nodes : List PlanNode) (count number : ℕ) → HasTaken nodes count number → HasTaken nodes (count + 1) number
later nodes count number t = (let less = t.before in record { place = t.place; node = t.node; before = omega (arith, less); there = t.there; takes = t.takes })

pub left_first : (nodes : List PlanNode) (given : List (Option BoxTold)) → ((number : ℕ) → ¬ (slice_get given number ≡ Some None)) → IsLeftOver nodes given 0 given
left_first nodes given full = record {
  places = refl;
  taken = λ number there. absurd (full number there);
  others = λ number told there. (there, λ t. (let less = t.before in omega (arith, less)));
}

-- a node without a number takes nothing
pub left_passed : (nodes : List PlanNode) (given now : List (Option BoxTold)) (count : ℕ) (node : PlanNode) → IsLeftOver nodes given count now → slice_get nodes count ≡ Some node → node.box_number ≡ None → IsLeftOver nodes given (count + 1) now
left_passed nodes given now count node l there none = record {
  places = l.places;
  taken = λ number gone. later nodes count number (l.taken number gone);
  others = λ number told lies. (
    (l.others number told lies).0,
    λ t. elim (earlier_or_last nodes count number t) [
      | inl before ↦ (l.others number told lies).1 before
      | inr last ↦ no_number node last.0 number (some_same _ node last.0 there last.1) none last.2
    ],
  );
}
  where
    no_number : (a b : PlanNode) (number : ℕ) → a ≡ b → a.box_number ≡ None → b.box_number ≡ Some number → ⊥
    no_number a b number same none takes = (let not_one : None ≡ Some number = sym none ∙ ap (λ (m : PlanNode). m.box_number) same ∙ takes in absurd cc)

-- a node with a number takes the calculator in the place of that number
pub left_taken : (nodes : List PlanNode) (given now after : List (Option BoxTold)) (count number : ℕ) (node : PlanNode) (lay : BoxTold) → IsLeftOver nodes given count now → slice_get nodes count ≡ Some node → node.box_number ≡ Some number
    → slice_get now number ≡ Some (Some lay) → after ≡ set now number None → IsLeftOver nodes given (count + 1) after
left_taken nodes given now after count number node lay l there takes lies is = subst (IsLeftOver nodes given (count + 1)) (sym is) (record {
  places = length-set now number None ∙ l.places;
  taken = λ m gone. elim (set_get now number m None None gone) [
    | inl before ↦ later nodes count m (l.taken m before)
    | inr here ↦ record { place = count; node = node; before = omega arith; there = there; takes = takes ∙ ap (λ (n : ℕ). Some n) (sym here.0) }
  ];
  others = λ m told lies_there. elim (set_get now number m None (Some told) lies_there) [
    | inl before ↦ (
      (l.others m told before).0,
      λ t. elim (earlier_or_last nodes count m t) [
        | inl earlier ↦ (l.others m told before).1 earlier
        | inr last ↦ not_here m told (some_same _ number m takes (ap (λ (n : PlanNode). n.box_number) (some_same _ node last.0 there last.1) ∙ last.2)) lies_there
      ],
    )
    | inr here ↦ absurd (not_none told here.1)
  ];
})
  where
    not_none : (told : BoxTold) → None ≡ Some told → ⊥
    not_none told same = absurd cc

    not_here : (m : ℕ) (told : BoxTold) → number ≡ m → slice_get (set now number None) m ≡ Some (Some told) → ⊥
    not_here m told same lies_there =
        let gone : slice_get (set now number None) m ≡ Some None = subst (λ (n : ℕ). slice_get (set now number None) n ≡ Some None) same (get_set now number (Some lay) None lies) in
        not_none told (some_same _ None (Some told) gone lies_there)

pub some_below : {X : Type 0} (os : List (Option X)) (n : ℕ) → IsSomeAnd (slice_get os n) (λ p. IsSome p) → n < length os
some_below {X} [] n is = absurd is
some_below {X} (o ∷ os) zero is = omega arith
some_below {X} (o ∷ os) (suc n) is = (let less = some_below os n is in omega (arith, less))

-- it finds a calculator there
pub record Finds (given now : List (Option BoxTold)) (number : ℕ) : Type 0 where
  pub told : BoxTold
  pub at_first : slice_get given number ≡ Some (Some told)
  pub lies : slice_get now number ≡ Some (Some told)

pub finds : (nodes : List PlanNode) (given now : List (Option BoxTold)) (count number : ℕ) (node : PlanNode) → IsLeftOver nodes given count now → AllPairs ◌≢◌ (filter_map (λ n. n.box_number) nodes) → FindEach nodes given
    → slice_get nodes count ≡ Some node → node.box_number ≡ Some number → Finds given now number
finds nodes given now count number node l apart find there takes = lying (slice_get now number) refl
  where
    wanted : IsSomeAnd (slice_get given number) (λ told. IsSome told)
    wanted = subst (λ (o : Option ℕ). IfSome o (λ n. IsSomeAnd (slice_get given n) (λ told. IsSome told))) takes
        (at_each (λ (n : PlanNode). IfSome n.box_number (λ m. IsSomeAnd (slice_get given m) (λ told. IsSome told))) nodes count node find there)

    none_past : (os : List (Option BoxTold)) (n : ℕ) → n < length os → slice_get os n ≡ None → ⊥
    none_past [] n less is = omega (arith, less)
    none_past (o ∷ os) zero less is = absurd cc
    none_past (o ∷ os) (suc n) less is = none_past os n (omega (arith, less)) is

    lying : (o : Option (Option BoxTold)) → slice_get now number ≡ o → Finds given now number
    lying None is = (let same = l.places in let less = some_below given number wanted in absurd (none_past now number (omega (arith, same, less)) is))
    lying (Some None) is = (let t = l.taken number is in absurd (none_twice nodes t.place count number t.node node apart t.before t.there there t.takes takes))
    lying (Some (Some told)) is = record { told = told; at_first = (l.others number told is).0; lies = is }

-- Engines.

before_first : (given : List (Option BoxTold)) (place : ℕ) (node : PlanNode) → own_told node ≡ holder_before given 0 place node
before_first given place node = elim (below place 0) [
  | inl is ↦ (let less = is.1 in absurd (omega (arith, less)))
  | inr is_not ↦ ap (λ (b : Bool). if b then first_holder given node else own_told node) (sym is_not.0)
]

before_other : (given : List (Option BoxTold)) (count place : ℕ) (node : PlanNode) → place ≢ count → holder_before given count place node ≡ holder_before given (count + 1) place node
before_other given count place node other = elim (below place count) [
  | inl is ↦ (let less = is.1 in ap (λ (b : Bool). if b then first_holder given node else own_told node) (is.0 ∙ sym (lt-ltb place (count + 1) (omega (arith, less)))))
  | inr is_not ↦ elim (below place (count + 1)) [
    | inl more ↦ (let past = is_not.1 in let less = more.1 in absurd (other (omega (arith, past, less))))
    | inr none ↦ ap (λ (b : Bool). if b then first_holder given node else own_told node) (is_not.0 ∙ sym none.0)
  ]
]

before_all : (given : List (Option BoxTold)) (count place : ℕ) (node : PlanNode) → place < count → holder_before given count place node ≡ first_holder given node
before_all given count place node less = ap (λ (b : Bool). if b then first_holder given node else own_told node) (lt-ltb place count less)

-- an engine's calculator is another one
pub told_same : (plan : Plan) (streams : List (StreamPrefix Plain)) (told other : ℕ → PlanNode → HolderView) (place : ℕ) (engine : EngineView) → IsEngineAt plan streams told place engine
    → ((node : PlanNode) → slice_get plan.nodes place ≡ Some node → told place node ≡ other place node) → IsEngineAt plan streams other place engine
told_same plan streams told other place engine at same = record {
  node = λ node there. at.node node there ∙ ap (λ (t : HolderView). fresh_engine node place t) (same node there);
  input = at.input;
}

pub engines_first : (plan : Plan) (streams : List (StreamPrefix Plain)) (given : List (Option BoxTold)) (engines : List EngineView) → AtPlaces (IsEngineAt plan streams (λ _ node. own_told node)) engines
    → AtPlaces (IsEngineAt plan streams (holder_before given 0)) engines
engines_first plan streams given engines all place engine there =
    told_same plan streams (λ _ node. own_told node) (holder_before given 0) place engine (all place engine there) (λ node at. before_first given place node)

pub engines_last : (plan : Plan) (streams : List (StreamPrefix Plain)) (given : List (Option BoxTold)) (engines : List EngineView) (count : ℕ) → count ≡ length plan.nodes → AtPlaces (IsEngineAt plan streams (holder_before given count)) engines
    → AtPlaces (IsEngineAt plan streams (λ _ node. first_holder given node)) engines
engines_last plan streams given engines count all_nodes all place engine there =
    told_same plan streams (holder_before given count) (λ _ node. first_holder given node) place engine (all place engine there)
    (λ node at. before_all given count place node (let less = slice_get_within plan.nodes place node at in omega (arith, less, all_nodes)))

pub engines_passed : (plan : Plan) (streams : List (StreamPrefix Plain)) (given : List (Option BoxTold)) (engines : List EngineView) (count : ℕ) (node : PlanNode) → slice_get plan.nodes count ≡ Some node → node.box_number ≡ None
    → AtPlaces (IsEngineAt plan streams (holder_before given count)) engines → AtPlaces (IsEngineAt plan streams (holder_before given (count + 1))) engines
engines_passed plan streams given engines count node there none all place engine lies =
    told_same plan streams (holder_before given count) (holder_before given (count + 1)) place engine (all place engine lies) same
  where
    own : (m : PlanNode) → node ≡ m → first_holder given m ≡ own_told m
    own m is = ap (λ (o : Option ℕ). unwrap_or (option_map (holder_view true) (option_and_then (λ number. unwrap_or (slice_get given number) None) o)) (own_told m)) (ap (λ (n : PlanNode). n.box_number) (sym is) ∙ none)

    either : (b : Bool) (m : PlanNode) → first_holder given m ≡ own_told m → (if b then first_holder given m else own_told m) ≡ own_told m
    either true m is = is
    either false m is = refl

    same : (m : PlanNode) → slice_get plan.nodes place ≡ Some m → holder_before given count place m ≡ holder_before given (count + 1) place m
    same m at = elim (below place count) [
      | inl is ↦ (let less = is.1 in before_other given count place m (λ e. omega (arith, less, e)))
      | inr is_not ↦ elim (below count place) [
        | inl past ↦ (let less = past.1 in before_other given count place m (λ e. omega (arith, less, e)))
        | inr not_past ↦ (let least = is_not.1 in let most = not_past.1 in let here : place ≡ count = omega (arith, least, most) in
            let is = own m (some_same _ node m there (subst (λ (n : ℕ). slice_get plan.nodes n ≡ Some m) here at)) in
            either (nat_lt place count) m is ∙ sym (either (nat_lt place (count + 1)) m is))
      ]
    ]

-- the engine that is handed its calculator
pub engines_taken : (plan : Plan) (streams : List (StreamPrefix Plain)) (given : List (Option BoxTold)) (engines : List EngineView) (count number : ℕ) (node : PlanNode) (told : BoxTold) (engine engine_now : EngineView) → slice_get plan.nodes count ≡ Some node
    → node.box_number ≡ Some number → slice_get given number ≡ Some (Some told) → slice_get engines count ≡ Some engine
    → ((held : HolderView) → engine ≡ fresh_engine node count held → engine_now ≡ fresh_engine node count (holder_view true told))
    → AtPlaces (IsEngineAt plan streams (holder_before given count)) engines → AtPlaces (IsEngineAt plan streams (holder_before given (count + 1))) (set engines count engine_now)
engines_taken plan streams given engines count number node told engine engine_now there takes at_first lies handed all =
    one_changed (IsEngineAt plan streams (holder_before given count)) (IsEngineAt plan streams (holder_before given (count + 1))) engines count engine_now all
    (λ i other differs at. told_same plan streams (holder_before given count) (holder_before given (count + 1)) i other at (λ m is. before_other given count i m differs))
    (record {
      node = λ m is. fresh m (some_same _ node m there is);
      input = λ input s place_is is. (let less = slice_get_within plan.nodes count node there in absurd (omega (arith, less, place_is)));
    })
  where
    before : engine ≡ fresh_engine node count (holder_before given count count node)
    before = (all count engine lies).node node there

    holder : (m : PlanNode) → node ≡ m → holder_view true told ≡ first_holder given m
    holder m same = sym (ap (λ (o : Option ℕ). unwrap_or (option_map (holder_view true) (option_and_then (λ number. unwrap_or (slice_get given number) None) o)) (own_told m)) (ap (λ (n : PlanNode). n.box_number) (sym same) ∙ takes)
        ∙ ap (λ (o : Option (Option BoxTold)). unwrap_or (option_map (holder_view true) (unwrap_or o None)) (own_told m)) at_first)

    fresh : (m : PlanNode) → node ≡ m → engine_now ≡ fresh_engine m count (holder_before given (count + 1) count m)
    fresh m same = handed (holder_before given count count node) before ∙ ap (λ (n : PlanNode). fresh_engine n count (holder_view true told)) same
        ∙ ap (λ (t : HolderView). fresh_engine m count t) (holder m same ∙ sym (before_all given (count + 1) count m (omega arith)))

-- Places.

pub map_set : {X Y : Type 0} (f : X → Y) (xs : List X) (k : ℕ) (x : X) → map f (set xs k x) ≡ set (map f xs) k (f x)
map_set {X} {Y} f [] k x = refl
map_set {X} {Y} f (y ∷ xs) zero x = refl
map_set {X} {Y} f (y ∷ xs) (suc k) x = ap (λ (ys : List Y). f y ∷ ys) (map_set f xs k x)

-- if each place has something, no place that is seen is empty
pub all_full : {X Y : Type 0} (f : X → Y) (xs : List (Option X)) → All (λ p. IsSome p) xs → (number : ℕ) → ¬ (slice_get (map (option_map f) xs) number ≡ Some None)
all_full {X} {Y} f xs full number = go xs (recursion_from_All (λ (p : Option X). IsSome p) xs full) number
  where
    one : (o : Option X) → IsSome o → option_map f o ≡ None → ⊥
    one None is none = absurd cc
    one (Some x) is none = absurd cc

    go : (ys : List (Option X)) → AllByRecursion (λ p. IsSome p) ys → (n : ℕ) → slice_get (map (option_map f) ys) n ≡ Some None → ⊥
    go [] a n is = absurd cc
    go (y ∷ ys) a zero is = one y a.0 (some_same (Some (option_map f y)) _ _ refl is)
    go (y ∷ ys) a (suc n) is = go ys a.1 n is

-- what is seen at a place is there
pub seen_there : {X Y : Type 0} (f : X → Y) (xs : List (Option X)) (number : ℕ) (y : Y) → slice_get (map (option_map f) xs) number ≡ Some (Some y) → IsSomeAnd (slice_get xs number) (λ p. IsSome p)
seen_there {X} {Y} f [] number y is = absurd cc
seen_there {X} {Y} f (None ∷ xs) zero y is = absurd cc
seen_there {X} {Y} f (Some x ∷ xs) zero y is = refl
seen_there {X} {Y} f (x ∷ xs) (suc number) y is = seen_there f xs number y is

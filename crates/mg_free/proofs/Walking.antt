-- A walk over the nodes of a plan, and the numbers in the core of the nodes that are met.
use Rattle.std.proofs.Common.{◌≡◌, ℕ, zero, suc, ◌+◌, ◌<◌, ◌≤◌, true, false, not, List, [], ◌∷◌, ◌++◌, map, filter, length, length-append, slice_get, All, Option, None, Some, unwrap_or, option_map, refl, sym, ap, ap₂, ◌∙◌, subst, inl, inr, arith}
use Rattle.std.specs.List.{AllZip, enumerate_from}
use Rattle.std.proofs.lemmas.Bool.{cases_Bool}
use Rattle.std.proofs.lemmas.Bool.Decides.{nat_tests}
use Rattle.std.proofs.lemmas.List.{append_assoc, append-nil}
use Rattle.std.proofs.lemmas.List.Elements.{All-from_recursion}
use Rattle.mg_calc.specs.declared.plan.Plan.{Plan}
use Rattle.mg_calc.specs.declared.plan_node.PlanNode.{PlanNode}
use Rattle.mg_calc.proofs.Earlier.{behind, some_same}
use Rattle.mg_free.specs.Core.{is_free, is_core, is_free_at, core_numbers, place_in, node_number}
use Rattle.mg_free.proofs.Placing.{Among, AreApart, all_among, filter_in, filter_out, filter-both, place_behind, place_here}

-- the numbers of the nodes of the core, counted from one on
abbrev pub core_from : ℕ → List PlanNode → List ℕ
core_from n nodes = map (λ e. e.0) (filter (λ e. is_core e.1) (enumerate_from n nodes))

pub core_in : (n : ℕ) (node : PlanNode) (nodes : List PlanNode) → is_core node ≡ true → core_from n (node ∷ nodes) ≡ n ∷ core_from (n + 1) nodes
core_in n node nodes is = ap (λ (l : List (ℕ × PlanNode)). map (λ e. e.0) l) (filter_in (λ (e : ℕ × PlanNode). is_core e.1) (n, node) (enumerate_from (n + 1) nodes) is)

pub core_out : (n : ℕ) (node : PlanNode) (nodes : List PlanNode) → is_core node ≡ false → core_from n (node ∷ nodes) ≡ core_from (n + 1) nodes
core_out n node nodes isnt = ap (λ (l : List (ℕ × PlanNode)). map (λ e. e.0) l) (filter_out (λ (e : ℕ × PlanNode). is_core e.1) (n, node) (enumerate_from (n + 1) nodes) isnt)

-- they lie between the first and the last number
pub core_within : (n k : ℕ) (nodes : List PlanNode) → Among k (core_from n nodes) → (n ≤ k) × (k < n + length nodes)
core_within n k [] a = absurd a
core_within n k (node ∷ nodes) a = elim (cases_Bool (is_core node)) [
  | inl is ↦ elim (subst (Among k) (core_in n node nodes is) a) [
    | inl same ↦ (omega (arith, same), omega (arith, same))
    | inr later ↦ (let r = core_within (n + 1) k nodes later in let l = r.0 in let m = r.1 in (omega (arith, l), omega (arith, m)))
  ]
  | inr isnt ↦ (let r = core_within (n + 1) k nodes (subst (Among k) (core_out n node nodes isnt) a) in let l = r.0 in let m = r.1 in (omega (arith, l), omega (arith, m)))
]

-- none stands twice
pub core_apart : (n : ℕ) (nodes : List PlanNode) → AreApart (core_from n nodes)
core_apart n [] = tt
core_apart n (node ∷ nodes) = elim (cases_Bool (is_core node)) [
  | inl is ↦ subst AreApart (sym (core_in n node nodes is)) ((λ a. (let l = (core_within (n + 1) n nodes a).0 in absurd (omega (arith, l)))), core_apart (n + 1) nodes)
  | inr isnt ↦ subst AreApart (sym (core_out n node nodes isnt)) (core_apart (n + 1) nodes)
]

-- there are as many as nodes of the core
pub core_long : (n : ℕ) (nodes : List PlanNode) → length (core_from n nodes) ≡ length (filter is_core nodes)
core_long n [] = refl
core_long n (node ∷ nodes) = elim (cases_Bool (is_core node)) [
  | inl is ↦ ap (λ (l : List ℕ). length l) (core_in n node nodes is) ∙ (ap suc (core_long (n + 1) nodes) ∙ sym (ap (λ (l : List PlanNode). length l) (filter_in is_core node nodes is)))
  | inr isnt ↦ ap (λ (l : List ℕ). length l) (core_out n node nodes isnt) ∙ (core_long (n + 1) nodes ∙ sym (ap (λ (l : List PlanNode). length l) (filter_out is_core node nodes isnt)))
]

-- the numbers of some nodes, and of the nodes after them
pub core_parts : (n : ℕ) (front nodes : List PlanNode) → core_from n (front ++ nodes) ≡ core_from n front ++ core_from (n + length front) nodes
core_parts n [] nodes = ap (λ k. core_from k nodes) (let e : n ≡ n + 0 = omega arith in e)
core_parts n (node ∷ front) nodes =
    let e : (n + 1) + length front ≡ n + suc (length front) = omega arith in
    let rest = core_parts (n + 1) front nodes ∙ ap (λ k. core_from (n + 1) front ++ core_from k nodes) e in
    elim (cases_Bool (is_core node)) [
      | inl is ↦ core_in n node (front ++ nodes) is ∙ (ap (λ (l : List ℕ). n ∷ l) rest ∙ sym (ap (λ (l : List ℕ). l ++ core_from (n + suc (length front)) nodes) (core_in n node front is)))
      | inr isnt ↦ core_out n node (front ++ nodes) isnt ∙ (rest ∙ sym (ap (λ (l : List ℕ). l ++ core_from (n + suc (length front)) nodes) (core_out n node front isnt)))
    ]

-- a node of the core has its number among them
pub core_among : (n j : ℕ) (nodes : List PlanNode) (node : PlanNode) → slice_get nodes j ≡ Some node → is_core node ≡ true → Among (n + j) (core_from n nodes)
core_among n j [] node e is = absurd cc
core_among n zero (x ∷ nodes) node e is =
    let same = some_same x node e in
    let here : is_core x ≡ true = ap is_core same ∙ is in
    subst (Among (n + 0)) (sym (core_in n x nodes here)) (inl (let z : n ≡ n + 0 = omega arith in z))
core_among n (suc j) (x ∷ nodes) node e is =
    let later : Among (n + suc j) (core_from (n + 1) nodes) = subst (λ (k : ℕ). Among k (core_from (n + 1) nodes)) (let z : (n + 1) + j ≡ n + suc j = omega arith in z) (core_among (n + 1) j nodes node e is) in
    elim (cases_Bool (is_core x)) [
      | inl passes ↦ subst (Among (n + suc j)) (sym (core_in n x nodes passes)) (inr later)
      | inr isnt ↦ subst (Among (n + suc j)) (sym (core_out n x nodes isnt)) later
    ]

-- and what has a number among them is a node of the core
pub record CoreAt (nodes : List PlanNode) (n k : ℕ) : Type 0 where
  pub place : ℕ
  pub node : PlanNode
  pub number : n + place ≡ k
  pub stands : slice_get nodes place ≡ Some node
  pub core : is_core node ≡ true

pub core_given : (n k : ℕ) (nodes : List PlanNode) → Among k (core_from n nodes) → CoreAt nodes n k
core_given n k [] a = absurd a
core_given n k (node ∷ nodes) a = elim (cases_Bool (is_core node)) [
  | inl is ↦ elim (subst (Among k) (core_in n node nodes is) a) [
    | inl same ↦ record { place = 0; node = node; number = (let z : n + 0 ≡ n = omega arith in z ∙ same); stands = refl; core = is }
    | inr later ↦ behind_one n k node nodes (core_given (n + 1) k nodes later)
  ]
  | inr isnt ↦ behind_one n k node nodes (core_given (n + 1) k nodes (subst (Among k) (core_out n node nodes isnt) a))
]
  where
    behind_one : (n k : ℕ) (node : PlanNode) (nodes : List PlanNode) → CoreAt nodes (n + 1) k → CoreAt (node ∷ nodes) n k
    behind_one n k node nodes c = record { place = suc c.place; node = c.node; number = (let z : n + suc c.place ≡ (n + 1) + c.place = omega arith in z ∙ c.number); stands = c.stands; core = c.core }

pub core_stays : (plan : Plan) (n : ℕ) → Among n (core_numbers plan) → not (is_free_at plan n) ≡ true
core_stays plan n a =
    let c = core_given 0 n plan.nodes a in
    let place : c.place ≡ n = (let number = c.number in omega (arith, number)) in
    ap (λ (o : Option PlanNode). not (unwrap_or (option_map is_free o) false)) (subst (λ (k : ℕ). slice_get plan.nodes k ≡ Some c.node) place c.stands) ∙ c.core

-- all numbers of the core's nodes are below the count of nodes
pub core_below : (plan : Plan) → All (λ n. n < length plan.nodes) (core_numbers plan)
core_below plan =
    All-from_recursion (λ n. n < length plan.nodes) (core_numbers plan)
    (all_among (λ n. n < length plan.nodes) (core_numbers plan) (λ n a. let l = (core_within 0 n plan.nodes a).1 in omega (arith, l)))

-- each number beside its node
pub core_zipped : (n : ℕ) (nodes : List PlanNode) (P : ℕ → PlanNode → Type 0) → ((j : ℕ) (node : PlanNode) → slice_get nodes j ≡ Some node → P (n + j) node)
    → AllZip P (core_from n nodes) (filter is_core nodes)
core_zipped n [] P each = tt
core_zipped n (node ∷ nodes) P each =
    let rest = core_zipped (n + 1) nodes P (λ j x e. subst (λ (k : ℕ). P k x) (let z : n + suc j ≡ (n + 1) + j = omega arith in z) (each (suc j) x e)) in
    elim (cases_Bool (is_core node)) [
      | inl is ↦ subst (λ (l : List ℕ). AllZip P l (filter is_core (node ∷ nodes))) (sym (core_in n node nodes is))
          (subst (λ (l : List PlanNode). AllZip P (n ∷ core_from (n + 1) nodes) l) (sym (filter_in is_core node nodes is))
          (subst (λ (k : ℕ). P k node) (let z : n + 0 ≡ n = omega arith in z) (each 0 node refl), rest))
      | inr isnt ↦ subst (λ (l : List ℕ). AllZip P l (filter is_core (node ∷ nodes))) (sym (core_out n node nodes isnt))
          (subst (λ (l : List PlanNode). AllZip P (core_from (n + 1) nodes) l) (sym (filter_out is_core node nodes isnt)) rest)
    ]

-- A walk: so many nodes of a plan and so many of its core have been met, and these come next.
pub record Walk (plan : Plan) (n m : ℕ) (nodes : List PlanNode) : Type 0 where
  pub front : List PlanNode
  pub whole : plan.nodes ≡ front ++ nodes
  pub met : length front ≡ n
  pub core : length (filter is_core front) ≡ m

pub walk_begins : (plan : Plan) → Walk plan 0 0 plan.nodes
walk_begins plan = record { front = []; whole = refl; met = refl; core = refl }

walk_on : (plan : Plan) (n m k : ℕ) (node : PlanNode) (nodes : List PlanNode) (w : Walk plan n m (node ∷ nodes)) → length (filter is_core (node ∷ [])) ≡ k → Walk plan (n + 1) (m + k) nodes
walk_on plan n m k node nodes w e = record {
  front = w.front ++ node ∷ [];
  whole = w.whole ∙ sym (append_assoc w.front (node ∷ []) nodes);
  met = length-append w.front (node ∷ []) ∙ ap (λ i. i + 1) w.met;
  core =
      ap (λ (l : List PlanNode). length l) (filter-both is_core w.front (node ∷ []))
      ∙ (length-append (filter is_core w.front) (filter is_core (node ∷ [])) ∙ ap₂ (λ (i j : ℕ). i + j) w.core e);
}

pub walk_core : (plan : Plan) (n m : ℕ) (node : PlanNode) (nodes : List PlanNode) → Walk plan n m (node ∷ nodes) → is_core node ≡ true → Walk plan (n + 1) (m + 1) nodes
walk_core plan n m node nodes w is = walk_on plan n m 1 node nodes w (ap (λ (l : List PlanNode). length l) (filter_in is_core node [] is))

pub walk_free : (plan : Plan) (n m : ℕ) (node : PlanNode) (nodes : List PlanNode) → Walk plan n m (node ∷ nodes) → is_core node ≡ false → Walk plan (n + 1) m nodes
walk_free plan n m node nodes w isnt =
    subst (λ (k : ℕ). Walk plan (n + 1) k nodes) (let z : m + 0 ≡ m = omega arith in z)
    (walk_on plan n m 0 node nodes w (ap (λ (l : List PlanNode). length l) (filter_out is_core node [] isnt)))

-- the node that comes next
pub walk_node : (plan : Plan) (n m : ℕ) (node : PlanNode) (nodes : List PlanNode) → Walk plan n m (node ∷ nodes) → slice_get plan.nodes n ≡ Some node
walk_node plan n m node nodes w =
    subst (λ (k : ℕ). slice_get plan.nodes k ≡ Some node) w.met (subst (λ (l : List PlanNode). slice_get l (length w.front) ≡ Some node) (sym w.whole) (behind w.front nodes node))

pub walk_is_free : (plan : Plan) (n m : ℕ) (node : PlanNode) (nodes : List PlanNode) → Walk plan n m (node ∷ nodes) → is_free_at plan n ≡ is_free node
walk_is_free plan n m node nodes w = ap (λ (o : Option PlanNode). unwrap_or (option_map is_free o) false) (walk_node plan n m node nodes w)

-- the number of the next in the core
walk_number : (plan : Plan) (n m : ℕ) (nodes : List PlanNode) → Walk plan n m nodes → place_in (core_from n nodes) n ≡ 0 → node_number plan n ≡ m
walk_number plan n m nodes w first =
    let all : core_numbers plan ≡ core_from 0 w.front ++ core_from n nodes =
    ap (core_from 0) w.whole ∙ (core_parts 0 w.front nodes ∙ ap (λ k. core_from 0 w.front ++ core_from k nodes) (let met = w.met in let z : 0 + length w.front ≡ n = omega (arith, met) in z)) in
    let past : ¬ (Among n (core_from 0 w.front)) = λ a. (let l = (core_within 0 n w.front a).1 in let met = w.met in omega (arith, l, met)) in
    let at = place_behind n (core_from 0 w.front) (core_from n nodes) past in
    let long = core_long 0 w.front in
    let core = w.core in
    ap (λ (l : List ℕ). place_in l n) all ∙ (let z : place_in (core_from 0 w.front ++ core_from n nodes) n ≡ m = omega (arith, at, first, long, core) in z)

pub walk_core_number : (plan : Plan) (n m : ℕ) (node : PlanNode) (nodes : List PlanNode) → Walk plan n m (node ∷ nodes) → is_core node ≡ true → node_number plan n ≡ m
walk_core_number plan n m node nodes w is =
    walk_number plan n m (node ∷ nodes) w
    (ap (λ (l : List ℕ). place_in l n) (core_in n node nodes is) ∙ place_here n n (core_from (n + 1) nodes) (grind (arith, nat_tests)))

-- past the last node comes the collector
pub walk_end_number : (plan : Plan) (n m : ℕ) → Walk plan n m [] → node_number plan n ≡ m
walk_end_number plan n m w = walk_number plan n m [] w refl

pub none_past : {X : Type 0} (xs : List X) → slice_get xs (length xs) ≡ None
none_past [] = refl
none_past (x ∷ xs) = none_past xs

pub walk_end : (plan : Plan) (n m : ℕ) → Walk plan n m [] → length plan.nodes ≡ n
walk_end plan n m w = ap (λ (l : List PlanNode). length l) (w.whole ∙ append-nil w.front) ∙ w.met

pub walk_end_free : (plan : Plan) → is_free_at plan (length plan.nodes) ≡ false
walk_end_free plan = ap (λ (o : Option PlanNode). unwrap_or (option_map is_free o) false) (none_past plan.nodes)

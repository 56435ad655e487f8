-- Rounds in which some nodes are held: their outputs stay as they are, whatever their inputs are.
use Rattle.std.proofs.Common.{◌≡◌, ℕ, zero, suc, ◌+◌, ◌==◌, length, List, [], ◌∷◌, ◌++◌, map, Option, Some, None, IfSome, IsSome, unwrap_or, slice_get, refl, sym, ap, ap₂, subst, ◌∙◌, arith, inl, inr, if◌then◌else◌}
use Rattle.std.specs.List.{AllByRecursion}
use Rattle.std.proofs.lemmas.List.FromFn.{length-map-range_with_len}
use Rattle.std.proofs.lemmas.Bool.Decides.{eqb_tells}
use Rattle.mg_value.specs.Payload.{Plain}
use Rattle.mg_settled.specs.Prefix.{StreamPrefix, IsPrefix}
use Rattle.mg_settled.specs.Extension.{AreExtendedBy}
use Rattle.mg_settled.proofs.Lemmas.{all_by_themselves}
use Rattle.mg_calc.specs.declared.law.Law.{Law}
use Rattle.mg_calc.specs.declared.law.Law.TheVariants.{Loopback}
use Rattle.mg_calc.specs.declared.plan_node.PlanNode.{PlanNode}
use Rattle.mg_calc.specs.declared.plan_stream.Producer.{Producer}
use Rattle.mg_calc.specs.declared.plan_stream.Producer.TheVariants.{Input, Node}
use Rattle.mg_calc.specs.Plan.{producers, numbers}
use Rattle.mg_calc.specs.Equations.{Job, outcome_of}
use Rattle.mg_calc.proofs.Rounds.{IsKnown, outcome_follows, outcome_keeps, outcome_has_outputs}
use Rattle.mg_calc.proofs.Positions.{Agree, agree_both, agree_same, agree_parts, parts, givers, GivesAll, GiveSame}
use Rattle.mg_calc.proofs.Earlier.{KnownBy, at_place}

-- what holds of each node, by its number
abbrev pub OfNodes : List PlanNode → (ℕ → PlanNode → Type 0) → Type 0
OfNodes nodes P = (k : ℕ) (node : PlanNode) → slice_get nodes k ≡ Some node → P k node

-- the outputs of the nodes that are held
abbrev pub Held : Type 0
Held = ℕ → Option (List (StreamPrefix Plain))

abbrev pub given : Job → Held → List (StreamPrefix Plain) → ℕ → PlanNode → List (StreamPrefix Plain)
given job held xs k node = unwrap_or (held k) (outcome_of job xs node).outputs

abbrev pub held_round : Job → Held → List (StreamPrefix Plain) → List (StreamPrefix Plain)
held_round job held xs = job.inputs.streams ++ parts (given job held xs) 0 job.plan.nodes

-- the held outputs are prefixes, one for each output of the node
abbrev pub HeldFits : Job → Held → Type 0
HeldFits job held = OfNodes job.plan.nodes (λ k node. IfSome (held k) (λ outs. (length outs ≡ length node.outputs) × AllByRecursion IsPrefix outs))

-- from what holds of each node to their list
of_rest : (nodes : List PlanNode) (n : PlanNode) (from : ℕ) (P : ℕ → PlanNode → Type 0)
    → OfNodes (n ∷ nodes) (λ k node. P (from + k) node) → OfNodes nodes (λ k node. P (from + 1 + k) node)
of_rest nodes n from P all k node e = subst (λ (i : ℕ). P i node) (let s : from + suc k ≡ from + 1 + k = omega arith in s) (all (suc k) node e)

of_first : (nodes : List PlanNode) (n : PlanNode) (from : ℕ) (P : ℕ → PlanNode → Type 0) → OfNodes (n ∷ nodes) (λ k node. P (from + k) node) → P from n
of_first nodes n from P all = subst (λ (i : ℕ). P i n) (let s : from + 0 ≡ from = omega arith in s) (all zero n refl)

parts_same_from : (f g : ℕ → PlanNode → List (StreamPrefix Plain)) (from : ℕ) (nodes : List PlanNode) → OfNodes nodes (λ k node. f (from + k) node ≡ g (from + k) node) → parts f from nodes ≡ parts g from nodes
parts_same_from f g from [] all = refl
parts_same_from f g from (n ∷ nodes) all =
    ap₂ (λ (a b : List (StreamPrefix Plain)). a ++ b) (of_first nodes n from (λ k node. f k node ≡ g k node) all)
    (parts_same_from f g (from + 1) nodes (of_rest nodes n from (λ k node. f k node ≡ g k node) all))

pub from_zero : (nodes : List PlanNode) (P : ℕ → PlanNode → Type 0) → OfNodes nodes P → OfNodes nodes (λ k node. P (0 + k) node)
from_zero nodes P all k node e = subst (λ (i : ℕ). P i node) (let s : k ≡ 0 + k = omega arith in s) (all k node e)

pub parts_same : (f g : ℕ → PlanNode → List (StreamPrefix Plain)) (nodes : List PlanNode) → OfNodes nodes (λ k node. f k node ≡ g k node) → parts f 0 nodes ≡ parts g 0 nodes
parts_same f g nodes all = parts_same_from f g 0 nodes (from_zero nodes (λ k node. f k node ≡ g k node) all)

both_extend : (ps qs cs ds : List (StreamPrefix Plain)) → AreExtendedBy ps qs → AreExtendedBy cs ds → AreExtendedBy (ps ++ cs) (qs ++ ds)
both_extend [] [] cs ds e f = f
both_extend [] (q ∷ qs) cs ds e f = absurd e
both_extend (p ∷ ps) [] cs ds e f = absurd e
both_extend (p ∷ ps) (q ∷ qs) cs ds e f = (e.0, both_extend ps qs cs ds e.1 f)

both_keep : (ps qs : List (StreamPrefix Plain)) → AllByRecursion IsPrefix ps → AllByRecursion IsPrefix qs → AllByRecursion IsPrefix (ps ++ qs)
both_keep [] qs e f = f
both_keep (p ∷ ps) qs e f = (e.0, both_keep ps qs e.1 f)

parts_extend_from : (f g : ℕ → PlanNode → List (StreamPrefix Plain)) (from : ℕ) (nodes : List PlanNode) → OfNodes nodes (λ k node. AreExtendedBy (f (from + k) node) (g (from + k) node)) → AreExtendedBy (parts f from nodes) (parts g from nodes)
parts_extend_from f g from [] all = tt
parts_extend_from f g from (n ∷ nodes) all =
    both_extend (f from n) (g from n) _ _ (of_first nodes n from (λ k node. AreExtendedBy (f k node) (g k node)) all)
    (parts_extend_from f g (from + 1) nodes (of_rest nodes n from (λ k node. AreExtendedBy (f k node) (g k node)) all))

parts_keep_from : (f : ℕ → PlanNode → List (StreamPrefix Plain)) (from : ℕ) (nodes : List PlanNode) → OfNodes nodes (λ k node. AllByRecursion IsPrefix (f (from + k) node)) → AllByRecursion IsPrefix (parts f from nodes)
parts_keep_from f from [] all = tt
parts_keep_from f from (n ∷ nodes) all =
    both_keep (f from n) _ (of_first nodes n from (λ k node. AllByRecursion IsPrefix (f k node)) all)
    (parts_keep_from f (from + 1) nodes (of_rest nodes n from (λ k node. AllByRecursion IsPrefix (f k node)) all))

pub gives_all_from : (f : ℕ → PlanNode → List (StreamPrefix Plain)) (from : ℕ) (nodes : List PlanNode) → OfNodes nodes (λ k node. length (f (from + k) node) ≡ length node.outputs) → GivesAll f from nodes
gives_all_from f from [] all = tt
gives_all_from f from (n ∷ nodes) all = (
  of_first nodes n from (λ k node. length (f k node) ≡ length node.outputs) all,
  gives_all_from f (from + 1) nodes (of_rest nodes n from (λ k node. length (f k node) ≡ length node.outputs) all),
)

pub give_same_from : (K : Producer → Type 0) (f g : ℕ → PlanNode → List (StreamPrefix Plain)) (from : ℕ) (nodes : List PlanNode) → OfNodes nodes (λ k node. (port : ℕ) → K (Node (from + k) port) → f (from + k) node ≡ g (from + k) node) → GiveSame K f g from nodes
give_same_from K f g from [] all = tt
give_same_from K f g from (n ∷ nodes) all = (
  of_first nodes n from (λ k node. (port : ℕ) → K (Node k port) → f k node ≡ g k node) all,
  give_same_from K f g (from + 1) nodes (of_rest nodes n from (λ k node. (port : ℕ) → K (Node k port) → f k node ≡ g k node) all),
)

-- what is known of each node
pub node_loops : (job : Job) → IsKnown job → OfNodes job.plan.nodes (λ k node. node.law ≡ Loopback → length node.outputs ≡ 1)
node_loops job known k node e = at_place (λ (n : PlanNode). n.law ≡ Loopback → length n.outputs ≡ 1) job.plan.nodes k node known.loops e

-- held rounds follow their streams, keep prefixes and have all outputs
pub held_follow : (job : Job) (held : Held) (xs ys : List (StreamPrefix Plain)) → IsKnown job → AllByRecursion IsPrefix xs → AllByRecursion IsPrefix ys → AreExtendedBy xs ys
    → AreExtendedBy (held_round job held xs) (held_round job held ys)
held_follow job held xs ys known kx ky e =
    both_extend job.inputs.streams job.inputs.streams _ _ (all_by_themselves job.inputs.streams)
    (parts_extend_from (given job held xs) (given job held ys) 0 job.plan.nodes
    (from_zero job.plan.nodes (λ k node. AreExtendedBy (given job held xs k node) (given job held ys k node))
    (λ k node at. follows (held k) (outcome_of job xs node).outputs (outcome_of job ys node).outputs (outcome_follows job node xs ys kx ky e))))
  where
    follows : (h : Option (List (StreamPrefix Plain))) (a b : List (StreamPrefix Plain)) → AreExtendedBy a b → AreExtendedBy (unwrap_or h a) (unwrap_or h b)
    follows (Some outs) a b e = all_by_themselves outs
    follows None a b e = e

long_by : (h : Option (List (StreamPrefix Plain))) (n : ℕ) (a : List (StreamPrefix Plain)) → IfSome h (λ outs. (length outs ≡ n) × AllByRecursion IsPrefix outs) → length a ≡ n → length (unwrap_or h a) ≡ n
long_by (Some outs) n a f k = f.0
long_by None n a f k = k

keeps_by : (h : Option (List (StreamPrefix Plain))) (n : ℕ) (a : List (StreamPrefix Plain)) → IfSome h (λ outs. (length outs ≡ n) × AllByRecursion IsPrefix outs) → AllByRecursion IsPrefix a → AllByRecursion IsPrefix (unwrap_or h a)
keeps_by (Some outs) n a f k = f.1
keeps_by None n a f k = k

-- what a node gives are prefixes, one for each output
pub given_long : (job : Job) (held : Held) (xs : List (StreamPrefix Plain)) → IsKnown job → HeldFits job held → AllByRecursion IsPrefix xs → OfNodes job.plan.nodes (λ k node. length (given job held xs k node) ≡ length node.outputs)
given_long job held xs known fits kx k node at =
    long_by (held k) (length node.outputs) (outcome_of job xs node).outputs (fits k node at) (outcome_has_outputs job node xs (node_loops job known k node at) kx)

pub given_keeps : (job : Job) (held : Held) (xs : List (StreamPrefix Plain)) → IsKnown job → HeldFits job held → AllByRecursion IsPrefix xs → OfNodes job.plan.nodes (λ k node. AllByRecursion IsPrefix (given job held xs k node))
given_keeps job held xs known fits kx k node at =
    keeps_by (held k) (length node.outputs) (outcome_of job xs node).outputs (fits k node at) (outcome_keeps job node xs kx)

pub held_keep : (job : Job) (held : Held) (xs : List (StreamPrefix Plain)) → IsKnown job → HeldFits job held → AllByRecursion IsPrefix xs → AllByRecursion IsPrefix (held_round job held xs)
held_keep job held xs known fits kx =
    both_keep job.inputs.streams _ known.inputs
    (parts_keep_from (given job held xs) 0 job.plan.nodes (from_zero job.plan.nodes (λ k node. AllByRecursion IsPrefix (given job held xs k node)) (given_keeps job held xs known fits kx)))

given_has_all : (job : Job) (held : Held) (xs : List (StreamPrefix Plain)) → IsKnown job → HeldFits job held → AllByRecursion IsPrefix xs → GivesAll (given job held xs) 0 job.plan.nodes
given_has_all job held xs known fits kx =
    gives_all_from (given job held xs) 0 job.plan.nodes (from_zero job.plan.nodes (λ k node. length (given job held xs k node) ≡ length node.outputs) (given_long job held xs known fits kx))

-- a node is held
abbrev pub IsHeld : Held → ℕ → Type 0
IsHeld held k = IsSome (held k)

pub held_same : (h : Option (List (StreamPrefix Plain))) (a b : List (StreamPrefix Plain)) → IsSome h → unwrap_or h a ≡ unwrap_or h b
held_same (Some outs) a b e = refl
held_same None a b e = absurd cc

-- two rounds agree at the graph inputs and at what is held
pub rounds_agree : (job : Job) (held : Held) (xs ys : List (StreamPrefix Plain)) → IsKnown job → length job.inputs.streams ≡ length job.plan.inputs → HeldFits job held
    → AllByRecursion IsPrefix xs → AllByRecursion IsPrefix ys → Agree (KnownBy (IsHeld held)) (producers job.plan) (held_round job held xs) (held_round job held ys)
rounds_agree job held xs ys known many fits kx ky =
    agree_both (KnownBy (IsHeld held)) (map Input (numbers (length job.plan.inputs))) (givers 0 job.plan.nodes) job.inputs.streams job.inputs.streams _ _
    (agree_same (KnownBy (IsHeld held)) (map Input (numbers (length job.plan.inputs))) job.inputs.streams (many ∙ sym (length-map-range_with_len Input 0 (length job.plan.inputs))))
    (agree_parts (KnownBy (IsHeld held)) (given job held xs) (given job held ys) 0 job.plan.nodes (given_has_all job held xs known fits kx) (given_has_all job held ys known fits ky)
    (give_same_from (KnownBy (IsHeld held)) (given job held xs) (given job held ys) 0 job.plan.nodes
    (from_zero job.plan.nodes (λ k node. (port : ℕ) → KnownBy (IsHeld held) (Node k port) → given job held xs k node ≡ given job held ys k node)
    (λ k node at port is. held_same (held k) (outcome_of job xs node).outputs (outcome_of job ys node).outputs is))))

-- one more node is held
abbrev pub with_held : Held → ℕ → List (StreamPrefix Plain) → Held
with_held held j outs = λ k. if k == j then Some outs else held k

one_node : (nodes : List PlanNode) (k j : ℕ) (a b : PlanNode) → slice_get nodes k ≡ Some a → slice_get nodes j ≡ Some b → k ≡ j → a ≡ b
one_node nodes k j a b e f same = some_is a b (sym e ∙ (ap (slice_get nodes) same ∙ f))
  where
    some_is : (x y : PlanNode) → Some x ≡ Some y → x ≡ y
    some_is x y h = ap (λ o. (elim o [ Some z ↦ z | None ↦ x ])) h

-- a round stays the same if the node gives just the held outputs there
pub with_held_same : (job : Job) (held : Held) (j : ℕ) (node : PlanNode) (outs xs : List (StreamPrefix Plain)) → slice_get job.plan.nodes j ≡ Some node → given job held xs j node ≡ outs
    → held_round job (with_held held j outs) xs ≡ held_round job held xs
with_held_same job held j node outs xs at is =
    ap (λ rest. job.inputs.streams ++ rest)
    (parts_same (given job (with_held held j outs) xs) (given job held xs) job.plan.nodes (λ k n e. elim (eqb_tells k j) [
      | inl (test, same) ↦ (let m : n ≡ node = one_node job.plan.nodes k j n node e at same in
          rw test (sym is ∙ (ap (λ i. given job held xs i node) (sym same) ∙ ap (λ i. given job held xs k i) (sym m))))
      | inr (test, other) ↦ rw test refl
    ]))

pub with_held_fits : (job : Job) (held : Held) (j : ℕ) (node : PlanNode) (outs : List (StreamPrefix Plain)) → slice_get job.plan.nodes j ≡ Some node → HeldFits job held
    → length outs ≡ length node.outputs → AllByRecursion IsPrefix outs → HeldFits job (with_held held j outs)
with_held_fits job held j node outs at fits long keeps k n e = elim (eqb_tells k j) [
  | inl (test, same) ↦ (let m : n ≡ node = one_node job.plan.nodes k j n node e at same in rw test (long ∙ ap (λ i. length i.outputs) (sym m), keeps))
  | inr (test, other) ↦ rw test (fits k n e)
]

pub with_held_holds : (held : Held) (j : ℕ) (outs : List (StreamPrefix Plain)) → IsHeld (with_held held j outs) j
with_held_holds held j outs = elim (eqb_tells j j) [ inl (test, same) ↦ rw test refl | inr (test, other) ↦ absurd (other refl) ]

pub with_held_more : (held : Held) (j : ℕ) (outs : List (StreamPrefix Plain)) (k : ℕ) → IsHeld held k → IsHeld (with_held held j outs) k
with_held_more held j outs k is = elim (eqb_tells k j) [ inl (test, same) ↦ rw test refl | inr (test, other) ↦ rw test is ]

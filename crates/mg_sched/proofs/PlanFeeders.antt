-- Where the feeders of a plan stand. The graph inputs stand first, by their numbers. After them stand the nodes without inputs, each after
-- those before it.
use Rattle.std.proofs.Common.{◌≡◌, ℕ, zero, suc, ◌+◌, ◌<◌, Bool, true, false, cond, eqb, List, [], ◌∷◌, ◌++◌, Contains, Option, None, Some, length, map, take, filter, count_by, slice_get, option_map, ◌⊎◌, ◌↔◌, inl, inr, ⊎_elim, refl, sym, ap, ◌∙◌, subst, arith}
use Rattle.std.specs.List.{enumerate_from}
use Rattle.std.proofs.lemmas.Bool.{eqb-true, false≢true}
use Rattle.std.proofs.lemmas.List.{length-append}
use Rattle.std.proofs.lemmas.List.Sums.{sum_by-cons, sum_by_more}
use Rattle.std.proofs.lemmas.List.FromFn.{length-map-range_with_len}
use Rattle.std.proofs.lemmas.Option.{none-some, same_Some, slice_get-map, slice_get_within, slice_get-get_or, get_or_from_slice_get}
use Rattle.mg_calc.specs.declared.plan.Plan.{Plan}
use Rattle.mg_calc.specs.declared.plan_node.PlanNode.{PlanNode}
use Rattle.mg_calc.specs.Plan.{Feeder, graph_input, source_node, feeders, sources, numbers}
use Rattle.mg_sched.specs.Code.Tables.{IsFeederOf, AreOwnFeeders}
use Rattle.mg_sched.proofs.PlanEdges.{joined_at, at_first, at_second, mapped_at}
use Rattle.mg_sched.proofs.PlanStreams.{number_there}

-- ---- nodes without inputs

abbrev is_source : PlanNode → Bool
is_source node = eqb (length node.inputs) 0

abbrev number : ℕ × PlanNode → ℕ
number e = e.0

abbrev sources_from : ℕ → List PlanNode → List ℕ
sources_from a nodes = map number (filter (λ e. is_source e.1) (enumerate_from a nodes))

-- how many of them stand before a node
abbrev pub sources_before : Plan → ℕ → ℕ
sources_before plan n = count_by is_source (take n plan.nodes)

no_inputs : (inputs : List ℕ) → eqb (length inputs) 0 ≡ true → inputs ≡ []
no_inputs [] is = refl
no_inputs (s ∷ inputs) is = absurd (omega (arith, eqb-true (length (s ∷ inputs)) 0 is))

-- one more element in front, if it passes
behind : (b : Bool) (x : ℕ × PlanNode) (rest : List (ℕ × PlanNode)) (k n : ℕ) → slice_get (map number rest) k ≡ Some n → slice_get (map number (cond b (x ∷ rest) rest)) (cond b 1 0 + k) ≡ Some n
behind true x rest k n at = let next : 1 + k ≡ suc k = omega arith in ap (slice_get (map number (x ∷ rest))) next ∙ at
behind false x rest k n at = let same : 0 + k ≡ k = omega arith in ap (slice_get (map number rest)) same ∙ at

in_front : (b : Bool) (x : ℕ × PlanNode) (rest : List (ℕ × PlanNode)) → b ≡ true → slice_get (map number (cond b (x ∷ rest) rest)) 0 ≡ Some x.0
in_front true x rest passes = refl
in_front false x rest passes = absurd (false≢true passes)

front_or_behind : (b : Bool) (x : ℕ × PlanNode) (rest : List (ℕ × PlanNode)) (k n : ℕ) → slice_get (map number (cond b (x ∷ rest) rest)) k ≡ Some n
    → ((b ≡ true) × (x.0 ≡ n)) ⊎ ((j : ℕ) × (slice_get (map number rest) j ≡ Some n))
front_or_behind true x rest zero n at = inl (refl, same_Some x.0 n at)
front_or_behind true x rest (suc k) n at = inr (k, at)
front_or_behind false x rest k n at = inr (k, at)

source_place : (a : ℕ) (nodes : List PlanNode) (i : ℕ) (node : PlanNode) → slice_get nodes i ≡ Some node → node.inputs ≡ [] → slice_get (sources_from a nodes) (count_by is_source (take i nodes)) ≡ Some (a + i)
source_place a [] i node at none = absurd (none-some node at)
source_place a (x ∷ nodes) zero node at none =
    let start : a ≡ a + 0 = omega arith in
    let passes : is_source x ≡ true = ap is_source (same_Some x node at) ∙ ap (λ l. eqb (length l) 0) none in
    in_front (is_source x) (a, x) (filter (λ e. is_source e.1) (enumerate_from (a + 1) nodes)) passes ∙ ap Some start
source_place a (x ∷ nodes) (suc i) node at none =
    let next : (a + 1) + i ≡ a + suc i = omega arith in
    ap (slice_get (sources_from a (x ∷ nodes))) (sum_by-cons (λ y. cond (is_source y) 1 0) x (take i nodes))
    ∙ (behind (is_source x) (a, x) (filter (λ e. is_source e.1) (enumerate_from (a + 1) nodes)) (count_by is_source (take i nodes)) ((a + 1) + i) (source_place (a + 1) nodes i node at none)
    ∙ ap Some next)

-- a node without inputs stands at a number
abbrev pub IsSourceAt : List PlanNode → ℕ → Type 0
IsSourceAt nodes n = (node : PlanNode) × (slice_get nodes n ≡ Some node) × (node.inputs ≡ [])

source_of : (a : ℕ) (nodes : List PlanNode) (k n : ℕ) → slice_get (sources_from a nodes) k ≡ Some n → (i : ℕ) × (n ≡ a + i) × IsSourceAt nodes i
source_of a [] k n at = absurd (none-some n at)
source_of a (x ∷ nodes) k n at =
    ⊎_elim
    (λ here. (0, omega (arith, here.1), (x, refl, no_inputs x.inputs here.0)))
    (λ r. let rest = source_of (a + 1) nodes r.0 n r.1 in (suc rest.0, omega (arith, rest.1), rest.2))
    (front_or_behind (is_source x) (a, x) (filter (λ e. is_source e.1) (enumerate_from (a + 1) nodes)) k n at)

-- ---- feeders

inputs_long : (plan : Plan) → length (map graph_input (numbers (length plan.inputs))) ≡ length plan.inputs
inputs_long plan = length-map-range_with_len graph_input 0 (length plan.inputs)

-- the first feeders are the graph inputs
pub feeder_of_input : (plan : Plan) (j : ℕ) → j < length plan.inputs → slice_get (feeders plan) j ≡ Some (graph_input j)
feeder_of_input plan j within =
    let zero_j : 0 + j ≡ j = omega arith in
    at_first (map graph_input (numbers (length plan.inputs))) (map source_node (sources plan)) j (graph_input j)
    (slice_get-map graph_input (numbers (length plan.inputs)) j ∙ ap (option_map graph_input) (number_there 0 (length plan.inputs) j within ∙ ap Some zero_j))

-- after them stands each node without inputs, after those before it
pub feeder_of_source : (plan : Plan) (n : ℕ) (node : PlanNode) → slice_get plan.nodes n ≡ Some node → node.inputs ≡ []
    → slice_get (feeders plan) (length plan.inputs + sources_before plan n) ≡ Some (source_node n)
feeder_of_source plan n node there none =
    let zero_n : 0 + n ≡ n = omega arith in
    let at : slice_get (sources plan) (sources_before plan n) ≡ Some n = source_place 0 plan.nodes n node there none ∙ ap Some zero_n in
    ap (λ k. slice_get (feeders plan) (k + sources_before plan n)) (sym (inputs_long plan))
    ∙ at_second (map graph_input (numbers (length plan.inputs))) (map source_node (sources plan)) (sources_before plan n) (source_node n)
    (slice_get-map source_node (sources plan) (sources_before plan n) ∙ ap (option_map source_node) at)

-- and none else
abbrev is_input : Feeder → Bool
is_input (graph_input input) = true
is_input (source_node node) = false

abbrev feeder_number : Feeder → ℕ
feeder_number (graph_input input) = input
feeder_number (source_node node) = node

pub source_of_feeder : (plan : Plan) (k n : ℕ) → slice_get (feeders plan) k ≡ Some (source_node n) → IsSourceAt plan.nodes n
source_of_feeder plan k n at =
    ⊎_elim
    (λ here. absurd (false≢true (sym (ap is_input (mapped_at graph_input (numbers (length plan.inputs)) k (source_node n) here).2))))
    (λ r. let s = mapped_at source_node (sources plan) r.0 (source_node n) r.2 in
    let node = source_of 0 plan.nodes r.0 s.0 s.1 in
    subst (IsSourceAt plan.nodes) (omega (arith, node.1, ap feeder_number s.2)) node.2)
    (joined_at (map graph_input (numbers (length plan.inputs))) (map source_node (sources plan)) k (source_node n) at)

-- the nodes without inputs are the nodes among the feeders
pub sources_have_feeders : (plan : Plan) (n : ℕ) → Contains (feeders plan) (source_node n) ↔ IsSourceAt plan.nodes n
sources_have_feeders plan n = (
  (λ has. source_of_feeder plan has.0 n (slice_get-get_or (feeders plan) has.0 (source_node n) has.1 ∙ ap Some has.2)),
  (λ is. let at = feeder_of_source plan n is.0 is.1 is.2 in
      (length plan.inputs + sources_before plan n, slice_get_within (feeders plan) _ (source_node n) at, get_or_from_slice_get (feeders plan) _ (source_node n) (source_node n) at)),
)

-- ---- the feeders that the first nodes are

-- one more node
passed : (plan : Plan) (i : ℕ) (node : PlanNode) (one : ℕ) → slice_get plan.nodes i ≡ Some node → cond (is_source node) 1 0 ≡ one → sources_before plan (i + 1) ≡ sources_before plan i + one
passed plan i node one at is =
    sum_by_more (λ n. cond (is_source n) 1 0) plan.nodes i node (slice_get_within plan.nodes i node at)
    ∙ (ap (λ n. sources_before plan i + cond (is_source n) 1 0) (get_or_from_slice_get plan.nodes i node node at) ∙ ap (λ n. sources_before plan i + n) is)

-- the first nodes are known, and the number of the next feeder
pub record OwnSoFar (plan : Plan) (count next : ℕ) (own : List (Option ℕ)) : Type 0 where
  pub next_is : next ≡ length plan.inputs + sources_before plan count
  pub len : length own ≡ count
  pub known : AreOwnFeeders plan own

own_next : (plan : Plan) (count : ℕ) (own : List (Option ℕ)) (node : PlanNode) (feeder : Option ℕ) → length own ≡ count → AreOwnFeeders plan own → slice_get plan.nodes count ≡ Some node
    → IsFeederOf plan count node feeder → AreOwnFeeders plan (own ++ feeder ∷ [])
own_next plan count own node feeder len old there is n m f there_now at =
    ⊎_elim
    (λ here. old n m f there_now here)
    (λ r. let last = only feeder r.0 f r.2 in
    let n_is : count ≡ n = omega (arith, r.1, last.0, len) in
    let node_is : node ≡ m = same_Some node m (sym there ∙ (ap (slice_get plan.nodes) n_is ∙ there_now)) in
    subst (IsFeederOf plan n m) last.1 (subst (λ x. IsFeederOf plan n x feeder) node_is (subst (λ k. IsFeederOf plan k node feeder) n_is is)))
    (joined_at own (feeder ∷ []) n f at)
  where
    only : (feeder : Option ℕ) (j : ℕ) (f : Option ℕ) → slice_get (feeder ∷ []) j ≡ Some f → (j ≡ 0) × (feeder ≡ f)
    only feeder zero f at = (refl, same_Some feeder f at)
    only feeder (suc j) f at = absurd (none-some f at)

-- a node without inputs is the next feeder
pub own_feeder : (plan : Plan) (count next later : ℕ) (own more : List (Option ℕ)) (node : PlanNode) → OwnSoFar plan count next own → slice_get plan.nodes count ≡ Some node
    → is_source node ≡ true → later ≡ next + 1 → more ≡ own ++ Some next ∷ [] → OwnSoFar plan (count + 1) later more
own_feeder plan count next later own more node old there passes is_later is_more =
    let none = no_inputs node.inputs passes in
    let at : slice_get (feeders plan) next ≡ Some (source_node count) = ap (slice_get (feeders plan)) old.next_is ∙ feeder_of_source plan count node there none in
    record {
      next_is = omega (arith, is_later, old.next_is, passed plan count node 1 there (ap (λ b. cond b 1 0) passes));
      len = omega (arith, ap length is_more, length-append own (Some next ∷ []), old.len);
      known = subst (AreOwnFeeders plan) (sym is_more) (own_next plan count own node (Some next) old.len old.known there (none, at));
    }

-- and a node that isn't a source is no feeder
pub own_none : (plan : Plan) (count next later : ℕ) (own more : List (Option ℕ)) (node : PlanNode) → OwnSoFar plan count next own → slice_get plan.nodes count ≡ Some node
    → is_source node ≡ false → later ≡ next → more ≡ own ++ None ∷ [] → OwnSoFar plan (count + 1) later more
own_none plan count next later own more node old there fails is_later is_more = record {
  next_is = omega (arith, is_later, old.next_is, passed plan count node 0 there (ap (λ b. cond b 1 0) fails));
  len = omega (arith, ap length is_more, length-append own (None ∷ []), old.len);
  known = subst (AreOwnFeeders plan) (sym is_more) (own_next plan count own node None old.len old.known there (λ none. false≢true (sym fails ∙ ap (λ l. eqb (length l) 0) none)));
}

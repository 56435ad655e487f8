use Rattle.std.proofs.Common.{◌≡◌, ℕ, zero, suc, ◌+◌, ◌≤◌, List, [], ◌∷◌, drop, length, Bool, true, false, cond, None, Some, refl, sym, ap, ◌∙◌, arith}
use Rattle.std.specs.List.{position_from, AllByRecursion}
use Rattle.std.proofs.lemmas.Bool.{false≢true}
use Rattle.std.proofs.lemmas.Iterator.Adapters.{position_from-zero}
use Rattle.std.proofs.lemmas.List.Elements.{All-from_recursion}
use Rattle.std.proofs.lemmas.Option.{none-some}
use Rattle.mg_calc.specs.declared.law.Law.{Law}
use Rattle.mg_calc.specs.declared.law.Law.TheVariants.{Stated}
use Rattle.mg_calc.specs.declared.plan_node.PlanNode.{PlanNode}
use Rattle.mg_calc.specs.Shape.{IsStated}
use Rattle.mg_run.specs.Answer.{is_stated}
use Rattle.mg_run.proofs.stated.first_stated.Goals as goal

abbrev at_node : PlanNode → Bool
at_node node = is_stated node.law

abbrev IsOther : PlanNode → Type 0
IsOther node = IsStated node.law → ⊥

unstated : (law : Law) → is_stated law ≡ false → IsStated law → ⊥
unstated (Stated number parameters offset) fails is = false≢true (sym fails)
unstated law fails is = is

-- if no node is found, no node's law is stated
all_unstated : (i : ℕ) (nodes : List PlanNode) → position_from at_node i nodes ≡ None → AllByRecursion IsOther nodes
all_unstated i [] none = tt
all_unstated i (n ∷ ns) none = by_test (at_node n) refl (λ fails. all_unstated (i + 1) ns (sym (ap (λ t. cond t (Some i) (position_from at_node (i + 1) ns)) fails) ∙ none))
  where
    by_test : (b : Bool) → at_node n ≡ b → (at_node n ≡ false → AllByRecursion IsOther ns) → IsOther n × AllByRecursion IsOther ns
    by_test true is rest = absurd (none-some i (sym (sym (ap (λ t. cond t (Some i) (position_from at_node (i + 1) ns)) is) ∙ none)))
    by_test false fails rest = (unstated n.law fails, rest fails)

-- past the last node none is found
past_all : (i n : ℕ) (nodes : List PlanNode) → length nodes ≤ i → position_from at_node n (drop i nodes) ≡ None
past_all zero n [] le = refl
past_all (suc i) n [] le = refl
past_all zero n (x ∷ xs) le = absurd (omega arith)
past_all (suc i) n (x ∷ xs) le = past_all i n xs (omega arith)

pub loop-number-init : goal.loop-number-init
loop-number-init c = sym (position_from-zero at_node c.args.plan.now.nodes)

pub returns-clause-unstated : goal.returns-clause-unstated
returns-clause-unstated c =
    let nodes = c.args.plan.now.nodes in
    let past : length nodes ≤ c.loop-number.number = (let t = c.loop-number-test.false in let e = c.len-number-end.ensures in omega (arith, t, e)) in
    let none : position_from at_node 0 nodes ≡ None =
    sym (position_from-zero at_node nodes) ∙ (sym c.loop-number.invariant ∙ past_all c.loop-number.number c.loop-number.number nodes past) in
    All-from_recursion IsOther nodes (all_unstated 0 nodes none)

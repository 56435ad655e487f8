use Rattle.std.proofs.Common.{◌≡◌, ℕ, zero, suc, ◌+◌, ◌≤◌, List, [], ◌∷◌, drop, length, Bool, true, false, cond, None, Some, is_some, refl, sym, ap, ◌∙◌, arith}
use Rattle.std.specs.List.{position_from, AllByRecursion}
use Rattle.std.proofs.lemmas.Bool.{false≢true}
use Rattle.std.proofs.lemmas.Iterator.Adapters.{position_from-zero}
use Rattle.std.proofs.lemmas.List.Elements.{All-from_recursion}
use Rattle.std.proofs.lemmas.Option.{none-some}
use Rattle.mg_calc.specs.declared.law.Law.{Law}
use Rattle.mg_calc.specs.declared.law.Law.TheVariants.{FirstCome, Limiter}
use Rattle.mg_calc.specs.declared.plan_node.PlanNode.{PlanNode}
use Rattle.mg_calc.specs.Shape.{IsServed}
use Rattle.mg_calc.proofs.FreeNodes.{without_free}
use Rattle.mg_free.specs.Core.{free_law_of, is_free}
use Rattle.mg_free.proofs.kinds.first_free.Goals as goal

-- a law that isn't a law of free nodes is served
served : (law : Law) → is_some (free_law_of law) ≡ false → IsServed law
served (FirstCome lanes) fails = absurd (false≢true (sym fails))
served (Limiter most) fails = absurd (false≢true (sym fails))
served law fails = tt

-- if no node is free, all have laws that are served
all_served : (i : ℕ) (nodes : List PlanNode) → position_from is_free i nodes ≡ None → AllByRecursion (λ node. IsServed node.law) nodes
all_served i [] none = tt
all_served i (n ∷ ns) none = by_test (is_free n) refl (λ fails. all_served (i + 1) ns (sym (ap (λ t. cond t (Some i) (position_from is_free (i + 1) ns)) fails) ∙ none))
  where
    by_test : (b : Bool) → is_free n ≡ b → (is_free n ≡ false → AllByRecursion (λ node. IsServed node.law) ns) → IsServed n.law × AllByRecursion (λ node. IsServed node.law) ns
    by_test true is rest = absurd (none-some i (sym (sym (ap (λ t. cond t (Some i) (position_from is_free (i + 1) ns)) is) ∙ none)))
    by_test false fails rest = (served n.law fails, rest fails)

-- past the last node none is found
past_all : (i n : ℕ) (nodes : List PlanNode) → length nodes ≤ i → position_from is_free n (drop i nodes) ≡ None
past_all zero n [] le = refl
past_all (suc i) n [] le = refl
past_all zero n (x ∷ xs) le = absurd (omega arith)
past_all (suc i) n (x ∷ xs) le = past_all i n xs (omega arith)

pub loop-number-init : goal.loop-number-init
loop-number-init c = sym (position_from-zero is_free c.args.plan.now.nodes)

pub returns-clause-valid : goal.returns-clause-valid
returns-clause-valid c = λ valid.
    let nodes = c.args.plan.now.nodes in
    let past : length nodes ≤ c.loop-number.number = (let t = c.loop-number-test.false in let e = c.len-number-end.ensures in omega (arith, t, e)) in
    let none : position_from is_free 0 nodes ≡ None =
    sym (position_from-zero is_free nodes) ∙ (sym c.loop-number.invariant ∙ past_all c.loop-number.number c.loop-number.number nodes past) in
    without_free c.args.plan.now valid (All-from_recursion (λ node. IsServed node.law) nodes (all_served 0 nodes none))

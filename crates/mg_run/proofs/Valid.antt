-- A graph that was checked has a valid plan.
use Rattle.std.proofs.Common.{◌≡◌, ◌+◌, ℕ, List, [], ◌∷◌, All, Bool, true, false, cond, None, Some, Ok, is_some, refl, sym, ap, ◌∙◌}
use Rattle.std.specs.List.{position_from, AllByRecursion}
use Rattle.std.proofs.lemmas.Bool.{false≢true}
use Rattle.std.proofs.lemmas.Iterator.Adapters.{position_from-zero}
use Rattle.std.proofs.lemmas.List.Elements.{All-from_recursion}
use Rattle.std.proofs.lemmas.Option.{none-some}
use Rattle.mg_config.specs.Config.{GraphView}
use Rattle.mg_calc.specs.declared.law.Law.{Law}
use Rattle.mg_calc.specs.declared.law.Law.TheVariants.{FirstCome, Limiter}
use Rattle.mg_calc.specs.declared.plan.Plan.{Plan}
use Rattle.mg_calc.specs.declared.plan_node.PlanNode.{PlanNode}
use Rattle.mg_calc.specs.declared.shape.OuterShape.{OuterShape}
use Rattle.mg_calc.specs.Shape.{IsServed}
use Rattle.mg_calc.specs.Plan.{IsValid, IsValidWithFree}
use Rattle.mg_calc.proofs.FreeNodes.{without_free}
use Rattle.mg_free.specs.Core.{free_law_of, is_free, first_free}
use Rattle.mg_check.specs.Check.{check_of, IsOuterShape}
use Rattle.mg_check.proofs.Valid.{checked_is_valid}
use Rattle.mg_subgraph.specs.Expansion.{expansion_of}
use Rattle.mg_run.proofs.Fewer.{few-views}

-- if no node is free, all nodes have laws that are served
served : (law : Law) → is_some (free_law_of law) ≡ false → IsServed law
served (FirstCome lanes) fails = absurd (false≢true (sym fails))
served (Limiter most) fails = absurd (false≢true (sym fails))
served law fails = tt

all_served : (i : ℕ) (nodes : List PlanNode) → position_from is_free i nodes ≡ None → AllByRecursion (λ node. IsServed node.law) nodes
all_served i [] none = tt
all_served i (n ∷ ns) none = by_test (is_free n) refl (λ fails. all_served (i + 1) ns (sym (ap (λ t. cond t (Some i) (position_from is_free (i + 1) ns)) fails) ∙ none))
  where
    by_test : (b : Bool) → is_free n ≡ b → (is_free n ≡ false → AllByRecursion (λ node. IsServed node.law) ns) → IsServed n.law × AllByRecursion (λ node. IsServed node.law) ns
    by_test true is rest = absurd (none-some i (sym (sym (ap (λ t. cond t (Some i) (position_from is_free (i + 1) ns)) is) ∙ none)))
    by_test false fails rest = (served n.law fails, rest fails)

pub valid_checked : (outers : List OuterShape) (main : GraphView) (library : List GraphView) (graph : GraphView) (plan : Plan) → All IsOuterShape outers → expansion_of main library ≡ Ok graph → check_of outers graph ≡ Ok plan → IsValidWithFree plan
valid_checked outers main library graph plan shaped expanded checked = (checked_is_valid outers graph plan shaped (few-views main library graph expanded) checked).0

pub valid_unfree : (plan : Plan) → IsValidWithFree plan → first_free plan ≡ None → IsValid plan
valid_unfree plan valid none = without_free plan valid (All-from_recursion (λ node. IsServed node.law) plan.nodes (all_served 0 plan.nodes (sym (position_from-zero is_free plan.nodes) ∙ none)))

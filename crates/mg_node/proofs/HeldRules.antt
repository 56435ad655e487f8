-- A calculator that fits its node computes by the rules that the node has in the job. If the calculator is built in, the node's law isn't
-- stated.
use Rattle.std.proofs.Common.{◌≡◌, ℕ, zero, suc, Bool, true, false, List, [], ◌∷◌, All, subst, Option, Some, None, IsSome, is_some, slice_get, refl, sym, ap, ◌∙◌, if◌then◌else◌}
use Rattle.std.specs.List.{AllByRecursion}
use Rattle.std.proofs.lemmas.List.Elements.{recursion_from_All}
use Rattle.mg_calc.specs.declared.law.Law.{Law}
use Rattle.mg_calc.specs.declared.plan_node.PlanNode.{PlanNode}
use Rattle.mg_calc.specs.Rules.{Laws}
use Rattle.mg_calc.specs.Law.{table_rules, rules_of}
use Rattle.mg_calc.specs.Plan.{IsValid}
use Rattle.mg_calc.specs.Shape.{IsStated}
use Rattle.mg_calc.specs.Equations.{rules_at}
use Rattle.mg_calc.proofs.TableRules.{by_table}
use Rattle.mg_route.specs.HolderView.{HolderView, FitsHolder, held_rules}
use Rattle.mg_node.specs.Job.{LoggedJob}

-- what holds of all nodes holds of each
pub of_node : {X : Type 0} (P : X → Type 0) (xs : List X) (i : ℕ) (x : X) → All P xs → slice_get xs i ≡ Some x → P x
of_node {X} P xs i x all there = go xs i (recursion_from_All P xs all) there
  where
    go : (ys : List X) (j : ℕ) → AllByRecursion P ys → slice_get ys j ≡ Some x → P x
    go [] j a there = absurd cc
    go (y ∷ ys) zero a there = (let same : y ≡ x = cc in subst P same a.0)
    go (y ∷ ys) (suc j) a there = go ys j a.1 there

held_by : (laws : Laws) (handed : Bool) (box : Option ℕ) (law : Law) → handed ≡ is_some box → (IsStated law → IsSome box) → (if handed then rules_of laws law else table_rules law) ≡ rules_of laws law
held_by laws true box law is boxed = refl
held_by laws false None law is boxed = sym (by_table laws law (λ stated. absurd (let clash : false ≡ true = boxed stated in cc)))
held_by laws false (Some number) law is boxed = absurd cc

pub rules_fit : {laws : Laws} (job : LoggedJob laws) (number : ℕ) (node : PlanNode) (told : HolderView) → IsValid job.job.plan → slice_get job.job.plan.nodes number ≡ Some node → FitsHolder node told
    → held_rules laws told ≡ rules_at job.job node
rules_fit {laws} job number node told valid there fits =
    ap (λ (l : Law). if told.handed then rules_of laws l else table_rules l) fits.same_law
    ∙ held_by laws told.handed node.box_number node.law fits.same_handed (of_node (λ (n : PlanNode). IsStated n.law → IsSome n.box_number) job.job.plan.nodes number node valid.stated there)
    ∙ ap (λ (l : Laws). rules_of l node.law) (sym job.same)

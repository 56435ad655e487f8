-- A plan whose user-supplied calculators, if any, are the two tallies has no node with a stated law.
use Rattle.std.proofs.Common.{◌≡◌, ℕ, zero, suc, Option, Some, None, IfSome, IsSome, IsSomeAnd, All, get_or, slice_get, sym, subst}
use Rattle.std.proofs.lemmas.Bool.{false≢true}
use Rattle.mg_calc.specs.declared.law.Law.{Law}
use Rattle.mg_calc.specs.declared.plan.Plan.{Plan}
use Rattle.mg_calc.specs.declared.plan_node.PlanNode.{PlanNode}
use Rattle.mg_calc.specs.Plan.{IsValid, FitsNode, OutersFit}
use Rattle.mg_calc.specs.Shape.{IsStated}
use Rattle.mg_nets.specs.Handed.{two_outers}

node_unstated : (node : PlanNode) (number : Option ℕ) → IfSome number (λ n. IsSomeAnd (slice_get two_outers n) (λ outer. FitsNode node outer.law outer.shape)) → (IsStated node.law → IsSome number) → IsStated node.law → ⊥
node_unstated node None fits boxed is = false≢true (boxed is)
node_unstated node (Some zero) fits boxed is = subst IsStated (sym fits.same_law) is
node_unstated node (Some (suc zero)) fits boxed is = subst IsStated (sym fits.same_law) is
node_unstated node (Some (suc (suc n))) fits boxed is = absurd fits

pub unstated : (plan : Plan) → IsValid plan → OutersFit plan two_outers → All (λ node. IsStated node.law → ⊥) plan.nodes
unstated plan valid fit = λ k d less. node_unstated (get_or plan.nodes k d) (get_or plan.nodes k d).box_number (fit k d less) (valid.stated k d less)

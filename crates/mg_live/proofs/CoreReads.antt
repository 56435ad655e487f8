-- What free nodes read are streams of the core.
use Rattle.std.proofs.Common.{◌≡◌, ℕ, zero, suc, ◌+◌, ◌<◌, List, [], ◌∷◌, map, length, Option, Some, None, option_map, slice_get, slice_index_or, All, refl, sym, ap, subst, arith}
use Rattle.std.specs.List.{AllByRecursion, enumerate_from, filter_map, cons_option}
use Rattle.std.proofs.lemmas.Option.{same_Some, none-some}
use Rattle.std.proofs.lemmas.List.Elements.{recursion_from_All}
use Rattle.mg_calc.specs.declared.plan.Plan.{Plan}
use Rattle.mg_calc.specs.declared.plan_node.PlanNode.{PlanNode}
use Rattle.mg_calc.specs.Plan.{IsValidWithFree}
use Rattle.mg_free.specs.declared.law.FreeLaw.{FreeLaw}
use Rattle.mg_free.specs.declared.node.FreeNode.{FreeNode}
use Rattle.mg_free.specs.Core.{free_law_of, core_streams, stream_number, core_of, free_node, free_nodes}
use Rattle.mg_free.proofs.Placing.{found}
use Rattle.mg_free.proofs.CoreStreams.{stream_among, streams_long}

numbers_read : (plan : Plan) (streams : List ℕ) → IsValidWithFree plan → AllByRecursion (λ s. s < length plan.streams) streams → AllByRecursion (λ s. s < length (core_of plan).streams) (map (stream_number plan) streams)
numbers_read plan [] valid all = tt
numbers_read plan (s ∷ streams) valid all =
    let f = found s (core_streams plan) (stream_among plan s valid.streams all.0) in
    let long = streams_long plan valid.streams valid.producers in
    (omega (arith, f, long), numbers_read plan streams valid all.1)

free_by : (plan : Plan) (n : ℕ) (node : PlanNode) (o : Option FreeLaw) → free_law_of node.law ≡ o → free_node plan (n, node)
    ≡ option_map (λ rule. record { node = n; law = rule; inputs = map (stream_number plan) node.inputs; output = slice_index_or (map (stream_number plan) node.outputs) 0 0 }) o
free_by plan n node o e = ap (λ (p : Option FreeLaw). option_map (λ rule. record { node = n; law = rule; inputs = map (stream_number plan) node.inputs; output = slice_index_or (map (stream_number plan) node.outputs) 0 0 }) p) e

all_read : (plan : Plan) (n : ℕ) (nodes : List PlanNode) → IsValidWithFree plan → AllByRecursion (λ node. All (λ s. s < length plan.streams) node.inputs) nodes
    → AllByRecursion (λ f. AllByRecursion (λ s. s < length (core_of plan).streams) f.inputs) (filter_map (free_node plan) (enumerate_from n nodes))
all_read plan n [] valid all = tt
all_read plan n (node ∷ nodes) valid all = by (free_law_of node.law) refl (all_read plan (n + 1) nodes valid all.1)
  where
    by : (o : Option FreeLaw) → free_law_of node.law ≡ o → AllByRecursion (λ f. AllByRecursion (λ s. s < length (core_of plan).streams) f.inputs) (filter_map (free_node plan) (enumerate_from (n + 1) nodes))
        → AllByRecursion (λ f. AllByRecursion (λ s. s < length (core_of plan).streams) f.inputs) (filter_map (free_node plan) (enumerate_from n (node ∷ nodes)))
    by None e rest =
        subst (λ (o : Option FreeNode). AllByRecursion (λ f. AllByRecursion (λ s. s < length (core_of plan).streams) f.inputs) (cons_option o (filter_map (free_node plan) (enumerate_from (n + 1) nodes)))) (sym (free_by plan n node None e)) rest
    by (Some rule) e rest =
        subst (λ (o : Option FreeNode). AllByRecursion (λ f. AllByRecursion (λ s. s < length (core_of plan).streams) f.inputs) (cons_option o (filter_map (free_node plan) (enumerate_from (n + 1) nodes)))) (sym (free_by plan n node (Some rule) e))
        (numbers_read plan node.inputs valid (recursion_from_All (λ s. s < length plan.streams) node.inputs all.0), rest)

each_at : {X : Type 0} (P : X → Type 0) (xs : List X) (i : ℕ) (x : X) → AllByRecursion P xs → slice_get xs i ≡ Some x → P x
each_at P [] i x all at = absurd (none-some x at)
each_at P (y ∷ xs) zero x all at = subst P (same_Some y x at) all.0
each_at P (y ∷ xs) (suc i) x all at = each_at P xs i x all.1 at

pub reads_core : (plan : Plan) (place port stream : ℕ) (free : FreeNode) → IsValidWithFree plan → slice_get (free_nodes plan) place ≡ Some free → slice_get free.inputs port ≡ Some stream → stream < length (core_of plan).streams
reads_core plan place port stream free valid at at_port =
    let all = all_read plan 0 plan.nodes valid (recursion_from_All (λ (node : PlanNode). All (λ s. s < length plan.streams) node.inputs) plan.nodes valid.ranges.read) in
    each_at (λ s. s < length (core_of plan).streams) free.inputs port stream
    (each_at (λ (f : FreeNode). AllByRecursion (λ s. s < length (core_of plan).streams) f.inputs) (free_nodes plan) place free all at) at_port

-- What fits a plan fits its core, with a free output for each free node.
use Rattle.std.proofs.Common.{◌≡◌, ℕ, zero, suc, ◌+◌, true, List, [], ◌∷◌, ◌++◌, map, filter, length, length-append, Option, None, Some, is_some, option_map, slice_index_or, refl, sym, ap, ◌∙◌, subst, arith}
use Rattle.std.specs.List.{AllByRecursion, enumerate_from, filter_map, flat_map, cons_option, range_with_len}
use Rattle.std.proofs.lemmas.List.Elements.{recursion_from_All}
use Rattle.mg_settled.specs.Prefix.{IsPrefix}
use Rattle.mg_calc.specs.declared.inputs.Inputs.{Inputs}
use Rattle.mg_calc.specs.declared.law.Law.{Law}
use Rattle.mg_calc.specs.declared.law.Law.TheVariants as law
use Rattle.mg_calc.specs.declared.plan.Plan.{Plan}
use Rattle.mg_calc.specs.declared.plan_node.PlanNode.{PlanNode}
use Rattle.mg_calc.specs.declared.port_kind.PortKind.{PortKind}
use Rattle.mg_calc.proofs.Earlier.{some_same}
use Rattle.mg_calc.specs.Shape.{IsShapeOf, HasInputs, HasOutputs}
use Rattle.mg_calc.specs.Plan.{IsValidWithFree, InputsFit, HasNumbers}
use Rattle.mg_free.specs.declared.law.FreeLaw.{FreeLaw}
use Rattle.mg_free.specs.declared.law.FreeLaw.TheVariants.{FirstCome, Limiter}
use Rattle.mg_free.specs.declared.node.FreeNode.{FreeNode}
use Rattle.mg_free.specs.Free.{ports_of}
use Rattle.mg_free.specs.Core.{free_law_of, is_free, entering, stream_number, free_node, split_of}
use Rattle.mg_free.specs.Turns.{AreBatches}
use Rattle.mg_free.proofs.Placing.{filter_in, filter_out}
use Rattle.mg_free.proofs.CoreStreams.{long_image, long_range}
use Rattle.mg_free.proofs.CoreValid.{core_is_valid}
use Rattle.mg_free.proofs.UnderWay.{FitsCore, BatchesFit}

-- a free node has the ports of its law, and one output
long_ports : (tag : List ℕ) (count from : ℕ) (f : ℕ → PortKind) → length (map f (range_with_len from count)) ≡ count
long_ports tag zero from f = refl
long_ports tag (suc count) from f = ap suc (long_ports tag count (from + 1) f)

free_ports : (l : Law) (rule : FreeLaw) (ps : List PortKind) → free_law_of l ≡ Some rule → HasInputs l ps → length ps ≡ ports_of rule
free_ports (law.FirstCome lanes) rule ps e has =
    ap length has ∙ (long_ports [] lanes 0 _ ∙ (let same : FirstCome lanes ≡ rule = some_same (FirstCome lanes) rule e in ap ports_of same))
free_ports (law.Limiter most) rule ps e has = ap length has ∙ (let same : Limiter most ≡ rule = some_same (Limiter most) rule e in ap ports_of same)
free_ports l rule ps e has = absurd cc

free_output : (l : Law) (ins ps : List PortKind) → is_some (free_law_of l) ≡ true → HasOutputs l ins ps → length ps ≡ 1
free_output (law.FirstCome lanes) ins ps e has = ap length has
free_output (law.Limiter most) ins ps e has = ap length has
free_output l ins ps e has = absurd cc

-- what is known of each node
record IsFine (node : PlanNode) : Type 0 where
  pub numbers : HasNumbers node
  pub shape : IsShapeOf node.law node.shape

fine : (nodes : List PlanNode) → AllByRecursion HasNumbers nodes → AllByRecursion (λ node. IsShapeOf node.law node.shape) nodes → AllByRecursion IsFine nodes
fine [] a b = tt
fine (n ∷ nodes) a b = (record { numbers = a.0; shape = b.0 }, fine nodes a.1 b.1)

-- there are as many free nodes as they have outputs
free_by : (plan : Plan) (n : ℕ) (node : PlanNode) (o : Option FreeLaw) → free_law_of node.law ≡ o → free_node plan (n, node)
    ≡ option_map (λ rule. record { node = n; law = rule; inputs = map (stream_number plan) node.inputs; output = slice_index_or (map (stream_number plan) node.outputs) 0 0 }) o
free_by plan n node o e = ap (λ (p : Option FreeLaw). option_map (λ rule. record { node = n; law = rule; inputs = map (stream_number plan) node.inputs; output = slice_index_or (map (stream_number plan) node.outputs) 0 0 }) p) e

as_many : (plan : Plan) (n : ℕ) (nodes : List PlanNode) → AllByRecursion IsFine nodes → length (flat_map (λ node. node.outputs) (filter is_free nodes)) ≡ length (filter_map (free_node plan) (enumerate_from n nodes))
as_many plan n [] all = refl
as_many plan n (node ∷ nodes) all = by (free_law_of node.law) refl (as_many plan (n + 1) nodes all.1)
  where
    by : (o : Option FreeLaw) → free_law_of node.law ≡ o
        → length (flat_map (λ node. node.outputs) (filter is_free nodes)) ≡ length (filter_map (free_node plan) (enumerate_from (n + 1) nodes))
        → length (flat_map (λ node. node.outputs) (filter is_free (node ∷ nodes))) ≡ length (filter_map (free_node plan) (enumerate_from n (node ∷ nodes)))
    by None e rest =
        ap (λ (l : List PlanNode). length (flat_map (λ node. node.outputs) l)) (filter_out is_free node nodes (ap is_some e))
        ∙ (rest ∙ sym (ap (λ (o : Option FreeNode). length (cons_option o (filter_map (free_node plan) (enumerate_from (n + 1) nodes)))) (free_by plan n node None e)))
    by (Some rule) e rest =
        let one : length node.outputs ≡ 1 = all.0.numbers.outputs ∙ free_output node.law node.shape.inputs node.shape.outputs (ap is_some e) all.0.shape.outputs in
        let long = length-append node.outputs (flat_map (λ node. node.outputs) (filter is_free nodes)) in
        ap (λ (l : List PlanNode). length (flat_map (λ node. node.outputs) l)) (filter_in is_free node nodes (ap is_some e))
        ∙ ((let z : length (node.outputs ++ flat_map (λ node. node.outputs) (filter is_free nodes)) ≡ suc (length (filter_map (free_node plan) (enumerate_from (n + 1) nodes))) = omega (arith, one, long, rest) in z)
        ∙ sym (ap (λ (o : Option FreeNode). length (cons_option o (filter_map (free_node plan) (enumerate_from (n + 1) nodes)))) (free_by plan n node (Some rule) e)))

-- and each has the ports of its law
all_ports : (plan : Plan) (n : ℕ) (nodes : List PlanNode) → AllByRecursion IsFine nodes → AllByRecursion (λ f. length f.inputs ≡ ports_of f.law) (filter_map (free_node plan) (enumerate_from n nodes))
all_ports plan n [] all = tt
all_ports plan n (node ∷ nodes) all = by (free_law_of node.law) refl (all_ports plan (n + 1) nodes all.1)
  where
    Fits : FreeNode → Type 0
    Fits f = length f.inputs ≡ ports_of f.law

    by : (o : Option FreeLaw) → free_law_of node.law ≡ o → AllByRecursion (λ f. length f.inputs ≡ ports_of f.law) (filter_map (free_node plan) (enumerate_from (n + 1) nodes))
        → AllByRecursion (λ f. length f.inputs ≡ ports_of f.law) (filter_map (free_node plan) (enumerate_from n (node ∷ nodes)))
    by None e rest =
        subst (λ (o : Option FreeNode). AllByRecursion (λ f. length f.inputs ≡ ports_of f.law) (cons_option o (filter_map (free_node plan) (enumerate_from (n + 1) nodes)))) (sym (free_by plan n node None e)) rest
    by (Some rule) e rest =
        subst (λ (o : Option FreeNode). AllByRecursion (λ f. length f.inputs ≡ ports_of f.law) (cons_option o (filter_map (free_node plan) (enumerate_from (n + 1) nodes)))) (sym (free_by plan n node (Some rule) e))
        (long_image (stream_number plan) node.inputs ∙ (all.0.numbers.inputs ∙ free_ports node.law rule node.shape.inputs e all.0.shape.inputs), rest)

pub core_fits : (plan : Plan) (inputs : Inputs) → IsValidWithFree plan → InputsFit plan inputs → FitsCore (split_of plan) inputs
core_fits plan inputs valid fit =
    let all = fine plan.nodes (recursion_from_All HasNumbers plan.nodes valid.ports) (recursion_from_All (λ (node : PlanNode). IsShapeOf node.law node.shape) plan.nodes valid.shapes) in
    let many = as_many plan 0 plan.nodes all in
    let entering_long = length-append plan.inputs (flat_map (λ node. node.outputs) (filter is_free plan.nodes)) in
    let core_long = long_range 0 (length (entering plan)) in
    let streams = fit.streams in
    record {
      core = core_is_valid plan valid;
      count = omega (arith, many, entering_long, core_long, streams);
      prefixes = recursion_from_All IsPrefix inputs.streams fit.prefixes;
      sides = fit.sides;
      ports = all_ports plan 0 plan.nodes all;
    }

pub batches_fit : (plan : Plan) (before : Inputs) (later : List Inputs) → IsValidWithFree plan → AreBatches plan before later → BatchesFit (split_of plan) before later
batches_fit plan before [] valid batches = tt
batches_fit plan before (inputs ∷ later) valid batches = (core_fits plan inputs valid batches.0, batches.1, batches.2, batches_fit plan inputs later valid batches.3)

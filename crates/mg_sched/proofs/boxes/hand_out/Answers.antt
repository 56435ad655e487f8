use Rattle.std.proofs.Common.{rules, ◌≡◌, ◌<◌, length, length-set, Some, slice_get, sym, refl, ◌∙◌, arith}
use Rattle.mg_calc.proofs.Earlier.{get_or_some}
use Rattle.mg_node.proofs.Lemmas.{read_at}
use Rattle.mg_sched.proofs.HandedOut.{left_first, left_passed, left_taken, finds, engines_first, engines_last, engines_passed, engines_taken, all_full, seen_there, some_below}
use Rattle.mg_sched.proofs.boxes.hand_out.Goals as goal

pub loop-node-init : goal.loop-node-init
loop-node-init g c = (refl, (λ streams all. engines_first c.args.plan.now streams _ _ all), left_first _ _ (all_full g.C.NodeCalculator.told c.args.places.now c.requires.full))

pub loop-node-preserved-in_default : goal.loop-node-preserved-in_default
loop-node-preserved-in_default g c =
    let less : c.loop-node.node < length c.args.plan.now.nodes = search rules in
    let there : slice_get c.args.plan.now.nodes c.loop-node.node ≡ Some c.index-as_slice-node.result = read_at _ _ _ _ c.as_slice.ensures less c.index-as_slice-node.is in
    (c.loop-node.invariant.0, (λ streams all. engines_passed c.args.plan.now streams _ _ c.loop-node.node _ there c.in_default.is (c.loop-node.invariant.1 streams all)), left_passed _ _ _ _ _ c.loop-node.invariant.2 there c.in_default.is)

pub hand_over-requires-clause-there : goal.hand_over-requires-clause-there
hand_over-requires-clause-there g c =
    let less : c.loop-node.node < length c.args.plan.now.nodes = search rules in
    let there : slice_get c.args.plan.now.nodes c.loop-node.node ≡ Some c.index-as_slice-node.result = read_at _ _ _ _ c.as_slice.ensures less c.index-as_slice-node.is in
    let f = finds _ _ _ _ _ _ c.loop-node.invariant.2 c.requires.valid.boxes c.requires.find there c.in-Some.is in
    seen_there g.C.NodeCalculator.told c.loop-node.places c.in-Some.number f.told f.lies

pub hand_over-requires-clause-number : goal.hand_over-requires-clause-number
hand_over-requires-clause-number g c =
    some_below c.loop-node.places c.in-Some.number (hand_over-requires-clause-there g c)

pub loop-node-preserved : goal.loop-node-preserved
loop-node-preserved g c =
    let less : c.loop-node.node < length c.args.plan.now.nodes = search rules in
    let there : slice_get c.args.plan.now.nodes c.loop-node.node ≡ Some c.index-as_slice-node.result = read_at _ _ _ _ c.as_slice.ensures less c.index-as_slice-node.is in
    let f = finds _ _ _ _ _ _ c.loop-node.invariant.2 c.requires.valid.boxes c.requires.find there c.in-Some.is in
    let places = c.loop-node.invariant.0 in
    let enough = c.requires.engines in
    let engine : slice_get c.loop-node.engines c.loop-node.node ≡ Some c.index-engines-node.result = get_or_some c.loop-node.engines c.loop-node.node _ (omega (arith, less, places, enough)) (sym c.index-engines-node.is) in (
      length-set c.loop-node.engines c.loop-node.node c.hand_over.new.engine ∙ places,
      (λ streams all. engines_taken c.args.plan.now streams _ c.loop-node.engines c.loop-node.node c.in-Some.number _ f.told c.index-engines-node.result c.hand_over.new.engine there c.in-Some.is f.at_first engine
          (λ held fresh. c.hand_over.ensures.engine c.index-as_slice-node.result c.loop-node.node held f.told (sym c.index-engines-node.is ∙ fresh) f.lies) (c.loop-node.invariant.1 streams all)),
      left_taken _ _ _ _ c.loop-node.node c.in-Some.number _ f.told c.loop-node.invariant.2 there c.in-Some.is f.lies c.hand_over.ensures.taken,
    )

pub returns-clause-engines : goal.returns-clause-engines
returns-clause-engines g c = λ streams all.
    let all_nodes : c.loop-node.node ≡ length c.args.plan.now.nodes = search rules in
    engines_last c.args.plan.now streams _ _ c.loop-node.node all_nodes (c.loop-node.invariant.1 streams all)

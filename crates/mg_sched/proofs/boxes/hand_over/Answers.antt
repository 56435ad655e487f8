use Rattle.std.proofs.Common.{◌≡◌, true, Some, Option, option_map, map, slice_get, set, ap, sym, refl, ◌∙◌}
use Rattle.mg_calc.specs.Told.{BoxTold}
use Rattle.mg_route.specs.HolderView.{holder_view}
use Rattle.mg_node.specs.Fresh.{fresh_engine}
use Rattle.mg_node.proofs.Lemmas.{some_same}
use Rattle.mg_calc.proofs.Earlier.{get_map, get_or_some}
use Rattle.mg_sched.proofs.HandedOut.{map_set}
use Rattle.mg_sched.proofs.boxes.hand_over.Goals as goal

pub returns-clause-taken : goal.returns-clause-taken
returns-clause-taken g c = map_set (option_map g.C.NodeCalculator.told) c.args.places.now c.args.number c.take.new.self ∙ ap (λ (o : Option BoxTold). set (map (option_map g.C.NodeCalculator.told) c.args.places.now) c.args.number o) (ap (option_map g.C.NodeCalculator.told) c.take.ensures.after)

pub returns-clause-engine : goal.returns-clause-engine
returns-clause-engine g c = λ node place told calculator fresh there.
    let lies : slice_get c.args.places.now c.args.number ≡ Some c.index-places-number.result = get_or_some c.args.places.now c.args.number _ c.requires.number (sym c.index-places-number.is) in
    let handed : c.index-places-number.result ≡ Some c.in-Some.calculator = c.index-places-number.is ∙ sym c.take.ensures.value ∙ c.in-Some.is in
    let same : Some (g.C.NodeCalculator.told c.in-Some.calculator) ≡ Some calculator =
    ap (option_map g.C.NodeCalculator.told) (sym handed) ∙ some_same _ _ _ (get_map (option_map g.C.NodeCalculator.told) c.args.places.now c.args.number _ lies) there in
    c.hand_in.ensures node place told fresh ∙ ap (λ (t : BoxTold). fresh_engine node place (holder_view true t)) (some_same _ _ _ refl same)

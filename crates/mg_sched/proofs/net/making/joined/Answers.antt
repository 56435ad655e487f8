use Rattle.std.proofs.Common.{◌≡◌, ◌∙◌, List, Option, IsSome, All, length, map, option_map, ap, sym, refl, subst}
use Rattle.std.specs.Vec.{with_items}
use Rattle.std.proofs.lemmas.List.{length-map, with_items_is}
use Rattle.mg_calc.specs.Told.{BoxTold}
use Rattle.mg_node.specs.Views.{EngineView}
use Rattle.mg_node.specs.Fresh.{own_told}
use Rattle.mg_sched.specs.Code.Made.{AtPlaces, IsEngineAt, IsLeftOver, FindEach, first_holder}
use Rattle.mg_sched.proofs.NewBoxes.{given_of, seen_laid, laid, all_there, find_each}
use Rattle.mg_sched.proofs.NewNets.{joined_made}
use Rattle.mg_sched.proofs.net.making.joined.Goals as goal

pub hand_out-requires-clause-full : goal.hand_out-requires-clause-full
hand_out-requires-clause-full g c =
    let lies = laid _ _ _ (c.deref_mut.ensures.value ∙ c.lay_out.ensures.items) c.requires.none in
    subst (All (λ p. IsSome p)) (sym lies) (all_there c.args.boxes.items)

pub hand_out-requires-clause-find : goal.hand_out-requires-clause-find
hand_out-requires-clause-find g c =
    let lies = laid _ _ _ (c.deref_mut.ensures.value ∙ c.lay_out.ensures.items) c.requires.none in
    subst (FindEach c.args.plan.now.nodes) (sym (seen_laid g.C.NodeCalculator.told _ _ lies)) (find_each c.args.plan.now (map g.C.NodeCalculator.told c.args.boxes.items) c.requires.boxes)

pub returns : goal.returns
returns g c = λ inputs is parts.
    let lies = laid _ _ _ (c.deref_mut.ensures.value ∙ c.lay_out.ensures.items) c.requires.none in
    let seen = seen_laid g.C.NodeCalculator.told _ _ lies in
    let plan = c.args.plan.now in
    let whole : (with_items c.args.parts.cells.engines c.hand_out.new.engines).items ≡ c.hand_out.new.engines =
    with_items_is c.args.parts.cells.engines c.hand_out.new.engines (c.hand_out.ensures.count ∙ c.deref_mut-2.ensures.len) in
    let places : (with_items c.lay_out.new.places c.hand_out.new.places).items ≡ c.hand_out.new.places =
    with_items_is c.lay_out.new.places c.hand_out.new.places (sym (length-map c.hand_out.new.places (option_map g.C.NodeCalculator.told)) ∙ c.hand_out.ensures.left.places ∙ length-map c.deref_mut.result.now (option_map g.C.NodeCalculator.told) ∙ c.deref_mut.ensures.len) in
    joined_made plan inputs (map g.C.NodeCalculator.told c.args.boxes.items) _ _ is c.requires.boxes parts refl
    (ap (λ (es : List EngineView). length es) whole ∙ c.hand_out.ensures.count ∙ ap (λ (es : List EngineView). length es) c.deref_mut-2.ensures.value)
    (λ all. subst (AtPlaces (IsEngineAt plan inputs.streams (λ _ node. first_holder (given_of (map g.C.NodeCalculator.told c.args.boxes.items)) node))) (sym whole)
    (subst (λ (os : List (Option BoxTold)). AtPlaces (IsEngineAt plan inputs.streams (λ _ node. first_holder os node)) c.hand_out.new.engines) seen
    (c.hand_out.ensures.engines inputs.streams (subst (AtPlaces (IsEngineAt plan inputs.streams (λ _ node. own_told node))) (sym c.deref_mut-2.ensures.value) all))))
    (subst (λ (ps : List (Option g.row.C.Denot)). IsLeftOver plan.nodes (given_of (map g.C.NodeCalculator.told c.args.boxes.items)) (length plan.nodes) (map (option_map g.C.NodeCalculator.told) ps)) (sym places)
    (subst (λ (os : List (Option BoxTold)). IsLeftOver plan.nodes os (length plan.nodes) (map (option_map g.C.NodeCalculator.told) c.hand_out.new.places)) seen c.hand_out.ensures.left)) refl refl

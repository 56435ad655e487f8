use Rattle.std.proofs.Common.{ℕ, ◌≡◌, ◌*◌, ◌<◌, ◌∙◌, length, length-append, [], ◌∷◌, ◌++◌, ap, sym, subst, refl, arith, List}
use Rattle.std.proofs.lemmas.List.{length-reverse}
use Rattle.mg_node.specs.Views.{IntakeView}
use Rattle.mg_turns.specs.Words.{intake_of, whose}
use Rattle.mg_turns.specs.Parts.{PartView, an_intake}
use Rattle.mg_turns.proofs.Words.{intake_at}
use Rattle.mg_workers.specs.Code.Weaving.{IsWovenFrom}
use Rattle.mg_workers.proofs.Weaves.{put_intake_is, all_woven, turned_of}
use Rattle.mg_workers.proofs.weaving.weave.Goals as goal

pub returns-clause-of : goal.returns-clause-of
returns-clause-of g c =
    let counts = c.if-not-weave_nodes.ensures.counts refl in
    let more : c.push_reserved.new.self.items ≡ c.weave_nodes.new.parts.items ++ an_intake c.in-Some.intake.value ∷ [] = c.push_reserved.ensures.items ∙ ap (λ (p : PartView). c.weave_nodes.new.parts.items ++ p ∷ []) c.of_intake.ensures in
    let one_more = ap (λ (xs : List PartView). length xs) more ∙ length-append c.weave_nodes.new.parts.items (an_intake c.in-Some.intake.value ∷ []) in
    let word : 2 * c.args.nodes ≡ length c.weave_nodes.new.parts.items = sym counts.0 in
    let nodes : IsWovenFrom c.args.nodes c.args.engines.now.items c.args.intakes.now.items c.weave_nodes.new.parts.items c.weave_nodes.new.engines.items c.weave_nodes.new.intakes.items =
    turned_of c.args.nodes c.args.engines.now.items c.reverse.new.self.items c.args.intakes.now.items c.reverse-2.new.self.items _ _ _ c.reverse.ensures.items c.reverse-2.ensures.items c.weave_nodes.ensures.of in
    let it = put_intake_is c.args.nodes _ _ c.weave_nodes.new.parts.items c.push_reserved.new.self.items c.weave_nodes.new.engines.items c.weave_nodes.new.intakes.items c.box_last.new.items.items c.args.nodes
    (subst (λ (k : ℕ). whose c.args.nodes k ≡ intake_of c.args.nodes) word (intake_at c.args.nodes c.args.nodes (omega arith))) (c.in-Some.intake.value, c.in-Some.ensures.boxed, more) nodes in
    c.weave_inputs.ensures.of c.args.nodes _ _ c.box_last.new.items.items (omega (arith, word, one_more)) it

no_more : (xs : List IntakeView) → length xs ≡ 0 → xs ≡ []
no_more [] none = refl
no_more (x ∷ xs) none = absurd (omega (arith, none))

pub returns-clause-woven : goal.returns-clause-woven
returns-clause-woven g c = λ ok.
    let counts = c.if-not-weave_nodes.ensures.counts refl in
    let more : c.push_reserved.new.self.items ≡ c.weave_nodes.new.parts.items ++ an_intake c.in-Some.intake.value ∷ [] = c.push_reserved.ensures.items ∙ ap (λ (p : PartView). c.weave_nodes.new.parts.items ++ p ∷ []) c.of_intake.ensures in
    let one_more = ap (λ (xs : List PartView). length xs) more ∙ length-append c.weave_nodes.new.parts.items (an_intake c.in-Some.intake.value ∷ []) in
    let one_less = ap (λ (xs : List IntakeView). length xs) c.in-Some.ensures.boxed ∙ length-append c.box_last.new.items.items (c.in-Some.intake.value ∷ []) in
    let long : 2 * c.args.nodes < length c.weave_inputs.new.parts.items = omega (arith, counts.0, one_more, c.weave_inputs.ensures.more) in
    let turned = ap (λ (xs : List IntakeView). length xs) c.reverse-2.ensures.items ∙ length-reverse c.args.intakes.now.items in
    let none = no_more c.box_last.new.items.items (omega (arith, counts.2, one_less, turned, c.requires.counts.1)) in
    let empty = c.weave_inputs.ensures.all ok in
    (all_woven c.args.nodes c.args.engines.now.items c.args.intakes.now.items c.weave_inputs.new.parts.items c.weave_inputs.new.engines.items c.box_last.new.items.items long empty none (returns-clause-of g c), empty, none)

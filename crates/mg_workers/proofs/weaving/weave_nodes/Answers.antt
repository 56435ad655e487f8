use Rattle.std.proofs.Common.{ℕ, ◌≡◌, ◌+◌, ◌*◌, ◌∙◌, length, length-append, [], ◌∷◌, ◌++◌, ap, sym, subst, refl, arith, List, reverse}
use Rattle.mg_node.specs.Views.{IntakeView, EngineView}
use Rattle.mg_node.specs.Lawful.{of_node}
use Rattle.mg_turns.specs.Words.{intake_of, engine_of, whose}
use Rattle.mg_turns.specs.Parts.{PartView, an_engine, an_intake}
use Rattle.mg_turns.proofs.Words.{intake_at, engine_at}
use Rattle.mg_workers.proofs.Weaves.{put_engine_is, put_intake_is, stays_of}
use Rattle.mg_workers.proofs.weaving.weave_nodes.Goals as goal

pub returns-in_default-box_last-clause-of : goal.returns-in_default-box_last-clause-of
returns-in_default-box_last-clause-of g c =
    let more : c.push_reserved.new.self.items ≡ c.loop.parts.items ++ an_intake c.in-Some.intake.value ∷ [] = c.push_reserved.ensures.items ∙ ap (λ (p : PartView). c.loop.parts.items ++ p ∷ []) c.of_intake.ensures in
    let word : 2 * c.loop.counter ≡ length c.loop.parts.items = sym c.loop.invariant.1 in
    let it = put_intake_is c.args.nodes (reverse c.args.engines.now.items) (reverse c.args.intakes.now.items) c.loop.parts.items c.push_reserved.new.self.items c.loop.engines.items c.loop.intakes.items c.box_last.new.items.items c.loop.counter
    (subst (λ (k : ℕ). whose c.args.nodes k ≡ intake_of c.loop.counter) word (intake_at c.args.nodes c.loop.counter c.loop.invariant.7)) (c.in-Some.intake.value, c.in-Some.ensures.boxed, more) c.loop.invariant.0 in
    stays_of c.args.nodes _ _ c.push_reserved.new.self.items c.push_reserved.new.self.items c.loop.engines.items c.box_last-in-loop.new.items.items c.box_last.new.items.items c.box_last.new.items.items refl c.in_default-box_last.ensures.unchanged refl it

pub loop-preserved : goal.loop-preserved
loop-preserved g c =
    let more : c.push_reserved.new.self.items ≡ c.loop.parts.items ++ an_intake c.in-Some.intake.value ∷ [] = c.push_reserved.ensures.items ∙ ap (λ (p : PartView). c.loop.parts.items ++ p ∷ []) c.of_intake.ensures in
    let further : c.push_reserved-in-loop.new.self.items ≡ c.push_reserved.new.self.items ++ an_engine c.in-Some-box_last.engine.value ∷ [] = c.push_reserved-in-loop.ensures.items ∙ ap (λ (p : PartView). c.push_reserved.new.self.items ++ p ∷ []) c.of_engine.ensures in
    let less = c.loop-test.true in
    let word : 2 * c.loop.counter ≡ length c.loop.parts.items = sym c.loop.invariant.1 in
    let it = put_intake_is c.args.nodes (reverse c.args.engines.now.items) (reverse c.args.intakes.now.items) c.loop.parts.items c.push_reserved.new.self.items c.loop.engines.items c.loop.intakes.items c.box_last.new.items.items c.loop.counter
    (subst (λ (k : ℕ). whose c.args.nodes k ≡ intake_of c.loop.counter) word (intake_at c.args.nodes c.loop.counter c.loop.invariant.7)) (c.in-Some.intake.value, c.in-Some.ensures.boxed, more) c.loop.invariant.0 in
    let fewer_intakes = ap (λ (xs : List IntakeView). length xs) c.in-Some.ensures.boxed ∙ length-append c.box_last.new.items.items (c.in-Some.intake.value ∷ []) in
    let fewer_engines = ap (λ (xs : List EngineView). length xs) c.in-Some-box_last.ensures.boxed ∙ length-append c.box_last-in-loop.new.items.items (c.in-Some-box_last.engine.value ∷ []) in
    let one_more = ap (λ (xs : List PartView). length xs) more ∙ length-append c.loop.parts.items (an_intake c.in-Some.intake.value ∷ []) in
    let two_more = ap (λ (xs : List PartView). length xs) further ∙ length-append c.push_reserved.new.self.items (an_engine c.in-Some-box_last.engine.value ∷ []) in
    let other : 2 * c.loop.counter + 1 ≡ length c.push_reserved.new.self.items = omega (arith, word, one_more) in (
      put_engine_is c.args.nodes _ _ c.push_reserved.new.self.items c.push_reserved-in-loop.new.self.items c.loop.engines.items c.box_last-in-loop.new.items.items c.box_last.new.items.items (of_node c.loop.counter)
          (subst (λ (k : ℕ). whose c.args.nodes k ≡ engine_of (of_node c.loop.counter)) other (engine_at c.args.nodes c.loop.counter less)) (c.in-Some-box_last.engine.value, c.in-Some-box_last.ensures.boxed, further) it,
      omega (arith, other, two_more),
      omega (arith, fewer_engines, c.loop.invariant.2),
      omega (arith, fewer_intakes, c.loop.invariant.3),
      c.box_last-in-loop.ensures.room ∙ c.loop.invariant.4,
      c.box_last.ensures.room ∙ c.loop.invariant.5,
      c.push_reserved-in-loop.ensures.capacity ∙ (c.push_reserved.ensures.capacity ∙ c.loop.invariant.6),
      omega (arith, less),
    )

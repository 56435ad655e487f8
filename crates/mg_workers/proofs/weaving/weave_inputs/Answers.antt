use Rattle.std.proofs.Common.{◌≡◌, ◌∙◌, length, length-append, [], ◌∷◌, ◌++◌, ap, refl, arith, List}
use Rattle.mg_node.specs.Views.{EngineView}
use Rattle.mg_turns.specs.Parts.{PartView, an_engine}
use Rattle.mg_workers.proofs.Weaves.{put_engine_is, stays_of, word_of_input}
use Rattle.mg_workers.proofs.weaving.weave_inputs.Goals as goal

pub returns-clause-of : goal.returns-clause-of
returns-clause-of g c = λ nodes es is intakes past h.
    stays_of nodes es is c.loop-engine.parts.items c.loop-engine.parts.items c.loop-engine.engines.items c.box_last.new.items.items intakes intakes refl c.in_default.ensures.unchanged refl (c.loop-engine.invariant.0 nodes es is intakes past h)

pub push_reserved-requires : goal.push_reserved-requires
push_reserved-requires g c =
    let one_less = ap (λ (xs : List EngineView). length xs) c.in-Some.ensures.boxed ∙ length-append c.box_last.new.items.items (c.in-Some.engine.value ∷ []) in
    omega (arith, one_less, c.loop-engine.invariant.1)

pub loop-engine-preserved : goal.loop-engine-preserved
loop-engine-preserved g c =
    let more : c.push_reserved.new.self.items ≡ c.loop-engine.parts.items ++ an_engine c.in-Some.engine.value ∷ [] = c.push_reserved.ensures.items ∙ ap (λ (p : PartView). c.loop-engine.parts.items ++ p ∷ []) c.of_engine.ensures in
    let one_less = ap (λ (xs : List EngineView). length xs) c.in-Some.ensures.boxed ∙ length-append c.box_last.new.items.items (c.in-Some.engine.value ∷ []) in
    let one_more = ap (λ (xs : List PartView). length xs) more ∙ length-append c.loop-engine.parts.items (an_engine c.in-Some.engine.value ∷ []) in (
      λ nodes es is intakes past h.
          let it = word_of_input nodes (length c.loop-engine.parts.items) (omega (arith, past, c.loop-engine.invariant.2)) in
          put_engine_is nodes es is c.loop-engine.parts.items c.push_reserved.new.self.items c.loop-engine.engines.items c.box_last.new.items.items intakes it.0 it.1 (c.in-Some.engine.value, c.in-Some.ensures.boxed, more) (c.loop-engine.invariant.0 nodes es is intakes past h),
      omega (arith, one_less, one_more, c.loop-engine.invariant.1, c.push_reserved.ensures.capacity),
      omega (arith, one_more, c.loop-engine.invariant.2),
      c.box_last.ensures.room ∙ c.loop-engine.invariant.3,
      c.push_reserved.ensures.capacity ∙ c.loop-engine.invariant.4,
    )

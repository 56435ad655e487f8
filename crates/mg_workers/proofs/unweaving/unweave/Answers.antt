use Rattle.std.proofs.Common.{rules, ℕ, Some, ◌≡◌, ◌∙◌, length, ap, sym, subst, arith}
use Rattle.mg_node.specs.Views.{IntakeView, EngineView}
use Rattle.mg_turns.specs.Words.{intake_of, engine_of, whose}
use Rattle.mg_workers.proofs.Weaves.{engine_back_is, intake_back_is, engine_room, intake_room}
use Rattle.mg_workers.proofs.unweaving.unweave.Goals as goal

pub push_reserved-requires : goal.push_reserved-requires
push_reserved-requires g c =
    let of = c.is_intake.ensures.yes c.if-is_intake.true in
    let word : c.len.result ≡ length c.pop.new.self.items = search rules in
    let room = intake_room c.args.nodes _ _ c.loop-part.parts.items c.pop.new.self.items c.loop-part.engines.items c.loop-part.intakes.items c.in-Some.part of.0 c.in-Some.ensures.items (subst (λ (k : ℕ). whose c.args.nodes k ≡ intake_of of.0) word of.1) c.loop-part.invariant.0 in
    omega (arith, room, c.loop-part.invariant.2)

pub loop-part-preserved-then-is_intake : goal.loop-part-preserved-then-is_intake
loop-part-preserved-then-is_intake g c =
    let of = c.is_intake.ensures.yes c.if-is_intake.true in
    let word : c.len.result ≡ length c.pop.new.self.items = search rules in (
      intake_back_is c.args.nodes _ _ c.loop-part.parts.items c.pop.new.self.items c.loop-part.engines.items c.loop-part.intakes.items c.push_reserved.new.self.items c.in-Some.part c.into_inner.result of.0 c.in-Some.ensures.items
          (subst (λ (k : ℕ). whose c.args.nodes k ≡ intake_of of.0) word of.1) (c.into_intake.ensures ∙ ap (λ (i : IntakeView). Some i) (sym c.into_inner.ensures)) c.push_reserved.ensures.items c.loop-part.invariant.0,
      c.loop-part.invariant.1,
      omega (arith, c.loop-part.invariant.2, c.push_reserved.ensures.capacity),
      c.loop-part.invariant.3,
      c.push_reserved.ensures.capacity ∙ c.loop-part.invariant.4,
    )

pub push_reserved-requires-else-is_intake : goal.push_reserved-requires-else-is_intake
push_reserved-requires-else-is_intake g c =
    let of = c.is_intake.ensures.no c.if-is_intake.false in
    let word : c.len.result ≡ length c.pop.new.self.items = search rules in
    let room = engine_room c.args.nodes _ _ c.loop-part.parts.items c.pop.new.self.items c.loop-part.engines.items c.loop-part.intakes.items c.in-Some.part of.0 c.in-Some.ensures.items (subst (λ (k : ℕ). whose c.args.nodes k ≡ engine_of of.0) word of.1) c.loop-part.invariant.0 in
    omega (arith, room, c.loop-part.invariant.1)

pub loop-part-preserved : goal.loop-part-preserved
loop-part-preserved g c =
    let of = c.is_intake.ensures.no c.if-is_intake.false in
    let word : c.len.result ≡ length c.pop.new.self.items = search rules in (
      engine_back_is c.args.nodes _ _ c.loop-part.parts.items c.pop.new.self.items c.loop-part.engines.items c.push_reserved-else-is_intake.new.self.items c.loop-part.intakes.items c.in-Some.part c.into_inner-else-is_intake.result of.0 c.in-Some.ensures.items
          (subst (λ (k : ℕ). whose c.args.nodes k ≡ engine_of of.0) word of.1) (c.into_engine.ensures ∙ ap (λ (e : EngineView). Some e) (sym c.into_inner-else-is_intake.ensures)) c.push_reserved-else-is_intake.ensures.items c.loop-part.invariant.0,
      omega (arith, c.loop-part.invariant.1, c.push_reserved-else-is_intake.ensures.capacity),
      c.loop-part.invariant.2,
      c.push_reserved-else-is_intake.ensures.capacity ∙ c.loop-part.invariant.3,
      c.loop-part.invariant.4,
    )

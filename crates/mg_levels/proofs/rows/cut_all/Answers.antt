use Rattle.std.proofs.Common.{◌≡◌, ◌<◌, ◌∷◌, ◌++◌, [], length, map, replicate, sym, ap, ◌∙◌, arith}
use Rattle.std.proofs.lemmas.List.{map-append, length-map, get_or-map, replicate_more}
use Rattle.std.proofs.Math.Seq.{map-set_same}
use Rattle.mg_levels.specs.Hands.{hand_id, hand_view, queue_id, fresh}
use Rattle.mg_levels.specs.Code.Rows.{views_in}
use Rattle.mg_levels.proofs.HandRows.{same_at, same_length, has_more, cut_more, ids_more}
use Rattle.mg_levels.proofs.rows.cut_all.Goals as goal

pub cut_at-requires-clause-id : goal.cut_at-requires-clause-id
cut_at-requires-clause-id c =
    let many : length c.args.hands.now ≡ length c.args.queues.now = same_length hand_id queue_id _ _ c.requires.of in
    let now : length c.loop-level.hands ≡ length c.args.hands.now = c.loop-level.auto.hands in
    let test : c.loop-level.level < length c.args.queues.now = c.loop-level-test.true in
    same_at hand_id queue_id c.loop-level.hands c.args.queues.now _ _ _ (c.loop-level.invariant.0 ∙ c.requires.of) (omega (arith, many, now, test)) test c.index-queues-level.is

pub cut_at-requires-clause-portion : goal.cut_at-requires-clause-portion
cut_at-requires-clause-portion c =
    let many : length c.args.hands.now ≡ length c.args.queues.now = same_length hand_id queue_id _ _ c.requires.of in
    let now : length c.loop-level.hands ≡ length c.args.hands.now = c.loop-level.auto.hands in
    let test : c.loop-level.level < length c.args.queues.now = c.loop-level-test.true in
    (c.requires.portions.0, has_more c.args.portion c.args.hands.now c.loop-level.hands c.loop-level.level _ (omega (arith, many, test)) (omega (arith, many, now, test)) c.loop-level.invariant.1 c.requires.portions.1)

pub loop-level-preserved : goal.loop-level-preserved
loop-level-preserved c =
    let many : length c.args.hands.now ≡ length c.args.queues.now = same_length hand_id queue_id _ _ c.requires.of in
    let now : length c.loop-level.hands ≡ length c.args.hands.now = c.loop-level.auto.hands in
    let test : c.loop-level.level < length c.args.queues.now = c.loop-level-test.true in
    let ids : length (map queue_id c.args.queues.now) ≡ length c.args.queues.now = length-map c.args.queues.now queue_id in
    let inv = c.loop-level.invariant in
    let pushed : c.push_reserved.new.self.items ≡ c.loop-level.into.items ++ c.cut_at.result ∷ [] = c.push_reserved.ensures.items in (
      map-set_same hand_id c.loop-level.hands _ c.cut_at.new.hand _ c.cut_at.ensures.hand.0 ∙ inv.0,
      cut_more c.args.portion c.args.hands.now c.loop-level.hands c.loop-level.level _ (omega (arith, many, test)) (omega (arith, many, now, test)) inv.1 c.cut_at.new.hand c.cut_at.ensures.hand.1,
      ap (map hand_id) pushed ∙ ids_more hand_id (map queue_id c.args.queues.now) c.loop-level.into.items c.cut_at.result c.loop-level.level _ inv.2 (omega (arith, ids, test))
          (c.cut_at.ensures.new.0 ∙ ap queue_id c.index-queues-level.is ∙ sym (get_or-map queue_id c.args.queues.now c.loop-level.level _ (queue_id c.index-queues-level.result) test)),
      ap views_in pushed ∙ map-append hand_view c.loop-level.into.items (c.cut_at.result ∷ []) ∙ ap (λ l. l ++ hand_view c.cut_at.result ∷ []) inv.3
          ∙ ap (λ h. replicate c.loop-level.level (fresh c.args.portion) ++ h ∷ []) c.cut_at.ensures.new.1 ∙ replicate_more c.loop-level.level (fresh c.args.portion),
      c.push_reserved.ensures.capacity ∙ inv.4,
    )

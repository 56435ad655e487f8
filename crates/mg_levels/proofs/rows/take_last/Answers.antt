use Rattle.std.proofs.Common.{All, ◌≡◌, ◌-◌, ◌<◌, ◌≤◌, List, ℕ, length, sym, refl, ap, ◌∙◌, subst, arith}
use Rattle.std.proofs.lemmas.List.{length-map}
use Rattle.std.proofs.Math.Seq.{map-set_same}
use Rattle.mg_levels.specs.Hands.{HandView, hand_id, hand_view, queue_id}
use Rattle.mg_levels.specs.Places.{FoundEmptyFrom}
use Rattle.mg_levels.specs.Code.Rows.{views_in}
use Rattle.mg_levels.specs.declared.hand.Hand.{Hand}
use Rattle.mg_levels.proofs.HandRows.{same_at, same_length, part_at, none_found, taken_now, emptied_now}
use Rattle.mg_levels.proofs.rows.take_last.Goals as goal

-- the number of hands is the number of queues
long : (hands : List Hand) (n : ℕ) → length hands ≡ n → length (views_in hands) ≡ n
long hands n size = length-map hands hand_view ∙ size

pub loop-level-init : goal.loop-level-init
loop-level-init g c = (refl, refl, none_found (views_in c.args.hands.now) _ (long c.args.hands.now _ (same_length hand_id queue_id _ _ c.requires.of)))

pub take_at-requires-clause-id : goal.take_at-requires-clause-id
take_at-requires-clause-id g c =
    let many : length c.args.hands.now ≡ length c.args.queues.now = same_length hand_id queue_id _ _ c.requires.of in
    let now : length c.loop-level.hands ≡ length c.args.hands.now = c.loop-level.auto.hands in
    let within : c.loop-level.level ≤ length c.args.queues.now = c.loop-level.auto.level in
    let test : 0 < c.loop-level.level = c.loop-level-test.true in
    same_at hand_id queue_id c.loop-level.hands c.args.queues.now _ _ _ (c.loop-level.invariant.0 ∙ c.requires.of) (omega (arith, many, now, within, test)) (omega (arith, within, test)) c.index-queues-level.is

pub take_at-requires-clause-portion : goal.take_at-requires-clause-portion
take_at-requires-clause-portion g c =
    let many : length c.args.hands.now ≡ length c.args.queues.now = same_length hand_id queue_id _ _ c.requires.of in
    let now : length c.loop-level.hands ≡ length c.args.hands.now = c.loop-level.auto.hands in
    let within : c.loop-level.level ≤ length c.args.queues.now = c.loop-level.auto.level in
    let test : 0 < c.loop-level.level = c.loop-level-test.true in
    part_at (λ p. 0 < p) (λ (h : Hand). h.pass.me.0.client.portion) c.loop-level.hands _ _ (subst (λ l. All (λ p. 0 < p) l) (sym c.loop-level.invariant.1) c.requires.portions) (omega (arith, many, now, within, test))

pub returns-in-Some-clause-same : goal.returns-in-Some-clause-same
returns-in-Some-clause-same g c = (
  map-set_same hand_id c.loop-level.hands _ c.take_at.new.hand _ c.in-Some.ensures.id ∙ c.loop-level.invariant.0,
  map-set_same (λ (h : Hand). h.pass.me.0.client.portion) c.loop-level.hands _ c.take_at.new.hand _ (ap (λ (h : HandView). h.portion) c.in-Some.ensures.taken) ∙ c.loop-level.invariant.1,
)

pub returns-in-Some-clause-taken : goal.returns-in-Some-clause-taken
returns-in-Some-clause-taken g c =
    let i = c.loop-level.level - 1 in
    let test : 0 < c.loop-level.level = c.loop-level-test.true in
    let many : length c.args.hands.now ≡ length c.args.queues.now = same_length hand_id queue_id _ _ c.requires.of in
    let now : length c.loop-level.hands ≡ length c.args.hands.now = c.loop-level.auto.hands in
    let within : c.loop-level.level ≤ length c.args.queues.now = c.loop-level.auto.level in
    taken_now c.loop-level.hands c.take_at.new.hand c.index-hands-level.result (views_in c.args.hands.now) c.in-Some.place c.loop-level.level test (omega (arith, many, now, within, test))
    c.loop-level.invariant.2 c.in-Some.ensures.taken

pub loop-level-preserved : goal.loop-level-preserved
loop-level-preserved g c =
    let test : 0 < c.loop-level.level = c.loop-level-test.true in
    let many : length c.args.hands.now ≡ length c.args.queues.now = same_length hand_id queue_id _ _ c.requires.of in
    let now : length c.loop-level.hands ≡ length c.args.hands.now = c.loop-level.auto.hands in
    let within : c.loop-level.level ≤ length c.args.queues.now = c.loop-level.auto.level in (
      map-set_same hand_id c.loop-level.hands _ c.take_at.new.hand _ c.in_default.ensures.id ∙ c.loop-level.invariant.0,
      map-set_same (λ (h : Hand). h.pass.me.0.client.portion) c.loop-level.hands _ c.take_at.new.hand _ (ap (λ (h : HandView). h.portion) c.in_default.ensures.taken.counted) ∙ c.loop-level.invariant.1,
      emptied_now c.loop-level.hands c.take_at.new.hand c.index-hands-level.result (views_in c.args.hands.now) c.loop-level.level test (omega (arith, many, now, within, test)) c.loop-level.invariant.2 c.in_default.ensures.taken,
    )

pub returns-clause-same : goal.returns-clause-same
returns-clause-same g c = (c.loop-level.invariant.0, c.loop-level.invariant.1)

pub returns-clause-taken : goal.returns-clause-taken
returns-clause-taken g c =
    let over : c.loop-level.level ≤ 0 = c.loop-level-test.false in
    subst (λ n. FoundEmptyFrom n (views_in c.args.hands.now) (views_in c.loop-level.hands)) (omega (arith, over)) c.loop-level.invariant.2

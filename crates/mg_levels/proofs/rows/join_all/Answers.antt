use Rattle.std.proofs.Common.{All, ◌≡◌, ◌+◌, ◌<◌, ◌∷◌, ◌++◌, [], ℕ, length, map, get_or, take, sym, ap, ◌∙◌, subst, arith}
use Rattle.std.proofs.lemmas.List.{length-map, get_or-map}
use Rattle.std.proofs.Math.Seq.{map-set_same}
use Rattle.mg_levels.specs.Hands.{HandView, hand_id, queue_id}
use Rattle.mg_levels.specs.Code.Rows.{views_in, portions_in, joined_all}
use Rattle.mg_levels.specs.declared.hand.Hand.{Hand}
use Rattle.mg_levels.proofs.HandRows.{same_at, same_length, part_at, last_id, all_last, join_step, joined_end, nothing, portions_joined}
use Rattle.mg_levels.proofs.rows.join_all.Goals as goal

abbrev part : Hand → ℕ
part h = h.pass.me.0.client.portion

pub join_at-requires-clause-id : goal.join_at-requires-clause-id
join_at-requires-clause-id c =
    let inv = c.loop-other.invariant in
    let popped : c.loop-other.others.items ≡ c.pop.new.self.items ++ c.in-Some.other ∷ [] = c.in-Some.ensures.items in
    let n : c.len-level.result ≡ length c.pop.new.self.items = c.len-level.ensures ∙ c.pop.new.self.ok.0 in
    let last = last_id hand_id c.pop.new.self.items c.in-Some.other (map queue_id c.args.queues.now) (queue_id c.index-queues-level.result)
    (subst (λ l. map hand_id l ≡ take (length l) (map queue_id c.args.queues.now)) popped inv.1) in
    let ids : length (map queue_id c.args.queues.now) ≡ length c.args.queues.now = length-map c.args.queues.now queue_id in
    let less : length c.pop.new.self.items < length (map queue_id c.args.queues.now) = last.1 in
    let many : length c.loop-other.hands ≡ length c.args.queues.now = same_length hand_id queue_id _ _ inv.0 in
    let there : c.len-level.result < length c.args.queues.now = omega (arith, n, ids, less) in (
      same_at hand_id queue_id c.loop-other.hands c.args.queues.now _ _ _ inv.0 (omega (arith, many, there)) there c.index-queues-level.is,
      last.2 ∙ ap (λ k. get_or (map queue_id c.args.queues.now) k (queue_id c.index-queues-level.result)) (sym n)
          ∙ get_or-map queue_id c.args.queues.now c.len-level.result _ (queue_id c.index-queues-level.result) there ∙ ap queue_id (sym c.index-queues-level.is),
    )

pub join_at-requires-clause-portions : goal.join_at-requires-clause-portions
join_at-requires-clause-portions c =
    let inv = c.loop-other.invariant in
    let popped : c.loop-other.others.items ≡ c.pop.new.self.items ++ c.in-Some.other ∷ [] = c.in-Some.ensures.items in
    let n : c.len-level.result ≡ length c.pop.new.self.items = c.len-level.ensures ∙ c.pop.new.self.ok.0 in
    let last = last_id hand_id c.pop.new.self.items c.in-Some.other (map queue_id c.args.queues.now) (queue_id c.index-queues-level.result)
    (subst (λ l. map hand_id l ≡ take (length l) (map queue_id c.args.queues.now)) popped inv.1) in
    let ids : length (map queue_id c.args.queues.now) ≡ length c.args.queues.now = length-map c.args.queues.now queue_id in
    let less : length c.pop.new.self.items < length (map queue_id c.args.queues.now) = last.1 in
    let many : length c.loop-other.hands ≡ length c.args.queues.now = same_length hand_id queue_id _ _ inv.0 in (
      part_at (λ p. 0 < p) part c.loop-other.hands _ _ inv.2 (omega (arith, n, ids, less, many)),
      (all_last part (λ p. 0 < p) c.pop.new.self.items c.in-Some.other (subst (λ l. All (λ p. 0 < p) (portions_in l)) popped inv.3)).1,
    )

pub loop-other-preserved : goal.loop-other-preserved
loop-other-preserved c =
    let inv = c.loop-other.invariant in
    let popped : c.loop-other.others.items ≡ c.pop.new.self.items ++ c.in-Some.other ∷ [] = c.in-Some.ensures.items in
    let n : c.len-level.result ≡ length c.pop.new.self.items = c.len-level.ensures ∙ c.pop.new.self.ok.0 in
    let last = last_id hand_id c.pop.new.self.items c.in-Some.other (map queue_id c.args.queues.now) (queue_id c.index-queues-level.result)
    (subst (λ l. map hand_id l ≡ take (length l) (map queue_id c.args.queues.now)) popped inv.1) in
    let ids : length (map queue_id c.args.queues.now) ≡ length c.args.queues.now = length-map c.args.queues.now queue_id in
    let less : length c.pop.new.self.items < length (map queue_id c.args.queues.now) = last.1 in
    let many : length c.loop-other.hands ≡ length c.args.queues.now = same_length hand_id queue_id _ _ inv.0 in
    let there : c.len-level.result < length c.loop-other.hands = omega (arith, n, ids, less, many) in
    let others = all_last part (λ p. 0 < p) c.pop.new.self.items c.in-Some.other (subst (λ l. All (λ p. 0 < p) (portions_in l)) popped inv.3) in
    let mine : 0 < part (get_or c.loop-other.hands c.len-level.result c.index-hands-level.result) = part_at (λ p. 0 < p) part c.loop-other.hands _ _ inv.2 there in
    let sum_is : part c.join_at.new.hand ≡ part (get_or c.loop-other.hands c.len-level.result c.index-hands-level.result) + part c.in-Some.other = ap (λ (h : HandView). h.portion) c.join_at.ensures.1 in (
      map-set_same hand_id c.loop-other.hands _ c.join_at.new.hand _ c.join_at.ensures.0 ∙ inv.0,
      last.0,
      portions_joined c.loop-other.hands c.len-level.result c.join_at.new.hand (omega (arith, mine, sum_is)) inv.2,
      others.0,
      join_step c.loop-other.hands c.pop.new.self.items c.in-Some.other c.join_at.new.hand _ c.len-level.result n there c.join_at.ensures.1
          ∙ ap (λ l. joined_all (views_in c.loop-other.hands) (views_in l)) (sym popped) ∙ inv.4,
    )

pub returns : goal.returns
returns c =
    let inv = c.loop-other.invariant in
    let none : length c.loop-other.others.items ≡ 0 = sym c.loop-other.others.ok.0 ∙ c.in_default.ensures.cases.0 in
    (inv.0 ∙ sym c.requires.of.0, sym (joined_end c.loop-other.hands c.loop-other.others.items (nothing c.loop-other.others.items none)) ∙ inv.4)

use Rattle.std.proofs.Common.{All, ◌≡◌, ◌+◌, ◌/◌, ◌<◌, ◌≤◌, ◌∷◌, ◌++◌, [], ℕ, length, map, get_or, take, sum, sym, refl, ap, ◌∙◌, subst, arith, vec_capacity}
use Rattle.std.proofs.lemmas.List.{length-map, get_or-map}
use Rattle.crossbeam_queue.specs.Passes.{ruled_capacity}
use Rattle.mg_levels.specs.Balance.{whole}
use Rattle.mg_levels.specs.Hands.{hand_id, queue_id}
use Rattle.mg_levels.specs.Places.{times}
use Rattle.mg_levels.specs.Code.Rows.{views_in, portions_in, total_put, total_taken}
use Rattle.mg_levels.specs.declared.hand.Hand.{Hand}
use Rattle.mg_levels.proofs.HandRows.{same_length, last_id, all_last, ids_all, nothing}
use Rattle.mg_levels.proofs.LeftOver.{counted, put_last, taken_last, room_more, long_left, length-snoc, fits_all, no_change}
use Rattle.mg_levels.proofs.rows.drain_all.Goals as goal

abbrev part : Hand → ℕ
part h = h.pass.me.0.client.portion

pub drain-requires-clause-id : goal.drain-requires-clause-id
drain-requires-clause-id g c =
    let popped : c.loop-hand.hands.items ≡ c.pop.new.self.items ++ c.in-Some.hand ∷ [] = c.in-Some.ensures.items in
    let n : c.len.result ≡ length c.pop.new.self.items = c.len.ensures ∙ c.pop.new.self.ok.0 in
    let last = last_id hand_id c.pop.new.self.items c.in-Some.hand (map queue_id c.args.queues.now) (queue_id c.index-queues-len.result)
    (subst (λ l. map hand_id l ≡ take (length l) (map queue_id c.args.queues.now)) popped c.loop-hand.invariant.0) in
    let ids : length (map queue_id c.args.queues.now) ≡ length c.args.queues.now = length-map c.args.queues.now queue_id in
    let less : length c.pop.new.self.items < length (map queue_id c.args.queues.now) = last.1 in
    last.2 ∙ ap (λ k. get_or (map queue_id c.args.queues.now) k (queue_id c.index-queues-len.result)) (sym n)
    ∙ get_or-map queue_id c.args.queues.now c.len.result _ (queue_id c.index-queues-len.result) (omega (arith, n, ids, less)) ∙ ap queue_id (sym c.index-queues-len.is)

pub drain-requires-clause-whole : goal.drain-requires-clause-whole
drain-requires-clause-whole g c =
    let popped : c.loop-hand.hands.items ≡ c.pop.new.self.items ++ c.in-Some.hand ∷ [] = c.in-Some.ensures.items in
    (all_last part (λ p. p ≡ whole) c.pop.new.self.items c.in-Some.hand (subst (λ l. All (λ p. p ≡ whole) (portions_in l)) popped c.loop-hand.invariant.1)).1

pub drain-requires-clause-order : goal.drain-requires-clause-order
drain-requires-clause-order g c =
    let popped : c.loop-hand.hands.items ≡ c.pop.new.self.items ++ c.in-Some.hand ∷ [] = c.in-Some.ensures.items in
    let last = last_id hand_id c.pop.new.self.items c.in-Some.hand (map queue_id c.args.queues.now) (queue_id c.index-queues-len.result)
    (subst (λ l. map hand_id l ≡ take (length l) (map queue_id c.args.queues.now)) popped c.loop-hand.invariant.0) in
    let ids : length (map queue_id c.args.queues.now) ≡ length c.args.queues.now = length-map c.args.queues.now queue_id in
    let less : length c.pop.new.self.items < length (map queue_id c.args.queues.now) = last.1 in
    let many : length c.args.queues.now ≡ (length c.args.order.now + 31) / 32 = c.requires.order in
    omega (arith, ids, less, many)

pub drain-requires-clause-room : goal.drain-requires-clause-room
drain-requires-clause-room g c =
    let popped : c.loop-hand.hands.items ≡ c.pop.new.self.items ++ c.in-Some.hand ∷ [] = c.in-Some.ensures.items in
    let n : c.len.result ≡ length c.pop.new.self.items = c.len.ensures ∙ c.pop.new.self.ok.0 in
    let inv = c.loop-hand.invariant in
    let last = last_id hand_id c.pop.new.self.items c.in-Some.hand (map queue_id c.args.queues.now) (queue_id c.index-queues-len.result)
    (subst (λ l. map hand_id l ≡ take (length l) (map queue_id c.args.queues.now)) popped inv.0) in
    let ids : length (map queue_id c.args.queues.now) ≡ length c.args.queues.now = length-map c.args.queues.now queue_id in
    let caps : length (map ruled_capacity c.args.queues.now) ≡ length c.args.queues.now = length-map c.args.queues.now ruled_capacity in
    let less : length c.pop.new.self.items < length (map queue_id c.args.queues.now) = last.1 in
    let more = room_more (map ruled_capacity c.args.queues.now) c.len.result (ruled_capacity c.index-queues-len.result) (omega (arith, n, ids, less, caps)) in
    let at : get_or (map ruled_capacity c.args.queues.now) c.len.result (ruled_capacity c.index-queues-len.result) ≡ ruled_capacity c.index-queues-len.result =
    get_or-map ruled_capacity c.args.queues.now c.len.result _ (ruled_capacity c.index-queues-len.result) (omega (arith, n, ids, less)) ∙ ap ruled_capacity (sym c.index-queues-len.is) in
    let long : length c.loop-hand.hands.items ≡ c.len.result + 1 = ap length popped ∙ length-snoc c.pop.new.self.items c.in-Some.hand ∙ ap (λ k. k + 1) (sym n) in
    let few : length c.loop-hand.left.items + sum (take (c.len.result + 1) (map ruled_capacity c.args.queues.now)) ≤ sum (map ruled_capacity c.args.queues.now) =
    subst (λ k. length c.loop-hand.left.items + sum (take k (map ruled_capacity c.args.queues.now)) ≤ sum (map ruled_capacity c.args.queues.now)) long inv.2 in
    let room : sum (map ruled_capacity c.args.queues.now) ≤ vec_capacity c.args.left.now = c.requires.room.1 in
    let same : vec_capacity c.loop-hand.left ≡ vec_capacity c.args.left.now = inv.3 in
    omega (arith, more, at, few, room, same)

pub loop-hand-preserved : goal.loop-hand-preserved
loop-hand-preserved g c =
    let popped : c.loop-hand.hands.items ≡ c.pop.new.self.items ++ c.in-Some.hand ∷ [] = c.in-Some.ensures.items in
    let n : c.len.result ≡ length c.pop.new.self.items = c.len.ensures ∙ c.pop.new.self.ok.0 in
    let inv = c.loop-hand.invariant in
    let last = last_id hand_id c.pop.new.self.items c.in-Some.hand (map queue_id c.args.queues.now) (queue_id c.index-queues-len.result)
    (subst (λ l. map hand_id l ≡ take (length l) (map queue_id c.args.queues.now)) popped inv.0) in
    let ids : length (map queue_id c.args.queues.now) ≡ length c.args.queues.now = length-map c.args.queues.now queue_id in
    let caps : length (map ruled_capacity c.args.queues.now) ≡ length c.args.queues.now = length-map c.args.queues.now ruled_capacity in
    let less : length c.pop.new.self.items < length (map queue_id c.args.queues.now) = last.1 in
    let k = length c.pop.new.self.items in
    let more = room_more (map ruled_capacity c.args.queues.now) k (ruled_capacity c.index-queues-len.result) (omega (arith, ids, less, caps)) in
    let at : get_or (map ruled_capacity c.args.queues.now) k (ruled_capacity c.index-queues-len.result) ≡ ruled_capacity c.index-queues-len.result =
    ap (λ j. get_or (map ruled_capacity c.args.queues.now) j (ruled_capacity c.index-queues-len.result)) (sym n)
    ∙ get_or-map ruled_capacity c.args.queues.now c.len.result _ (ruled_capacity c.index-queues-len.result) (omega (arith, n, ids, less)) ∙ ap ruled_capacity (sym c.index-queues-len.is) in
    let long : length c.loop-hand.hands.items ≡ k + 1 = ap length popped ∙ length-snoc c.pop.new.self.items c.in-Some.hand in
    let few : length c.loop-hand.left.items + sum (take (k + 1) (map ruled_capacity c.args.queues.now)) ≤ sum (map ruled_capacity c.args.queues.now) =
    subst (λ j. length c.loop-hand.left.items + sum (take j (map ruled_capacity c.args.queues.now)) ≤ sum (map ruled_capacity c.args.queues.now)) long inv.2 in
    let put = long_left _ _ _ _ _ c.drain.ensures.left in (
      last.0,
      (all_last part (λ p. p ≡ whole) c.pop.new.self.items c.in-Some.hand (subst (λ l. All (λ p. p ≡ whole) (portions_in l)) popped inv.1)).0,
      omega (arith, more, at, few, put),
      c.drain.ensures.room ∙ inv.3,
      λ node.
          let before : total_put c.args.order.now node (views_in c.args.hands.items) + total_taken c.args.order.now node (views_in c.loop-hand.hands.items)
          ≡ total_taken c.args.order.now node (views_in c.args.hands.items) + times node c.loop-hand.left.items + total_put c.args.order.now node (views_in c.loop-hand.hands.items) = inv.4 node in
          let p : total_put c.args.order.now node (views_in c.loop-hand.hands.items) ≡ total_put c.args.order.now node (views_in (c.pop.new.self.items ++ c.in-Some.hand ∷ [])) = ap (λ l. total_put c.args.order.now node (views_in l)) popped in
          let t : total_taken c.args.order.now node (views_in c.loop-hand.hands.items) ≡ total_taken c.args.order.now node (views_in (c.pop.new.self.items ++ c.in-Some.hand ∷ [])) = ap (λ l. total_taken c.args.order.now node (views_in l)) popped in
          let p' = put_last c.args.order.now node c.pop.new.self.items c.in-Some.hand in
          let t' = taken_last c.args.order.now node c.pop.new.self.items c.in-Some.hand in
          let d = counted c.args.order.now node _ _ _ _ c.drain.ensures.left in
          omega (arith, before, p, t, p', t', d),
    )

pub loop-hand-init : goal.loop-hand-init
loop-hand-init g c =
    let none : length c.args.left.now.items ≡ 0 = ap length c.requires.room.0 in
    let all = ids_all hand_id queue_id c.args.hands.items c.args.queues.now c.requires.of in
    let many : length c.args.hands.items ≡ length c.args.queues.now = same_length hand_id queue_id _ _ c.requires.of in
    let caps : length (map ruled_capacity c.args.queues.now) ≡ length c.args.queues.now = length-map c.args.queues.now ruled_capacity in (
      all,
      c.requires.portions,
      fits_all (length c.args.left.now.items) (length c.args.hands.items) (map ruled_capacity c.args.queues.now) none (omega (arith, many, caps)),
      refl,
      λ node. no_change (total_put c.args.order.now node (views_in c.args.hands.items)) (total_taken c.args.order.now node (views_in c.args.hands.items)) (times node c.args.left.now.items) (ap (times node) c.requires.room.0),
    )

pub returns-clause-few : goal.returns-clause-few
returns-clause-few g c = let few = c.loop-hand.invariant.2 in omega (arith, few)

pub returns-clause-left : goal.returns-clause-left
returns-clause-left g c node =
    let none : length c.loop-hand.hands.items ≡ 0 = sym c.loop-hand.hands.ok.0 ∙ c.in_default.ensures.cases.0 in
    let empty : c.loop-hand.hands.items ≡ [] = nothing c.loop-hand.hands.items none in
    let p : total_put c.args.order.now node (views_in c.loop-hand.hands.items) ≡ 0 = ap (λ l. total_put c.args.order.now node (views_in l)) empty in
    let t : total_taken c.args.order.now node (views_in c.loop-hand.hands.items) ≡ 0 = ap (λ l. total_taken c.args.order.now node (views_in l)) empty in
    let all : total_put c.args.order.now node (views_in c.args.hands.items) + total_taken c.args.order.now node (views_in c.loop-hand.hands.items)
    ≡ total_taken c.args.order.now node (views_in c.args.hands.items) + times node c.loop-hand.left.items + total_put c.args.order.now node (views_in c.loop-hand.hands.items) = c.loop-hand.invariant.4 node in
    omega (arith, p, t, all)

use Rattle.std.proofs.Common.{All, Bool, true, false, MatchBool, ◌≡◌, ◌+◌, ◌/◌, ◌<◌, ℕ, length, map, set, get_or, slice_get, Some, sym, refl, ap, ◌∙◌, subst, arith}
use Rattle.std.proofs.lemmas.List.{map-set, length-map, get_or-map}
use Rattle.std.proofs.lemmas.List.Elements.{All-replicate}
use Rattle.std.proofs.lemmas.Option.{slice_get_within, slice_get-get_or, get_or_from_slice_get}
use Rattle.std.proofs.Math.Seq.{map-set_same}
use Rattle.crossbeam_queue.specs.Passes.{ruled_capacity}
use Rattle.mg_levels.specs.Hands.{HandView, hand_id, hand_view, queue_id, put_to, FoundFull}
use Rattle.mg_levels.specs.Places.{times_of}
use Rattle.mg_levels.specs.Code.Rows.{views_in}
use Rattle.mg_levels.specs.Levels.{order_of, hands_of, rooms_in, fulls_of, FoundFullAt}
use Rattle.mg_levels.specs.declared.hand.Hand.{Hand}
use Rattle.mg_levels.specs.declared.levels.Levels.{Levels}
use Rattle.mg_levels.specs.declared.seat.LevelSeat.{LevelSeat}
use Rattle.mg_levels.proofs.HandRows.{same_at, same_length, part_at}
use Rattle.mg_levels.proofs.SeatSteps.{node_there, seat_total, seat_same, put_puts, put_taken, put_empties, put_portion, same_takes, even_set}
use Rattle.mg_levels.proofs.levels.Levels.put.Goals as goal

-- the level of a node is there
within_levels : (order place queues hands : ℕ) → place < order → queues ≡ (order + 31) / 32 → hands ≡ queues → (place / 32 < hands) × (place / 32 < queues)
within_levels order place queues hands less many same = (omega (arith, less, many, same), omega (arith, less, many))

pub put_at-requires-clause-id : goal.put_at-requires-clause-id
put_at-requires-clause-id g c =
    let w = within_levels (length c.args.self.now.order) c.place_of-place.result (length c.args.self.now.queues.items) (length c.args.seat.now.hands.items)
    (slice_get_within _ _ _ c.place_of-place.ensures.at) c.args.self.now.levels (same_length hand_id queue_id _ _ c.requires.of) in
    ap hand_id c.index_mut.ensures.value ∙ same_at hand_id queue_id c.args.seat.now.hands.items c.args.self.now.queues.items _ _ _ c.requires.of w.0 w.1 c.index.ensures

pub put_at-requires-clause-portion : goal.put_at-requires-clause-portion
put_at-requires-clause-portion g c =
    let w = within_levels (length c.args.self.now.order) c.place_of-place.result (length c.args.self.now.queues.items) (length c.args.seat.now.hands.items)
    (slice_get_within _ _ _ c.place_of-place.ensures.at) c.args.self.now.levels (same_length hand_id queue_id _ _ c.requires.of) in
    subst (λ (h : Hand). 0 < h.pass.me.0.client.portion) (sym c.index_mut.ensures.value)
    (part_at (λ p. 0 < p) (λ (h : Hand). h.pass.me.0.client.portion) c.args.seat.now.hands.items _ c.index_mut.result.now
    (subst (λ l. All (λ p. 0 < p) l) (sym c.args.seat.now.even) (All-replicate (λ p. 0 < p) (length c.args.seat.now.hands.items) c.args.seat.now.portion c.args.seat.now.some)) w.0)

pub invariant_of-seat : goal.invariant_of-seat
invariant_of-seat g c = record {
  even = even_set c.args.seat.now.hands.items (c.place_of-place.result / 32) c.put_at.new.hand c.index_mut.result.now c.args.seat.now.portion
      (put_portion (ruled_capacity c.index.result.now) c.args.self.now.order 0 c.args.node c.place_of-place.result (hand_view c.index_mut.result.now) (hand_view c.put_at.new.hand) c.put_at.result c.put_at.ensures.put
      ∙ ap (λ (h : Hand). h.pass.me.0.client.portion) c.index_mut.ensures.value)
      c.args.seat.now.even;
  some = c.args.seat.now.some;
}

pub returns-clause-of : goal.returns-clause-of
returns-clause-of g c = (map-set_same hand_id c.args.seat.now.hands.items _ c.put_at.new.hand c.index_mut.result.now (c.put_at.ensures.id ∙ ap hand_id c.index_mut.ensures.value) ∙ c.requires.of, refl)

pub returns-clause-puts : goal.returns-clause-puts
returns-clause-puts g c n =
    let w = within_levels (length c.args.self.now.order) c.place_of-place.result (length c.args.self.now.queues.items) (length c.args.seat.now.hands.items)
    (slice_get_within _ _ _ c.place_of-place.ensures.at) c.args.self.now.levels (same_length hand_id queue_id _ _ c.requires.of) in
    let t = seat_total c.args.seat.now.hands.items (c.place_of-place.result / 32) c.put_at.new.hand c.index_mut.result.now w.0 (λ (h : HandView). times_of c.args.self.now.order n h.put) in
    let p = put_puts (ruled_capacity c.index.result.now) c.args.self.now.order n c.args.node c.place_of-place.result (hand_view c.index_mut.result.now) (hand_view c.put_at.new.hand) c.put_at.result c.put_at.ensures.put
    (node_there c.args.self.now.order c.place_of-place.result c.args.node c.place_of-place.ensures.at) in
    let was : times_of c.args.self.now.order n (hand_view c.index_mut.result.now).put ≡ times_of c.args.self.now.order n (hand_view (get_or c.args.seat.now.hands.items (c.place_of-place.result / 32) c.index_mut.result.now)).put =
    ap (λ (h : Hand). times_of c.args.self.now.order n (hand_view h).put) c.index_mut.ensures.value in
    omega (arith, t, p, was)

pub returns-clause-takes : goal.returns-clause-takes
returns-clause-takes g c n =
    let w = within_levels (length c.args.self.now.order) c.place_of-place.result (length c.args.self.now.queues.items) (length c.args.seat.now.hands.items)
    (slice_get_within _ _ _ c.place_of-place.ensures.at) c.args.self.now.levels (same_length hand_id queue_id _ _ c.requires.of) in
    same_takes c.args.self.now.order n (views_in (set c.args.seat.now.hands.items (c.place_of-place.result / 32) c.put_at.new.hand)) (views_in c.args.seat.now.hands.items)
    (seat_same c.args.seat.now.hands.items (c.place_of-place.result / 32) c.put_at.new.hand c.index_mut.result.now w.0 (λ (h : HandView). h.taken)
    (put_taken (ruled_capacity c.index.result.now) c.args.self.now.order 0 c.args.node c.place_of-place.result (hand_view c.index_mut.result.now) (hand_view c.put_at.new.hand) c.put_at.result c.put_at.ensures.put
    ∙ ap (λ (h : Hand). (hand_view h).taken) c.index_mut.ensures.value))

pub returns-clause-empties : goal.returns-clause-empties
returns-clause-empties g c =
    let w = within_levels (length c.args.self.now.order) c.place_of-place.result (length c.args.self.now.queues.items) (length c.args.seat.now.hands.items)
    (slice_get_within _ _ _ c.place_of-place.ensures.at) c.args.self.now.levels (same_length hand_id queue_id _ _ c.requires.of) in
    seat_same c.args.seat.now.hands.items (c.place_of-place.result / 32) c.put_at.new.hand c.index_mut.result.now w.0 (λ (h : HandView). h.empties)
    (put_empties (ruled_capacity c.index.result.now) c.args.self.now.order 0 c.args.node c.place_of-place.result (hand_view c.index_mut.result.now) (hand_view c.put_at.new.hand) c.put_at.result c.put_at.ensures.put
    ∙ ap (λ (h : Hand). (hand_view h).empties) c.index_mut.ensures.value)

full_by : (r : Bool) (levels : Levels) (node : ℕ) (old new : LevelSeat) (place : ℕ) (h w : HandView)
    → MatchBool r (w ≡ put_to h place) (FoundFull (get_or (rooms_in levels) (place / 32) 0) h w) → slice_get (order_of levels) place ≡ Some node → slice_get (hands_of old) (place / 32) ≡ Some h
    → hands_of new ≡ set (hands_of old) (place / 32) w → MatchBool r (fulls_of new ≡ fulls_of old) (FoundFullAt levels node old new)
full_by true levels node old new place h w is stands at set_is =
    ap (map (λ (v : HandView). v.fulls)) set_is
    ∙ map-set_same (λ (v : HandView). v.fulls) (hands_of old) (place / 32) w h (ap (λ (v : HandView). v.fulls) is ∙ ap (λ (v : HandView). v.fulls) (sym (get_or_from_slice_get (hands_of old) (place / 32) h h at)))
full_by false levels node old new place h w found stands at set_is = record {
  place = place;
  stands = stands;
  hand = h;
  at = at;
  counted = ap (map (λ (v : HandView). v.fulls)) set_is ∙ map-set (λ (v : HandView). v.fulls) (hands_of old) (place / 32) w ∙ ap (λ n. set (fulls_of old) (place / 32) n) (ap (λ (v : HandView). v.fulls) found.counted);
  held = found.held;
}

pub returns-clause-full : goal.returns-clause-full
returns-clause-full g c =
    let i = c.place_of-place.result / 32 in
    let w = within_levels (length c.args.self.now.order) c.place_of-place.result (length c.args.self.now.queues.items) (length c.args.seat.now.hands.items)
    (slice_get_within _ _ _ c.place_of-place.ensures.at) c.args.self.now.levels (same_length hand_id queue_id _ _ c.requires.of) in
    let room : get_or (rooms_in c.args.self.now) i 0 ≡ ruled_capacity c.index.result.now =
    get_or-map ruled_capacity c.args.self.now.queues.items i c.index.result.now 0 w.1 ∙ ap ruled_capacity (sym c.index.ensures) in
    full_by c.put_at.result c.args.self.now c.args.node c.args.seat.now _ c.place_of-place.result (hand_view c.index_mut.result.now) (hand_view c.put_at.new.hand)
    (subst (λ n. MatchBool c.put_at.result (hand_view c.put_at.new.hand ≡ put_to (hand_view c.index_mut.result.now) c.place_of-place.result) (FoundFull n (hand_view c.index_mut.result.now) (hand_view c.put_at.new.hand))) (sym room) c.put_at.ensures.put)
    c.place_of-place.ensures.at
    (slice_get-get_or (views_in c.args.seat.now.hands.items) i (hand_view c.index_mut.result.now) (subst (λ n. i < n) (sym (length-map c.args.seat.now.hands.items hand_view)) w.0)
    ∙ ap Some (get_or-map hand_view c.args.seat.now.hands.items i c.index_mut.result.now (hand_view c.index_mut.result.now) w.0 ∙ ap hand_view (sym c.index_mut.ensures.value)))
    (map-set hand_view c.args.seat.now.hands.items i c.put_at.new.hand)

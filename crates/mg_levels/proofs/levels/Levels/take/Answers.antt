use Rattle.std.proofs.Common.{All, ◌≡◌, ◌+◌, ◌<◌, List, Some, None, Option, MatchOption, is_some, true≢false, Contains, length, map, replicate, sym, refl, ap, ◌∙◌, subst, arith}
use Rattle.std.proofs.lemmas.List.{length-map}
use Rattle.mg_levels.specs.Hands.{HandView, hand_id, hand_view, queue_id}
use Rattle.mg_levels.specs.Places.{node_of, once, taken_once, FoundEmptyFrom, TookLast}
use Rattle.mg_levels.specs.Code.Rows.{views_in, portions_in, total_put, total_taken}
use Rattle.mg_levels.specs.declared.hand.Hand.{Hand}
use Rattle.mg_levels.proofs.HandRows.{same_length}
use Rattle.mg_levels.proofs.SeatSteps.{same_puts, same_takes, empty_same, took_same, took_takes, even_still, all_some, stands_in, whole_list}
use Rattle.mg_levels.proofs.levels.Levels.take.Goals as goal

pub take_last-requires-clause-portions : goal.take_last-requires-clause-portions
take_last-requires-clause-portions g c =
    subst (λ l. All (λ p. 0 < p) (portions_in l)) (sym c.deref_mut.ensures.value) (all_some c.args.seat.now.hands.items c.args.seat.now.portion c.args.seat.now.some c.args.seat.now.even)

pub invariant_of-seat : goal.invariant_of-seat
invariant_of-seat g c =
    let e = whole_list c.args.seat.now.hands c.take_last.new.hands (c.take_last.ensures.same.0 ∙ ap (map hand_id) c.deref_mut.ensures.value) in
    record {
      even = subst (λ (l : List Hand). portions_in l ≡ replicate (length l) c.args.seat.now.portion) (sym e) (even_still c.args.seat.now.hands.items c.take_last.new.hands c.args.seat.now.portion (c.take_last.ensures.same.1 ∙ ap portions_in c.deref_mut.ensures.value) c.args.seat.now.even);
      some = c.args.seat.now.some;
    }

pub returns-in_err-place-clause-takes : goal.returns-in_err-place-clause-takes
returns-in_err-place-clause-takes g c n =
    let e = whole_list c.args.seat.now.hands c.take_last.new.hands (c.take_last.ensures.same.0 ∙ ap (map hand_id) c.deref_mut.ensures.value) in
    let found : FoundEmptyFrom 0 (views_in c.args.seat.now.hands.items) (views_in c.take_last.new.hands) =
    subst (λ l. FoundEmptyFrom 0 (views_in l) (views_in c.take_last.new.hands)) c.deref_mut.ensures.value c.in_err-place.ensures.taken in
    let same : total_taken c.args.self.now.order n (views_in c.take_last.new.hands) ≡ total_taken c.args.self.now.order n (views_in c.args.seat.now.hands.items) =
    same_takes c.args.self.now.order n _ _ (empty_same (λ (h : HandView). h.taken) 0 (views_in c.args.seat.now.hands.items) (views_in c.take_last.new.hands) (λ h w f. ap (λ (v : HandView). v.taken) f.counted) found) in
    let none : taken_once c.from_residual.result n ≡ 0 = ap (λ o. taken_once o n) c.from_residual.ensures in
    subst (λ (l : List Hand). total_taken c.args.self.now.order n (views_in l) ≡ total_taken c.args.self.now.order n (views_in c.args.seat.now.hands.items) + taken_once c.from_residual.result n) (sym e) (omega (arith, same, none))

pub returns-in_err-place-clause-puts : goal.returns-in_err-place-clause-puts
returns-in_err-place-clause-puts g c n =
    let e = whole_list c.args.seat.now.hands c.take_last.new.hands (c.take_last.ensures.same.0 ∙ ap (map hand_id) c.deref_mut.ensures.value) in
    let found : FoundEmptyFrom 0 (views_in c.args.seat.now.hands.items) (views_in c.take_last.new.hands) =
    subst (λ l. FoundEmptyFrom 0 (views_in l) (views_in c.take_last.new.hands)) c.deref_mut.ensures.value c.in_err-place.ensures.taken in
    subst (λ (l : List Hand). total_put c.args.self.now.order n (views_in l) ≡ total_put c.args.self.now.order n (views_in c.args.seat.now.hands.items)) (sym e) (same_puts c.args.self.now.order n _ _ (empty_same (λ (h : HandView). h.put) 0 (views_in c.args.seat.now.hands.items) (views_in c.take_last.new.hands) (λ h w f. ap (λ (v : HandView). v.put) f.counted) found))

pub returns-in_err-place-clause-fulls : goal.returns-in_err-place-clause-fulls
returns-in_err-place-clause-fulls g c =
    let e = whole_list c.args.seat.now.hands c.take_last.new.hands (c.take_last.ensures.same.0 ∙ ap (map hand_id) c.deref_mut.ensures.value) in
    let found : FoundEmptyFrom 0 (views_in c.args.seat.now.hands.items) (views_in c.take_last.new.hands) =
    subst (λ l. FoundEmptyFrom 0 (views_in l) (views_in c.take_last.new.hands)) c.deref_mut.ensures.value c.in_err-place.ensures.taken in
    subst (λ (l : List Hand). map (λ (h : HandView). h.fulls) (views_in l) ≡ map (λ (h : HandView). h.fulls) (views_in c.args.seat.now.hands.items)) (sym e) (empty_same (λ (h : HandView). h.fulls) 0 (views_in c.args.seat.now.hands.items) (views_in c.take_last.new.hands) (λ h w f. ap (λ (v : HandView). v.fulls) f.counted) found)

pub returns-clause-of : goal.returns-clause-of
returns-clause-of g c =
    let e = whole_list c.args.seat.now.hands c.take_last.new.hands (c.take_last.ensures.same.0 ∙ ap (map hand_id) c.deref_mut.ensures.value) in
    (ap (map hand_id) e ∙ c.take_last.ensures.same.0 ∙ ap (map hand_id) c.deref_mut.ensures.value ∙ c.requires.of, refl)

pub returns-clause-node : goal.returns-clause-node
returns-clause-node g c =
    let took : TookLast c.in_ok-place.place (views_in c.args.seat.now.hands.items) (views_in c.take_last.new.hands) =
    subst (λ l. TookLast c.in_ok-place.place (views_in l) (views_in c.take_last.new.hands)) c.deref_mut.ensures.value c.in_ok-place.ensures.taken in
    subst (Contains c.args.self.now.order) (sym c.node_in.ensures)
    (stands_in c.args.self.now.order c.in_ok-place.place (length c.args.self.now.queues.items) (length c.args.seat.now.hands.items) _ _ took (length-map c.args.seat.now.hands.items hand_view)
    (same_length hand_id queue_id _ _ c.requires.of) c.args.self.now.levels)

pub returns-clause-takes : goal.returns-clause-takes
returns-clause-takes g c n =
    let e = whole_list c.args.seat.now.hands c.take_last.new.hands (c.take_last.ensures.same.0 ∙ ap (map hand_id) c.deref_mut.ensures.value) in
    let took : TookLast c.in_ok-place.place (views_in c.args.seat.now.hands.items) (views_in c.take_last.new.hands) =
    subst (λ l. TookLast c.in_ok-place.place (views_in l) (views_in c.take_last.new.hands)) c.deref_mut.ensures.value c.in_ok-place.ensures.taken in
    let a = took_takes c.args.self.now.order n c.in_ok-place.place _ _ took in
    let b : once n c.node_in.result ≡ once n (node_of c.args.self.now.order c.in_ok-place.place) = ap (once n) c.node_in.ensures in
    subst (λ (l : List Hand). total_taken c.args.self.now.order n (views_in l) ≡ total_taken c.args.self.now.order n (views_in c.args.seat.now.hands.items) + once n c.node_in.result) (sym e) (omega (arith, a, b))

pub returns-clause-puts : goal.returns-clause-puts
returns-clause-puts g c n =
    let e = whole_list c.args.seat.now.hands c.take_last.new.hands (c.take_last.ensures.same.0 ∙ ap (map hand_id) c.deref_mut.ensures.value) in
    let took : TookLast c.in_ok-place.place (views_in c.args.seat.now.hands.items) (views_in c.take_last.new.hands) =
    subst (λ l. TookLast c.in_ok-place.place (views_in l) (views_in c.take_last.new.hands)) c.deref_mut.ensures.value c.in_ok-place.ensures.taken in
    subst (λ (l : List Hand). total_put c.args.self.now.order n (views_in l) ≡ total_put c.args.self.now.order n (views_in c.args.seat.now.hands.items)) (sym e) (same_puts c.args.self.now.order n _ _ (took_same (λ (h : HandView). h.put) c.in_ok-place.place (views_in c.args.seat.now.hands.items) (views_in c.take_last.new.hands) (λ h w f. ap (λ (v : HandView). v.put) f.counted) (λ h. refl) took))

pub returns-clause-fulls : goal.returns-clause-fulls
returns-clause-fulls g c =
    let e = whole_list c.args.seat.now.hands c.take_last.new.hands (c.take_last.ensures.same.0 ∙ ap (map hand_id) c.deref_mut.ensures.value) in
    let took : TookLast c.in_ok-place.place (views_in c.args.seat.now.hands.items) (views_in c.take_last.new.hands) =
    subst (λ l. TookLast c.in_ok-place.place (views_in l) (views_in c.take_last.new.hands)) c.deref_mut.ensures.value c.in_ok-place.ensures.taken in
    subst (λ (l : List Hand). map (λ (h : HandView). h.fulls) (views_in l) ≡ map (λ (h : HandView). h.fulls) (views_in c.args.seat.now.hands.items)) (sym e) (took_same (λ (h : HandView). h.fulls) c.in_ok-place.place (views_in c.args.seat.now.hands.items) (views_in c.take_last.new.hands) (λ h w f. ap (λ (v : HandView). v.fulls) f.counted) (λ h. refl) took)

pub returns-clause-empty : goal.returns-clause-empty
returns-clause-empty g c =
    let e = whole_list c.args.seat.now.hands c.take_last.new.hands (c.take_last.ensures.same.0 ∙ ap (map hand_id) c.deref_mut.ensures.value) in
    record {
      place = c.in_ok-place.place;
      is = c.node_in.ensures;
      took = subst (λ (l : List Hand). TookLast c.in_ok-place.place (views_in c.args.seat.now.hands.items) (views_in l)) (sym e)
          (subst (λ l. TookLast c.in_ok-place.place (views_in l) (views_in c.take_last.new.hands)) c.deref_mut.ensures.value c.in_ok-place.ensures.taken);
    }

pub returns-in_err-place-clause-of : goal.returns-in_err-place-clause-of
returns-in_err-place-clause-of g c =
    let e = whole_list c.args.seat.now.hands c.take_last.new.hands (c.take_last.ensures.same.0 ∙ ap (map hand_id) c.deref_mut.ensures.value) in
    (ap (map hand_id) e ∙ c.take_last.ensures.same.0 ∙ ap (map hand_id) c.deref_mut.ensures.value ∙ c.requires.of, refl)

none_matches : {X : Type 0} (A : Type 0) (B : X → Type 0) (o : Option X) → o ≡ None → A → MatchOption o A B
none_matches A B None none a = a
none_matches A B (Some x) none a = absurd (some_none none)
  where
    some_none : {X : Type 0} {x : X} → Some x ≡ None → ⊥
    some_none p = true≢false (ap is_some p)

pub returns-in_err-place-clause-empty : goal.returns-in_err-place-clause-empty
returns-in_err-place-clause-empty g c =
    let e = whole_list c.args.seat.now.hands c.take_last.new.hands (c.take_last.ensures.same.0 ∙ ap (map hand_id) c.deref_mut.ensures.value) in
    let found : FoundEmptyFrom 0 (views_in c.args.seat.now.hands.items) (views_in c.take_last.new.hands) =
    subst (λ l. FoundEmptyFrom 0 (views_in l) (views_in c.take_last.new.hands)) c.deref_mut.ensures.value c.in_err-place.ensures.taken in
    none_matches _ _ c.from_residual.result c.from_residual.ensures (subst (λ (l : List Hand). FoundEmptyFrom 0 (views_in c.args.seat.now.hands.items) (views_in l)) (sym e) found)

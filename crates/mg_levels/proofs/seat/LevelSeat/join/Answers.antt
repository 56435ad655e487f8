use Rattle.std.proofs.Common.{All, ◌≡◌, ◌+◌, ◌<◌, List, length, map, replicate, sym, refl, ap, ◌∙◌, subst, arith}
use Rattle.std.specs.Vec.{with_items}
use Rattle.std.proofs.lemmas.List.{length-map}
use Rattle.mg_levels.specs.Hands.{HandView, hand_id, hand_view}
use Rattle.mg_levels.specs.Places.{times_of}
use Rattle.mg_levels.specs.Code.Rows.{views_in, portions_in, joined_all, total_put, total_taken}
use Rattle.mg_levels.specs.declared.hand.Hand.{Hand}
use Rattle.mg_levels.proofs.HandRows.{same_length}
use Rattle.mg_levels.proofs.SeatSteps.{even_joined, all_some, joined_total, joined_fulls, joined_empties, adds_put, adds_taken, whole_list}
use Rattle.mg_levels.proofs.seat.LevelSeat.join.Goals as goal

pub join_all-requires-clause-portions : goal.join_all-requires-clause-portions
join_all-requires-clause-portions c = (
  subst (λ l. All (λ p. 0 < p) (portions_in l)) (sym c.deref_mut.ensures.value) (all_some c.args.self.now.hands.items c.args.self.now.portion c.args.self.now.some c.args.self.now.even),
  all_some c.args.other.hands.items c.args.other.portion c.args.other.some c.args.other.even,
)

pub invariant_of-self : goal.invariant_of-self
invariant_of-self c =
    let long : length c.args.self.now.hands.items ≡ length c.args.other.hands.items = same_length hand_id hand_id _ _ (c.requires.of.0 ∙ sym c.requires.of.1) in
    let mine = c.args.self.now.some in
    let e = whole_list c.args.self.now.hands c.join_all.new.hands (c.join_all.ensures.0 ∙ ap (map hand_id) c.deref_mut.ensures.value) in
    record {
      even = subst (λ (l : List Hand). portions_in l ≡ replicate (length l) (c.args.self.now.portion + c.args.other.portion)) (sym e) (even_joined c.args.self.now.hands.items c.args.other.hands.items c.join_all.new.hands c.args.self.now.portion c.args.other.portion long
          (c.join_all.ensures.1 ∙ ap (λ l. joined_all (views_in l) (views_in c.args.other.hands.items)) c.deref_mut.ensures.value) c.args.self.now.even c.args.other.even);
      some = omega (arith, mine);
    }

pub returns-clause-adds : goal.returns-clause-adds
returns-clause-adds c =
    let long : length c.args.self.now.hands.items ≡ length c.args.other.hands.items = same_length hand_id hand_id _ _ (c.requires.of.0 ∙ sym c.requires.of.1) in
    let wide : length (views_in c.args.self.now.hands.items) ≡ length (views_in c.args.other.hands.items) = length-map c.args.self.now.hands.items hand_view ∙ long ∙ sym (length-map c.args.other.hands.items hand_view) in
    let e = whole_list c.args.self.now.hands c.join_all.new.hands (c.join_all.ensures.0 ∙ ap (map hand_id) c.deref_mut.ensures.value) in
    let is : views_in (with_items c.args.self.now.hands c.join_all.new.hands).items ≡ joined_all (views_in c.args.self.now.hands.items) (views_in c.args.other.hands.items) =
    ap views_in e ∙ c.join_all.ensures.1 ∙ ap (λ l. joined_all (views_in l) (views_in c.args.other.hands.items)) c.deref_mut.ensures.value in
    record {
      puts = λ node. ap (total_put c.args.levels.now.order node) is ∙ joined_total (λ (h : HandView). times_of c.args.levels.now.order node h.put) (adds_put c.args.levels.now.order node) _ _ wide;
      takes = λ node. ap (total_taken c.args.levels.now.order node) is ∙ joined_total (λ (h : HandView). times_of c.args.levels.now.order node h.taken) (adds_taken c.args.levels.now.order node) _ _ wide;
      fulls = ap (map (λ (h : HandView). h.fulls)) is ∙ joined_fulls _ _ wide;
      empties = ap (map (λ (h : HandView). h.empties)) is ∙ joined_empties _ _ wide;
    }

pub returns-clause-of : goal.returns-clause-of
returns-clause-of c =
    let e = whole_list c.args.self.now.hands c.join_all.new.hands (c.join_all.ensures.0 ∙ ap (map hand_id) c.deref_mut.ensures.value) in
    (ap (map hand_id) e ∙ c.join_all.ensures.0 ∙ ap (map hand_id) c.deref_mut.ensures.value ∙ c.requires.of.0, refl)

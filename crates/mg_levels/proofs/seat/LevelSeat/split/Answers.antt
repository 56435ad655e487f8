use Rattle.std.proofs.Common.{All, ◌≡◌, ◌-◌, ◌<◌, List, length, map, replicate, sym, refl, ap, ◌∙◌, subst, arith}
use Rattle.std.specs.Vec.{with_items}
use Rattle.mg_levels.specs.declared.hand.Hand.{Hand}
use Rattle.mg_levels.specs.Hands.{HandView, hand_id, queue_id, kept_hand, fresh}
use Rattle.mg_levels.specs.Code.Rows.{views_in, portions_in}
use Rattle.mg_levels.proofs.SeatSteps.{even_cut, even_from, all_more, kept_same, same_puts, same_takes, all_fresh, whole_list}
use Rattle.mg_levels.proofs.seat.LevelSeat.split.Goals as goal

pub cut_all-requires-clause-portions : goal.cut_all-requires-clause-portions
cut_all-requires-clause-portions c = (
  c.requires.portion.0,
  subst (λ l. All (λ p. c.args.portion < p) (portions_in l)) (sym c.deref_mut.ensures.value) (all_more c.args.self.now.hands.items c.args.self.now.portion c.args.portion c.requires.portion.1 c.args.self.now.even),
)

pub invariant_of-self : goal.invariant_of-self
invariant_of-self c =
    let less = c.requires.portion.1 in
    let e = whole_list c.args.self.now.hands c.cut_all.new.hands (c.cut_all.ensures.hands.0 ∙ ap (map hand_id) c.deref_mut.ensures.value) in
    record {
      even = subst (λ (l : List Hand). portions_in l ≡ replicate (length l) (c.args.self.now.portion - c.args.portion)) (sym e) (even_cut c.args.self.now.hands.items c.cut_all.new.hands c.args.self.now.portion c.args.portion
          (c.cut_all.ensures.hands.1 ∙ ap (λ l. map (λ (h : HandView). kept_hand h c.args.portion) (views_in l)) c.deref_mut.ensures.value) c.args.self.now.even);
      some = omega (arith, less);
    }

pub invariant_of-result : goal.invariant_of-result
invariant_of-result c = record { even = even_from c.cut_all.new.into.items _ c.args.portion c.cut_all.ensures.new.1; some = c.requires.portion.0 }

pub returns-clause-same : goal.returns-clause-same
returns-clause-same c =
    let e = whole_list c.args.self.now.hands c.cut_all.new.hands (c.cut_all.ensures.hands.0 ∙ ap (map hand_id) c.deref_mut.ensures.value) in
    let is : views_in (with_items c.args.self.now.hands c.cut_all.new.hands).items ≡ map (λ (h : HandView). kept_hand h c.args.portion) (views_in c.args.self.now.hands.items) =
    ap views_in e ∙ c.cut_all.ensures.hands.1 ∙ ap (λ l. map (λ (h : HandView). kept_hand h c.args.portion) (views_in l)) c.deref_mut.ensures.value in
    record {
      puts = λ node. same_puts c.args.levels.now.order node _ _ (ap (map (λ (h : HandView). h.put)) is ∙ kept_same (λ (h : HandView). h.put) c.args.portion (views_in c.args.self.now.hands.items) (λ h. refl));
      takes = λ node. same_takes c.args.levels.now.order node _ _ (ap (map (λ (h : HandView). h.taken)) is ∙ kept_same (λ (h : HandView). h.taken) c.args.portion (views_in c.args.self.now.hands.items) (λ h. refl));
      fulls = ap (map (λ (h : HandView). h.fulls)) is ∙ kept_same (λ (h : HandView). h.fulls) c.args.portion (views_in c.args.self.now.hands.items) (λ h. refl);
      empties = ap (map (λ (h : HandView). h.empties)) is ∙ kept_same (λ (h : HandView). h.empties) c.args.portion (views_in c.args.self.now.hands.items) (λ h. refl);
    }

pub returns-clause-new : goal.returns-clause-new
returns-clause-new c = (c.cut_all.ensures.new.0 ∙ ap (map queue_id) c.deref.ensures.value, refl, all_fresh (views_in c.cut_all.new.into.items) _ (fresh c.args.portion) c.cut_all.ensures.new.1)

pub returns-clause-of : goal.returns-clause-of
returns-clause-of c =
    let e = whole_list c.args.self.now.hands c.cut_all.new.hands (c.cut_all.ensures.hands.0 ∙ ap (map hand_id) c.deref_mut.ensures.value) in
    (ap (map hand_id) e ∙ c.cut_all.ensures.hands.0 ∙ ap (map hand_id) c.deref_mut.ensures.value ∙ c.requires.of, refl)

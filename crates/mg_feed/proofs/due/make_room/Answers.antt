use Rattle.std.proofs.Common.{◌++◌, ◌∷◌, [], List, length, take, sym, ap, subst, ◌∙◌}
use Rattle.std.proofs.lemmas.List.{take_more}
use Rattle.mg_feed.specs.Code.Due.{AllRoom}
use Rattle.mg_feed.specs.declared.due.Due.{Due}
use Rattle.mg_feed.proofs.Room.{all_room-after, all_room-push}
use Rattle.mg_feed.proofs.due.make_room.Goals as goal

pub loop-d-preserved : goal.loop-d-preserved
loop-d-preserved c =
    let kept = c.loop-d.invariant in
    let n = length c.args.due.now in
    record {
      kept = c.in_ok-make_room_at.ensures.kept ∙ kept.kept;
      taken = c.in_ok-make_room_at.ensures.taken ∙ kept.taken;
      room = subst (λ (ds : List Due). AllRoom n c.make_room_at.new.streams ds)
          (ap (λ x. take c.loop-d.d-index c.args.due.now ++ x ∷ []) c.d-item.is ∙ sym (take_more c.args.due.now c.loop-d.d-index c.d-item.result c.loop-d-test.true))
          (all_room-push n c.make_room_at.new.streams (take c.loop-d.d-index c.args.due.now) c.d-item.result
          (all_room-after n n c.loop-d.streams c.make_room_at.new.streams (take c.loop-d.d-index c.args.due.now) c.in_ok-make_room_at.ensures.others kept.room)
          c.in_ok-make_room_at.ensures.room);
    }

use Rattle.std.proofs.Common.{map, sym, ap, ◌∙◌, List}
use Rattle.std.specs.Vec.Iter.{into_iter_items}
use Rattle.mg_feed.specs.Code.Streams.{waiting}
use Rattle.mg_feed.specs.Code.Due.{with_due}
use Rattle.mg_feed.specs.declared.due.Due.{Due}
use Rattle.mg_feed.proofs.Room.{room-first, room-next}
use Rattle.mg_feed.proofs.due.lay.Goals as goal

pub lay_at-requires : goal.lay_at-requires
lay_at-requires c =
    room-first c.loop-d.streams (into_iter_items c.loop-d.d-iterator) (into_iter_items c.next.new.self) c.in-Some.d c.in-Some.ensures.steps.0 c.loop-d.invariant.room

pub loop-d-preserved : goal.loop-d-preserved
loop-d-preserved c =
    let kept = c.loop-d.invariant in
    let cut = c.in-Some.ensures.steps.0 in
    record {
      laid = ap (with_due (into_iter_items c.next.new.self)) c.lay_at.ensures.laid
          ∙ ap (λ (ds : List Due). with_due ds (map waiting c.loop-d.streams)) (sym cut) ∙ kept.laid;
      taken = c.lay_at.ensures.taken ∙ kept.taken;
      room = room-next c.loop-d.streams c.lay_at.new.streams (into_iter_items c.loop-d.d-iterator) (into_iter_items c.next.new.self) c.in-Some.d cut kept.room c.lay_at.ensures.room;
    }

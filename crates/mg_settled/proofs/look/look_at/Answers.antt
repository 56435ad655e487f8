use Rattle.std.proofs.Common.{◌<◌, ◌∙◌, min, length, ap, arith}
use Rattle.mg_settled.proofs.Looking.{low-more, earliest-more}
use Rattle.mg_settled.proofs.look.look_at.Goals as goal

pub loop-rest-preserved : goal.loop-rest-preserved
loop-rest-preserved c =
    let rests = c.args.rests.now in
    let i = c.loop-rest.rest-index in
    let below : i < length rests = omega arith in
    record {
      earliest =
          c.lesser-earliest.ensures
          ∙ ap (min c.loop-rest.earliest) c.first_time.ensures
          ∙ earliest-more rests i c.rest-item.result c.loop-rest.earliest below c.rest-item.is c.loop-rest.invariant.earliest;
      low =
          c.lesser-low.ensures
          ∙ ap (min c.loop-rest.low) c.bound.ensures
          ∙ low-more rests i c.rest-item.result c.loop-rest.low below c.rest-item.is c.loop-rest.invariant.low;
    }

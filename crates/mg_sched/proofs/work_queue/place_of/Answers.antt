use Rattle.std.proofs.Common.{◌≢◌, length, refl, arith}
use Rattle.std.proofs.lemmas.Option.{slice_get_read}
use Rattle.mg_sched.proofs.WorkQueuePlaces.{take_more, take_whole, other_number}
use Rattle.mg_sched.proofs.work_queue.place_of.Goals as goal

pub loop-place-preserved : goal.loop-place-preserved
loop-place-preserved g c =
    take_more (λ w. w.number ≢ c.args.number) c.args.works.now c.loop-place.place c.index-works-place.result c.loop-place.invariant
    (slice_get_read c.args.works.now (length c.args.works.now) c.loop-place.place c.index-works-place.result refl (omega (arith, c.loop-place-test.true)) c.index-works-place.is)
    (other_number _ c.args.number _ c.number.ensures c.if-number.false)

pub returns-clause-none : goal.returns-clause-none
returns-clause-none g c = take_whole (λ w. w.number ≢ c.args.number) c.args.works.now c.loop-place.place (omega (arith, c.loop-place-test.false, c.loop-place.auto.place-end)) c.loop-place.invariant

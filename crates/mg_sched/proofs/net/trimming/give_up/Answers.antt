use Rattle.std.proofs.Common.{get_or, refl}
use Rattle.std.proofs.lemmas.Option.{slice_get-get_or}
use Rattle.mg_sched.proofs.Trimming.{place_there, output_there, laid_enough, given_next}
use Rattle.mg_sched.proofs.net.trimming.give_up.Goals as goal

pub bounds-engines-place : goal.bounds-engines-place
bounds-engines-place g c = place_there c.args.plan.now c.args.got.now c.args.engines.now c.loop-stream.engines c.loop-stream.stream c.output_of-place.result.0 c.output_of-place.result.1 c.requires.outputs c.output_of-place.ensures.laid c.loop-stream.invariant

pub give_up-requires-clause-output : goal.give_up-requires-clause-output
give_up-requires-clause-output g c =
    let within = place_there c.args.plan.now c.args.got.now c.args.engines.now c.loop-stream.engines c.loop-stream.stream c.output_of-place.result.0 c.output_of-place.result.1 c.requires.outputs c.output_of-place.ensures.laid c.loop-stream.invariant in
    output_there c.args.plan.now c.args.got.now c.args.engines.now c.loop-stream.engines c.loop-stream.stream c.output_of-place.result.0 c.output_of-place.result.1 _ c.requires.outputs c.output_of-place.ensures.laid
    (slice_get-get_or c.loop-stream.engines c.output_of-place.result.0 c.index-engines-place.result within) c.loop-stream.invariant

pub give_up-requires-clause-laid : goal.give_up-requires-clause-laid
give_up-requires-clause-laid g c =
    let within = place_there c.args.plan.now c.args.got.now c.args.engines.now c.loop-stream.engines c.loop-stream.stream c.output_of-place.result.0 c.output_of-place.result.1 c.requires.outputs c.output_of-place.ensures.laid c.loop-stream.invariant in
    laid_enough c.args.plan.now c.args.got.now c.args.engines.now c.loop-stream.engines c.loop-stream.stream c.output_of-place.result.0 c.output_of-place.result.1 (get_or c.args.got.now c.loop-stream.stream 0) _ c.requires.outputs c.requires.within c.output_of-place.ensures.laid
    (slice_get-get_or c.loop-stream.engines c.output_of-place.result.0 c.index-engines-place.result within) refl c.loop-stream.invariant

pub loop-stream-preserved : goal.loop-stream-preserved
loop-stream-preserved g c =
    let within = place_there c.args.plan.now c.args.got.now c.args.engines.now c.loop-stream.engines c.loop-stream.stream c.output_of-place.result.0 c.output_of-place.result.1 c.requires.outputs c.output_of-place.ensures.laid c.loop-stream.invariant in
    given_next c.args.plan.now c.args.got.now c.args.engines.now c.loop-stream.engines c.loop-stream.stream c.output_of-place.result.0 c.output_of-place.result.1 (get_or c.args.got.now c.loop-stream.stream 0) _ c.give_up.new.self c.requires.outputs c.output_of-place.ensures.laid
    (slice_get-get_or c.loop-stream.engines c.output_of-place.result.0 c.index-engines-place.result within) refl c.give_up.ensures.given_up c.give_up.ensures.lawful c.loop-stream.invariant

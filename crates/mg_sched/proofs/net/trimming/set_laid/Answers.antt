use Rattle.std.proofs.Common.{◌∙◌, length-set, arith}
use Rattle.mg_sched.proofs.Finding.{read_at}
use Rattle.mg_sched.proofs.Trimming.{laid_next}
use Rattle.mg_sched.proofs.net.trimming.set_laid.Goals as goal

pub bounds-engines-place : goal.bounds-engines-place
bounds-engines-place g c = c.requires.outputs.place _ _ _ c.output_of-place.ensures.laid

pub count-requires : goal.count-requires
count-requires g c =
    (c.requires.outputs.output _ _ _ c.index-engines-place.result c.output_of-place.ensures.laid
    (read_at c.args.engines.now c.output_of-place.result.0 c.index-engines-place.result (c.requires.outputs.place _ _ _ c.output_of-place.ensures.laid) c.index-engines-place.is)).within

pub loop-stream-preserved : goal.loop-stream-preserved
loop-stream-preserved g c =
    let there = read_at c.args.engines.now c.output_of-place.result.0 c.index-engines-place.result (c.requires.outputs.place _ _ _ c.output_of-place.ensures.laid) c.index-engines-place.is in
    let less = c.loop-stream-test.true in let ends = c.len-stream-end.ensures in let streams = c.requires.streams in let long = c.loop-stream.invariant.1 in (
      laid_next c.args.plan.now c.args.engines.now c.loop-stream.got c.loop-stream.stream c.output_of-place.result.0 c.output_of-place.result.1 c.count.result c.index-engines-place.result c.requires.outputs c.output_of-place.ensures.laid there c.count.ensures
          (omega (arith, less, ends, streams, long)) c.loop-stream.invariant.0,
      length-set c.loop-stream.got c.loop-stream.stream c.count.result ∙ c.loop-stream.invariant.1,
    )

use Rattle.std.proofs.Common.{◌+◌, ◌∙◌, ap, sym, slice_set, true, arith}
use Rattle.mg_throttle.proofs.Sources.{MarksSources-more}
use Rattle.mg_throttle.proofs.reach.mark_sources.Goals as goal

pub loop-place-preserved : goal.loop-place-preserved
loop-place-preserved c =
    MarksSources-more c.args.sources.now c.args.inputs c.args.feeders _ c.loop-place.place c.loop-place.rows c.index-rows-sources.result _
    c.loop-place.invariant c.requires.sources (omega arith) c.requires.feeders c.index-rows-sources.is
    (c.mark.ensures ∙ ap (λ r. slice_set r (c.args.inputs + c.loop-place.place) true) (sym c.index-rows-sources.is))

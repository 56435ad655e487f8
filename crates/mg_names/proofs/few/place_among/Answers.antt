use Rattle.std.proofs.Common.{◌∙◌, sym, arith}
use Rattle.std.proofs.lemmas.Iterator.Adapters.{position_from-zero}
use Rattle.mg_names.specs.Ports.{is_at}
use Rattle.mg_names.proofs.Searched.{place_here, place_skip, place_end}
use Rattle.mg_names.proofs.few.place_among.Goals as goal

pub loop-place-init : goal.loop-place-init
loop-place-init c = position_from-zero (is_at c.args.tag.now c.args.index) c.args.ports.now

pub returns-then-is_at : goal.returns-then-is_at
returns-then-is_at c =
    sym (c.loop-place.invariant ∙ place_here c.args.tag.now c.args.index c.args.ports.now c.loop-place.place c.index-ports-place.result (omega arith) c.index-ports-place.is
    (sym c.is_at.ensures ∙ c.if-is_at.true))

pub loop-place-preserved : goal.loop-place-preserved
loop-place-preserved c =
    c.loop-place.invariant ∙ place_skip c.args.tag.now c.args.index c.args.ports.now c.loop-place.place c.index-ports-place.result (omega arith) c.index-ports-place.is
    (sym c.is_at.ensures ∙ c.if-is_at.false)

pub returns : goal.returns
returns c = sym (c.loop-place.invariant ∙ place_end c.args.tag.now c.args.index c.args.ports.now c.loop-place.place (omega arith))

use Rattle.mg_check.proofs.Grouped.{stock_more}
use Rattle.mg_check.proofs.choosing.stock_of.Goals as goal

pub loop-place-preserved : goal.loop-place-preserved
loop-place-preserved c =
    stock_more c.loop-place.stock c.add.new.self c.args.outers.now c.loop-place.place c.index-outers-place.result c.as_bytes.result.now c.in_ok-number_of.field-0 c.loop-place-test.true c.index-outers-place.is
    c.as_bytes.ensures.bytes c.in_ok-number_of.ensures c.in_ok-add.ensures c.loop-place.invariant

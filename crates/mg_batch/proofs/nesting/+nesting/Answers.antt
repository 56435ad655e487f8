use Rattle.std.proofs.Common.{sym}
use Rattle.mg_batch.proofs.Within.{items_next, items_here, entries_next, entries_here}
use Rattle.mg_batch.proofs.nesting.+nesting.Goals as goal

pub items_nest-returns-then-nests : goal.items_nest-returns-then-nests
items_nest-returns-then-nests t c = items_here c.args.levels c.args.payloads.now c.loop-payload.payload-index c.payload-item.result c.loop-payload-test.true c.payload-item.is c.if-nests.ensures

pub items_nest-loop-payload-preserved : goal.items_nest-loop-payload-preserved
items_nest-loop-payload-preserved t c =
    items_next c.args.levels c.args.payloads.now c.loop-payload.payload-index c.payload-item.result c.loop-payload-test.true c.payload-item.is (sym c.if-nests.ensures) c.loop-payload.invariant

pub entries_nest-returns-then-nests : goal.entries_nest-returns-then-nests
entries_nest-returns-then-nests t c = entries_here c.args.levels c.args.entries.now c.loop-entry.entry-index c.entry-item.result c.loop-entry-test.true c.entry-item.is c.if-nests.ensures

pub entries_nest-loop-entry-preserved : goal.entries_nest-loop-entry-preserved
entries_nest-loop-entry-preserved t c =
    entries_next c.args.levels c.args.entries.now c.loop-entry.entry-index c.entry-item.result c.loop-entry-test.true c.entry-item.is (sym c.if-nests.ensures) c.loop-entry.invariant

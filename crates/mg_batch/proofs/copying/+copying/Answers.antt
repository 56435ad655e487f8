use Rattle.std.proofs.Common.{ap, arith}
use Rattle.mg_value.specs.Plain.{depth, items_of, items_depth, entries_of, entries_depth}
use Rattle.mg_value.specs.Payload.{plain}
use Rattle.mg_batch.proofs.Within.{item_within, entry_within}
use Rattle.mg_batch.proofs.copying.+copying.Goals as goal

pub copied_items-copied-requires : goal.copied_items-copied-requires
copied_items-copied-requires t c =
    let w = item_within c.as_slice-payload-items.result.now c.loop-payload.payload-index c.payload-item.result (omega arith) in
    let s = ap (λ p. depth (plain p)) c.payload-item.is in
    let all = ap (λ ps. items_depth (items_of ps)) c.as_slice-payload-items.ensures in
    (omega (arith, w, s, all, c.decreases), tt)

pub copied_entries-copied-requires : goal.copied_entries-copied-requires
copied_entries-copied-requires t c =
    let w = entry_within c.as_slice-entry-items.result.now c.loop-entry.entry-index c.entry-item.result (omega arith) in
    let s = ap (λ e. depth (plain e.value)) c.entry-item.is in
    let all = ap (λ es. entries_depth (entries_of es)) c.as_slice-entry-items.ensures.entries in
    (omega (arith, w, s, all, c.decreases), tt)
